-- Four runs as theorems, the sample of S7.8, one of refusals, one of totals and one of withdrawn records: these frames on standard input, these lines on
-- standard output.
--   input          the frames: open 4; add 0 a 1; add 2 a 1; lock 1; add 1 b 3; pairs a/^a; undo; add 1 b 3; chain 0 to 3 a/b
--   output         the lines
--   Prints s i o   from the session s, with 4,096 words of work and any list of 4,096, a run over i prints o
--   sample         the run prints them
--   faults, refusals, refused_run
--                  a run of refused frames: the order of 15, 14 and 16; a refused open keeps the register; a cut frame ends it
--   totalled, totals, totalled_run
--                  a run that asks for totals: 16 before an open even of a label that there is not; after adds, a remove and an undo; then 3 and 14
--   struck, uses, struck_run
--                  a run that withdraws a record and reinstates it, with its refusals, both undone; pairs and a chain in between
-- Assumes nothing.
use Rattle.std.specs.Prelude.{◌≡◌, refl, List, [], ◌∷◌, ◌++◌, true, false, ℕ, ◌+◌, ◌*◌, length, drop, leb}
use Rattle.std.proofs.Common.{ap, subst, ◌∙◌, arith, leb-true}
use Rattle.book.specs.Basics.{has, without, tally}
use Rattle.book.specs.Causes.{number, first_number}
use Rattle.book.specs.Book.{Call, edit, undo, add, lock, withdraw, touched, causes, edit_answer, edited, turned, undo_answer, undone, answer, next, fresh}
use Rattle.book.specs.Book.{after}
use Rattle.book.specs.Book.{total, total_number}
use Rattle.k2.specs.PairSets.{row_pairs, rows_pairs, listed, union, transpose, most, serves, product, via, closure, diagonal}
use Rattle.k2.specs.Trees.{rise, height, tree_unit}
use Rattle.paths.specs.Expressions.{Expr, symbol, letter, sequence, stands_for, letters, depth}
use Rattle.paths.specs.Grammar.{Verdict, accepted, long, outside, Judged, verdict_cause}
use Rattle.paths.specs.Chains.{asked, Step, spell, step_words, Reply, none, chain, ChainIs, first_chain}
use Rattle.paths.specs.Relations.{crossed_by, zero_steps, cells, pairs}
use Rattle.paths.specs.Questions.{ReplyTo, pairs_of, pairs_causes, pairs_answer, steps, chain_causes, chain_answer}
use Rattle.paths.specs.Descent.{alternatives_in, read_alternatives}
use Rattle.paths.specs.Verdicts.{verdict}
use Rattle.paths.proofs.VerdictLaws.{verdict_right, accepted_same}
use Rattle.paths.proofs.PairLaws.{history_inside, withdrawn_none}
use Rattle.paths.proofs.ChainOrderLaws.{before}
use Rattle.paths.proofs.AcceptanceLaws.{parted, many, accepts}
use Rattle.paths.proofs.FirstChainLaws.{reach, steps_below, before_each, after_each, walks, walks_to, end, best, first_to, chain_to, chain_first}
use Rattle.report.specs.Report.{bytes, figures, decimal, pair_line, label_letter, sense_sign, step_line, lines, counted, ok_text, refused_text, none_text}
use Rattle.report.specs.Report.{pairs_text}
use Rattle.report.specs.Report.{chain_text, answer_text, total_text, outcome_text}
use Rattle.register.specs.History.{kind_call}
use Rattle.session.specs.Program.{program_words, min_frame, max_frame, number16, two_bytes, frame_of, shape_of, fits, called, taken, decode, Session, unopened}
use Rattle.session.specs.Program.{open_answer, engine_for, next_session, printing, Run, ended}
use Rattle.session.specs.ProgramLaws.{length_left, printed, printing_printed, Rightly, right_by}
use Rattle.session.specs.StepLaws.{frame_in, framed_as, lone_byte}

unfoldable pub input : List ℕ
input =
    frame_of 1 (4 ∷ 0 ∷ []) ++ (
    frame_of 2 (0 ∷ 0 ∷ 0 ∷ 1 ∷ 0 ∷ []) ++ (
    frame_of 2 (2 ∷ 0 ∷ 0 ∷ 1 ∷ 0 ∷ []) ++ (
    frame_of 4 (1 ∷ 0 ∷ []) ++ (
    frame_of 2 (1 ∷ 0 ∷ 1 ∷ 3 ∷ 0 ∷ []) ++ (
    frame_of 7 (bytes "a/^a") ++ (
    frame_of 6 [] ++ (
    frame_of 2 (1 ∷ 0 ∷ 1 ∷ 3 ∷ 0 ∷ []) ++ (
    frame_of 8 (0 ∷ 0 ∷ 3 ∷ 0 ∷ bytes "a/b")))))))))

unfoldable pub output : List ℕ
output = bytes "ok\nok\nok\nok\nrefused 4\npairs 4\n0 0\n0 2\n2 0\n2 2\nok\nok\nchain 2\na + 1\nb + 3\n"

abbrev pub Prints : Session → List ℕ → List ℕ → Type 0
Prints s i o = (l : List ℕ) → length l ≡ program_words → (s' : Session) × (l' : List ℕ) × Run program_words s l i o s' l'

-- one frame more
by : {s : Session} {a b : ℕ} {i : List ℕ} (o : List ℕ) (v : Verdict) (t : Reply)
    → leb min_frame (a + 256 * b) ≡ true → leb (a + 256 * b) max_frame ≡ true → leb (a + 256 * b) (length i) ≡ true
    → Rightly s (frame_in (a + 256 * b) i) v t
    → Prints (next_session s (frame_in (a + 256 * b) i)) (drop (a + 256 * b) i) o
    → Prints s (a ∷ b ∷ i) (printed program_words program_words s (frame_in (a + 256 * b) i) v t ++ o)
by {s} {a} {b} {i} o v t h k m r rest l e =
    let f = frame_in (a + 256 * b) i in
    let x = rest (printing program_words l s f v t).1 (length_left program_words l s f v t ∙ e) in (
      x.0,
      x.1,
      subst (λ (u : List ℕ). Run program_words s l (a ∷ b ∷ i) (u ++ o) x.0 x.1)
          (printing_printed program_words l s f v t ∙ ap (λ (room : ℕ). printed program_words room s f v t) e)
          (framed_as program_words a b i (drop (a + 256 * b) i) o f v t refl refl (leb-true _ _ h) (leb-true _ _ k) (leb-true _ _ m)
          (right_by s f v t r) x.2),
    )

-- the register's history in the sample, and the chain that it asks for in the end
abbrev link : ℕ → ℕ → ℕ → Call
link f l t = edit (add (record { from = f; label = l; to = t }))

abbrev history : List Call
history = link 0 0 1 ∷ link 2 0 1 ∷ edit (lock 1) ∷ link 1 1 3 ∷ undo ∷ link 1 1 3 ∷ []

abbrev forward : ℕ → ℕ → Step
forward l r = record { spelt = record { label = l; inverted = false }; reached = r }

abbrev steps_found : List Step
steps_found = forward 0 1 ∷ forward 1 3 ∷ []

abbrev a/b : Expr
a/b = sequence (symbol (letter 0)) (symbol (letter 1))

asked_last : ReplyTo (asked (after (fresh 4) history)) (accepted a/b) 0 3 (chain (step_words steps_found))
unfolding number first_number causes edit_answer edited turned undone next fresh after has without asked stands_for parted many accepts before reach steps_below
    before_each after_each walks walks_to end best first_to chain_to spell step_words letters cells most
asked_last e h =
    subst (λ (f : Expr). ChainIs (asked (after (fresh 4) history)) f 0 3 (chain (step_words steps_found))) (accepted_same h)
    (first_chain steps_found (chain_first (asked (after (fresh 4) history)) (history_inside 4 (omega arith) history) 2 a/b 0 3 steps_found refl))

last_right : Judged (bytes "a/b") (verdict (bytes "a/b"))
    × ReplyTo (asked (after (fresh 4) history)) (verdict (bytes "a/b")) 0 3 (chain (step_words steps_found))
unfolding bytes verdict read_alternatives alternatives_in letters depth
last_right = (verdict_right (bytes "a/b"), asked_last)

pub sample : Prints unopened input output
unfolding input output two_bytes frame_of bytes number16 shape_of fits kind_call called taken decode open_answer next_session printed answer_text outcome_text
    ok_text refused_text pairs_text chain_text counted lines pair_line step_line label_letter sense_sign decimal figures number first_number causes
    edit_answer edited turned undo_answer undone answer next fresh after has without verdict read_alternatives alternatives_in letters depth verdict_cause
    stands_for asked most crossed_by zero_steps diagonal transpose union serves product via closure cells row_pairs rows_pairs listed pairs pairs_of
    pairs_causes pairs_answer engine_for steps step_words chain_causes chain_answer rise height tree_unit
sample =
    by (drop 3 output) long none refl refl refl tt
    (by (drop 6 output) long none refl refl refl tt
    (by (drop 9 output) long none refl refl refl tt
    (by (drop 12 output) long none refl refl refl tt
    (by (drop 22 output) long none refl refl refl tt
    (by (drop 46 output) (verdict (bytes "a/^a")) none refl refl refl (verdict_right (bytes "a/^a"))
    (by (drop 49 output) long none refl refl refl tt
    (by (drop 52 output) long none refl refl refl tt
    (by [] (verdict (bytes "a/b")) (chain (step_words steps_found)) refl refl refl last_right
    (λ l e. (_, l, ended))))))))))

unfoldable pub faults : List ℕ
faults =
    frame_of 12 [] ++ (
    frame_of 6 (7 ∷ []) ++ (
    frame_of 6 [] ++ (
    frame_of 7 [] ++ (
    frame_of 1 (0 ∷ 0 ∷ []) ++ (
    frame_of 1 (64 ∷ 0 ∷ []) ++ (
    frame_of 4 (0 ∷ 0 ∷ []) ++ (
    frame_of 1 (65 ∷ 0 ∷ []) ++ (
    frame_of 4 (0 ∷ 0 ∷ []) ++ (
    frame_of 2 (64 ∷ 0 ∷ 26 ∷ 0 ∷ 0 ∷ []) ++ (
    frame_of 2 (0 ∷ 0 ∷ 26 ∷ 0 ∷ 0 ∷ []) ++ (
    frame_of 2 (0 ∷ 0 ∷ 0 ∷ 0 ∷ 0 ∷ []) ++ (
    frame_of 5 (1 ∷ 0 ∷ []) ++ (
    frame_of 6 [] ++ (
    frame_of 6 [] ++ (
    frame_of 7 [] ++ (
    frame_of 8 (0 ∷ 0 ∷ 3 ∷ []) ++ (
    frame_of 8 (0 ∷ 0 ∷ 3 ∷ 0 ∷ []) ++ (
    frame_of 0 (1 ∷ []) ++ (
    2 ∷ [])))))))))))))))))))

unfoldable pub refusals : List ℕ
refusals =
    bytes
    "refused 15\nrefused 14\nrefused 16\nrefused 16\nrefused 1\nok\nok\nrefused 1\nrefused 5\nrefused 2\nrefused 3\nrefused 4\nrefused 6\nok\nrefused 8\nrefused 9\nrefused 14\nrefused 9\nrefused 15\nrefused 14\n"

outside_none : (e : Expr) → outside ≡ accepted e → ⊥
outside_none e h = let z : ◌≡◌ {A = ℕ} 0 1 = cc in omega arith

none_asked : Judged [] (verdict []) × ReplyTo (asked (fresh 64)) (verdict []) 0 3 none
unfolding verdict read_alternatives alternatives_in
none_asked = (verdict_right [], λ e h. absurd (outside_none e h))

pub refused_run : Prints unopened faults refusals
unfolding faults refusals two_bytes frame_of bytes number16 shape_of fits kind_call called taken decode open_answer next_session printed answer_text
    outcome_text ok_text refused_text counted decimal figures number first_number causes edit_answer edited turned undo_answer undone answer next fresh has
    without verdict read_alternatives alternatives_in letters depth verdict_cause asked pairs_of pairs_causes pairs_answer engine_for steps chain_causes
    chain_answer
refused_run =
    by (drop 11 refusals) long none refl refl refl tt
    (by (drop 22 refusals) long none refl refl refl tt
    (by (drop 33 refusals) long none refl refl refl tt
    (by (drop 44 refusals) long none refl refl refl tt
    (by (drop 54 refusals) long none refl refl refl tt
    (by (drop 57 refusals) long none refl refl refl tt
    (by (drop 60 refusals) long none refl refl refl tt
    (by (drop 70 refusals) long none refl refl refl tt
    (by (drop 80 refusals) long none refl refl refl tt
    (by (drop 90 refusals) long none refl refl refl tt
    (by (drop 100 refusals) long none refl refl refl tt
    (by (drop 110 refusals) long none refl refl refl tt
    (by (drop 120 refusals) long none refl refl refl tt
    (by (drop 123 refusals) long none refl refl refl tt
    (by (drop 133 refusals) long none refl refl refl tt
    (by (drop 143 refusals) (verdict []) none refl refl refl (verdict_right [])
    (by (drop 154 refusals) long none refl refl refl tt
    (by (drop 164 refusals) (verdict []) none refl refl refl none_asked
    (by (drop 175 refusals) long none refl refl refl tt
    (λ l e. (_, l, lone_byte program_words))))))))))))))))))))

unfoldable pub totalled : List ℕ
totalled =
    frame_of 9 (200 ∷ []) ++ (
    frame_of 1 (4 ∷ 0 ∷ []) ++ (
    frame_of 9 (0 ∷ []) ++ (
    frame_of 2 (0 ∷ 0 ∷ 0 ∷ 1 ∷ 0 ∷ []) ++ (
    frame_of 2 (2 ∷ 0 ∷ 0 ∷ 1 ∷ 0 ∷ []) ++ (
    frame_of 2 (2 ∷ 0 ∷ 0 ∷ 1 ∷ 0 ∷ []) ++ (
    frame_of 9 (0 ∷ []) ++ (
    frame_of 3 (0 ∷ 0 ∷ 0 ∷ 1 ∷ 0 ∷ []) ++ (
    frame_of 9 (0 ∷ []) ++ (
    frame_of 6 [] ++ (
    frame_of 9 (0 ∷ []) ++ (
    frame_of 9 (25 ∷ []) ++ (
    frame_of 9 (26 ∷ []) ++ (
    frame_of 9 [])))))))))))))

unfoldable pub totals : List ℕ
totals =
    bytes "refused 16\nok\ntotal 0\nok\nok\nrefused 5\ntotal 2\nok\ntotal 1\nok\ntotal 2\ntotal 0\nrefused 3\nrefused 14\n"

pub totalled_run : Prints unopened totalled totals
unfolding totalled totals two_bytes frame_of bytes number16 shape_of fits kind_call called taken decode open_answer next_session printed answer_text
    total_text ok_text refused_text counted decimal figures number first_number causes edit_answer edited turned undo_answer undone answer next fresh has
    without total tally total_number
totalled_run =
    by (drop 11 totals) long none refl refl refl tt
    (by (drop 14 totals) long none refl refl refl tt
    (by (drop 22 totals) long none refl refl refl tt
    (by (drop 25 totals) long none refl refl refl tt
    (by (drop 28 totals) long none refl refl refl tt
    (by (drop 38 totals) long none refl refl refl tt
    (by (drop 46 totals) long none refl refl refl tt
    (by (drop 49 totals) long none refl refl refl tt
    (by (drop 57 totals) long none refl refl refl tt
    (by (drop 60 totals) long none refl refl refl tt
    (by (drop 68 totals) long none refl refl refl tt
    (by (drop 76 totals) long none refl refl refl tt
    (by (drop 86 totals) long none refl refl refl tt
    (by [] long none refl refl refl tt
    (λ l e. (_, l, ended)))))))))))))))

unfoldable pub struck : List ℕ
struck =
    frame_of 1 (2 ∷ 0 ∷ []) ++ (
    frame_of 2 (0 ∷ 0 ∷ 0 ∷ 0 ∷ 0 ∷ []) ++ (
    frame_of 10 (1 ∷ 0 ∷ []) ++ (
    frame_of 10 (1 ∷ 0 ∷ []) ++ (
    frame_of 10 (0 ∷ 0 ∷ []) ++ (
    frame_of 4 (1 ∷ 0 ∷ []) ++ (
    frame_of 7 (bytes "a*") ++ (
    frame_of 8 (1 ∷ 0 ∷ 1 ∷ 0 ∷ bytes "a*") ++ (
    frame_of 11 (1 ∷ 0 ∷ []) ++ (
    frame_of 11 (1 ∷ 0 ∷ []) ++ (
    frame_of 6 [] ++ (
    frame_of 6 [] ++ (
    frame_of 7 (bytes "a*") ++ (
    frame_of 10 (1 ∷ []))))))))))))))

unfoldable pub uses : List ℕ
uses = bytes "ok\nok\nok\nrefused 5\nrefused 17\nrefused 18\npairs 1\n0 0\nnone\nok\nrefused 6\nok\nok\npairs 2\n0 0\n1 1\nrefused 14\n"

none_from_1 : Judged (bytes "a*") (verdict (bytes "a*"))
    × ReplyTo (asked (after (fresh 2) (link 0 0 0 ∷ edit (withdraw 1) ∷ []))) (verdict (bytes "a*")) 1 1 none
unfolding number first_number causes edit_answer edited turned undone next fresh after has without touched
none_from_1 = (verdict_right (bytes "a*"), λ e h. withdrawn_none _ e 1 1 refl)

pub struck_run : Prints unopened struck uses
unfolding struck uses two_bytes frame_of bytes number16 shape_of fits kind_call called taken decode open_answer next_session printed answer_text outcome_text
    ok_text refused_text none_text pairs_text chain_text counted lines pair_line step_line label_letter sense_sign decimal figures number first_number causes
    edit_answer edited turned undo_answer undone answer next fresh after has without touched verdict read_alternatives alternatives_in letters depth
    verdict_cause stands_for asked most crossed_by zero_steps diagonal transpose union serves product via closure cells row_pairs rows_pairs listed pairs
    pairs_of pairs_causes pairs_answer engine_for steps step_words chain_causes chain_answer rise height tree_unit
struck_run =
    by (drop 3 uses) long none refl refl refl tt
    (by (drop 6 uses) long none refl refl refl tt
    (by (drop 9 uses) long none refl refl refl tt
    (by (drop 19 uses) long none refl refl refl tt
    (by (drop 30 uses) long none refl refl refl tt
    (by (drop 41 uses) long none refl refl refl tt
    (by (drop 53 uses) (verdict (bytes "a*")) none refl refl refl (verdict_right (bytes "a*"))
    (by (drop 58 uses) (verdict (bytes "a*")) none refl refl refl none_from_1
    (by (drop 61 uses) long none refl refl refl tt
    (by (drop 71 uses) long none refl refl refl tt
    (by (drop 74 uses) long none refl refl refl tt
    (by (drop 77 uses) long none refl refl refl tt
    (by (drop 93 uses) (verdict (bytes "a*")) none refl refl refl (verdict_right (bytes "a*"))
    (by [] long none refl refl refl tt
    (λ l e. (_, l, ended)))))))))))))))
