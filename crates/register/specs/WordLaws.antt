-- Laws of a register's words: how many they are, what stands where, that they are the words of one register, which words are a register's, and when they
-- are loaded.
--   words_long, keeps_long
--                  how many words a register has, and that a state which keeps one is no shorter
--   keeps_number, keeps_links, keeps_marks, keeps_totals
--                  its counters, links, marks and totals, each at its place
--   keeps_same     words are those of one register
--   keeps_mark, keeps_total
--                  the mark of a record, and the total of a label, among the words is the register's
--   keeps_sized, keeps_listing, keeps_mark_list, keeps_total_list, keeps_locking, keeps_withdrawal
--                  what is promised of size, links, marks, totals, locks and withdrawals holds of what the register keeps
--   of_foreign, of_kept
--                  what is read of words that are no register's, and of a register's
--   part_long      how long a part of words is
--   loaded         words of the form, with their parts read out, keep the register of these parts
--   formed_keeps, keeps_formed
--                  words have the form if they are a register's, and no others
--   load_done      the number 0 says that they were loaded
--   edit_foreign, edit_stepped
--                  what an edit promises of words that are no register's, and of a register's
-- Assumes nothing.
use Rattle.std.specs.Prelude.{◌≡◌, refl, ℕ, ◌+◌, ◌≤◌, ◌<◌, length, take, drop}
use Rattle.std.proofs.Common.{sym, subst, ◌∙◌, arith, length-append, length-take, length-drop, take_at, drop_at, get_or-take, get_or-drop, take-add}
use Rattle.std.proofs.Common.{length-take-le}
use Rattle.std.proofs.Math.Path.{ap}
use mathlib.Core.List.{List, [], ◌∷◌, ◌++◌}
use Rattle.std.proofs.Math.ListN.{get_or}
use Rattle.book.specs.Causes.{not_open, number, labels, max_links, max_held, max_records}
use Rattle.book.specs.Book.{Call}
use Rattle.register.specs.Calls.{answer_number, Steps}
use Rattle.register.specs.HistoryLaws.{answer_done}
use Rattle.register.specs.Marks.{free_mark, lock_mark, withdrawn_mark, has_mark}
use Rattle.register.specs.MarkLaws.{shows_locked, shows_withdrawn}
use Rattle.register.specs.Questions.{Sized, Listing, MarkList, Locking, Withdrawal, TotalList}
use Rattle.register.specs.Inner.{Formed, KeepsOne, mark_in}
use Rattle.register.specs.Words.{state_words, links_at, ring_at, marks_at, totals_at, numbers_of, state_of, Keeps, Foreign, OfWords, Edits}
use Rattle.register.specs.Inner.{Loads}
use Rattle.register.specs.declared.Register.{Register}
use Rattle.register.specs.declared.Answer.{Answer}
use Rattle.register.specs.declared.Answer.TheVariants.{Done, Refused}
use Rattle.register.specs.declared.Outcome.{Outcome}

-- the halves of two lists that are the same, parted at the same place
parted : (a b a' b' : List ℕ) → length a ≡ length a' → a ++ b ≡ a' ++ b' → (a ≡ a') × (b ≡ b')
parted a b a' b' l e = (
  sym (take_at a b (length a) refl) ∙ ap (take (length a)) e ∙ take_at a' b' (length a) (sym l),
  sym (drop_at a b (length a) refl) ∙ ap (drop (length a)) e ∙ drop_at a' b' (length a) (sym l),
)

-- the lengths of the front before each part
ring_front : (r : Register) → length (numbers_of r ++ r.links) ≡ 4 + length r.links
ring_front r = length-append (numbers_of r) r.links

marks_front : (r : Register) → length (numbers_of r ++ r.links ++ r.ring) ≡ 4 + length r.links + length r.ring
marks_front r = length-append (numbers_of r ++ r.links) r.ring ∙ ap (λ (k : ℕ). k + length r.ring) (ring_front r)

totals_front : (r : Register) → length (numbers_of r ++ r.links ++ r.ring ++ r.marks) ≡ 4 + length r.links + length r.ring + length r.marks
totals_front r =
    length-append (numbers_of r ++ r.links ++ r.ring) r.marks
    ∙ ap (λ (k : ℕ). k + length r.marks) (marks_front r)

pub words_long : (r : Register) → length (state_of r) ≡ 4 + length r.links + length r.ring + length r.marks + length r.totals
words_long r =
    length-append (numbers_of r ++ r.links ++ r.ring ++ r.marks) r.totals
    ∙ ap (λ (k : ℕ). k + length r.totals) (totals_front r)

-- a front and what follows it, of words that begin with both
parts : (ws front xs : List ℕ) (at k : ℕ) → at ≤ length ws → length front ≡ at → take (at + k) ws ≡ front ++ xs
    → (take at ws ≡ front) × (take k (drop at ws) ≡ xs)
parts ws front xs at k h l e = parted (take at ws) (take k (drop at ws)) front xs (length-take-le at ws h ∙ sym l) (sym (take-add at k ws) ∙ e)

module _ {ws : List ℕ} {r : Register} (k : Keeps ws r) where
  pub keeps_long : state_words ≤ length ws
  keeps_long = omega (arith, length-take state_words ws, ap length k.words, words_long r, k.links, k.ring, k.marks, k.totals)

  to_totals : (take totals_at ws ≡ numbers_of r ++ r.links ++ r.ring ++ r.marks) × (take labels (drop totals_at ws) ≡ r.totals)
  to_totals =
      parts ws (numbers_of r ++ r.links ++ r.ring ++ r.marks) r.totals totals_at labels (omega (arith, keeps_long))
      (omega (arith, totals_front r, k.links, k.ring, k.marks)) k.words

  to_marks : (take marks_at ws ≡ numbers_of r ++ r.links ++ r.ring) × (take max_records (drop marks_at ws) ≡ r.marks)
  to_marks =
      parts ws (numbers_of r ++ r.links ++ r.ring) r.marks marks_at max_records (omega (arith, keeps_long))
      (omega (arith, marks_front r, k.links, k.ring)) to_totals.0

  to_ring : (take ring_at ws ≡ numbers_of r ++ r.links) × (take max_held (drop ring_at ws) ≡ r.ring)
  to_ring =
      parts ws (numbers_of r ++ r.links) r.ring ring_at max_held (omega (arith, keeps_long)) (omega (arith, ring_front r, k.links)) to_marks.0

  to_links : (take links_at ws ≡ numbers_of r) × (take max_links (drop links_at ws) ≡ r.links)
  to_links = parts ws (numbers_of r) r.links links_at max_links (omega (arith, keeps_long)) refl to_ring.0

  -- the parts of a register, each at its place
  pub keeps_number : (i : ℕ) → i < links_at → get_or ws i 0 ≡ get_or (numbers_of r) i 0
  keeps_number i h = sym (get_or-take links_at ws i 0 h) ∙ ap (λ (t : List ℕ). get_or t i 0) to_links.0

  pub keeps_links : take max_links (drop links_at ws) ≡ r.links
  keeps_links = to_links.1

  keeps_ring : take max_held (drop ring_at ws) ≡ r.ring
  keeps_ring = to_ring.1

  pub keeps_marks : take max_records (drop marks_at ws) ≡ r.marks
  keeps_marks = to_marks.1

  pub keeps_totals : take labels (drop totals_at ws) ≡ r.totals
  keeps_totals = to_totals.1

module _ {ws : List ℕ} {r s : Register} (k : Keeps ws r) (l : Keeps ws s) where
  number_same : (i : ℕ) → i < links_at → get_or (numbers_of r) i 0 ≡ get_or (numbers_of s) i 0
  number_same i h = sym (keeps_number k i h) ∙ keeps_number l i h

  pub keeps_same : r ≡ s
  keeps_same =
      let n : r.n ≡ s.n = number_same 0 (omega arith) in
      let count : r.count ≡ s.count = number_same 1 (omega arith) in
      let top : r.top ≡ s.top = number_same 2 (omega arith) in
      let held : r.held ≡ s.held = number_same 3 (omega arith) in
      let links = sym (keeps_links k) ∙ keeps_links l in
      let ring = sym (keeps_ring k) ∙ keeps_ring l in
      let marks = sym (keeps_marks k) ∙ keeps_marks l in
      let totals = sym (keeps_totals k) ∙ keeps_totals l in
      λ i. record { n = n i; count = count i; links = links i; marks = marks i; ring = ring i; top = top i; held = held i; totals = totals i }

-- ---- what is read of a register's words
module _ {ws : List ℕ} {r : Register} (k : Keeps ws r) where
  pub keeps_mark : (x : ℕ) → mark_in ws x ≡ get_or r.marks x free_mark
  unfolding mark_in
  keeps_mark x = ap (λ (l : List ℕ). get_or l x free_mark) (keeps_marks k)

  pub keeps_total : (l : ℕ) → l < labels → get_or ws (totals_at + l) 0 ≡ get_or r.totals l 0
  keeps_total l h =
      sym (get_or-drop totals_at ws l 0) ∙ sym (get_or-take labels (drop totals_at ws) l 0 h) ∙ ap (λ (ts : List ℕ). get_or ts l 0) (keeps_totals k)

  pub keeps_sized : Sized r r.n
  keeps_sized = record { small = k.ranged.size; foreign = λ o. absurd (o k.ranged); size = λ b h. h.size }

  pub keeps_listing : Listing r (record { words = r.links; count = r.count })
  keeps_listing =
      record { few = k.ranged.count; long = k.links; foreign = λ o. absurd (o k.ranged); linked = λ b h. h.sheet.links }

  pub keeps_mark_list : MarkList r r.marks
  keeps_mark_list = record { long = k.marks; foreign = λ o. absurd (o k.ranged); marks = λ b h. h.sheet.marks }

  pub keeps_total_list : TotalList r r.totals
  keeps_total_list = record { long = k.totals; foreign = λ o. absurd (o k.ranged); totals = λ b h. h.totals }

  pub keeps_locking : (x : ℕ) → Locking r x (has_mark lock_mark r.marks x)
  keeps_locking x = record { foreign = λ o. absurd (o k.ranged); locked = λ b h. shows_locked h.sheet x }

  pub keeps_withdrawal : (x : ℕ) → Withdrawal r x (has_mark withdrawn_mark r.marks x)
  keeps_withdrawal x = record { foreign = λ o. absurd (o k.ranged); withdrawn = λ b h. shows_withdrawn h.sheet x }

module _ {A : Type 0} {ws : List ℕ} {P : Register → A → Type 0} {none a : A} where
  pub of_foreign : Foreign ws → a ≡ none → OfWords ws P none a
  of_foreign f e = record { kept = λ r k. absurd (f r k); foreign = λ _. e }

  pub of_kept : {r : Register} → Keeps ws r → P r a → OfWords ws P none a
  of_kept {r} k p = record { kept = λ s l. subst (λ (t : Register). P t a) (keeps_same k l) p; foreign = λ f. absurd (f r k) }

-- ---- which words are a register's: those of the form, no others
four : (ws : List ℕ) → 4 ≤ length ws → take 4 ws ≡ get_or ws 0 0 ∷ get_or ws 1 0 ∷ get_or ws 2 0 ∷ get_or ws 3 0 ∷ []
four [] h = absurd (omega arith)
four (a ∷ []) h = absurd (omega arith)
four (a ∷ b ∷ []) h = absurd (omega arith)
four (a ∷ b ∷ c ∷ []) h = absurd (omega arith)
four (a ∷ b ∷ c ∷ d ∷ ws) h = refl

pub part_long : (ws : List ℕ) (i k : ℕ) → i + k ≤ length ws → length (take k (drop i ws)) ≡ k
part_long ws i k h = length-take-le k (drop i ws) (omega (arith, length-drop i ws))

pub loaded : (ws ls rs ks ts : List ℕ) → Formed ws
    → ls ≡ take max_links (drop links_at ws) → rs ≡ take max_held (drop ring_at ws) → ks ≡ take max_records (drop marks_at ws)
    → ts ≡ take labels (drop totals_at ws)
    → Keeps ws (record { n = get_or ws 0 0; count = get_or ws 1 0; links = ls; marks = ks; ring = rs; top = get_or ws 2 0; held = get_or ws 3 0; totals = ts })
loaded ws ls rs ks ts f e g h t = record {
  ranged = f.ranged;
  links = ap length e ∙ part_long ws links_at max_links (omega (arith, f.long));
  ring = ap length g ∙ part_long ws ring_at max_held (omega (arith, f.long));
  marked = rw h f.marked;
  marks = ap length h ∙ part_long ws marks_at max_records (omega (arith, f.long));
  totals = ap length t ∙ part_long ws totals_at labels (omega (arith, f.long));
  words = take-add totals_at labels ws ∙ ap (λ (u : List ℕ). take totals_at ws ++ u) (sym t) ∙ ap (λ (u : List ℕ). u ++ ts) marked;
}
  where
    front : take marks_at ws ≡ (get_or ws 0 0 ∷ get_or ws 1 0 ∷ get_or ws 2 0 ∷ get_or ws 3 0 ∷ []) ++ ls ++ rs
    front =
        take-add ring_at max_held ws ∙ ap (λ (t : List ℕ). take ring_at ws ++ t) (sym g)
        ∙ ap (λ (t : List ℕ). t ++ rs) (take-add links_at max_links ws ∙ ap (λ (t : List ℕ). take links_at ws ++ t) (sym e)
        ∙ ap (λ (t : List ℕ). t ++ ls) (four ws (omega (arith, f.long))))

    marked : take totals_at ws ≡ (get_or ws 0 0 ∷ get_or ws 1 0 ∷ get_or ws 2 0 ∷ get_or ws 3 0 ∷ []) ++ ls ++ rs ++ ks
    marked = take-add marks_at max_records ws ∙ ap (λ (u : List ℕ). take marks_at ws ++ u) (sym h) ∙ ap (λ (u : List ℕ). u ++ ks) front

pub formed_keeps : (ws : List ℕ) → Formed ws → KeepsOne ws
formed_keeps ws f = (_, loaded ws _ _ _ _ f refl refl refl refl)

pub keeps_formed : (ws : List ℕ) → KeepsOne ws → Formed ws
keeps_formed ws (r, k) = record {
  long = keeps_long k;
  ranged = rw (keeps_number k 0 (omega arith), keeps_number k 1 (omega arith), keeps_number k 2 (omega arith), keeps_number k 3 (omega arith)) k.ranged;
  marked = rw (keeps_marks k) k.marked;
}

-- the number 0 says that they were loaded
pub load_done : {ws : List ℕ} {o : Outcome} → Loads ws o → answer_number o.answer ≡ 0 → o.answer ≡ Done
load_done {o = o} l z = go o.answer refl
  where
    go : (a : Answer) → o.answer ≡ a → o.answer ≡ Done
    go Done e = e
    go (Refused k) e = answer_done o.answer (number not_open) (l.refused (λ d. let u : ◌≡◌ {A = ℕ} 0 1 = cc in omega arith)).0 z

-- ---- edits
pub edit_foreign : (c : Call) (ws : List ℕ) → Foreign ws → Edits c ws ws (number not_open)
edit_foreign c ws f = record { refused = λ _. refl; past = refl; foreign = λ _. refl; steps = λ r k. absurd (f r k) }

pub edit_stepped : {c : Call} {before after : List ℕ} {k : ℕ} {r : Register} (o : Outcome) → Keeps before r → ((k ≡ 0 → ⊥) → after ≡ before)
    → drop state_words after ≡ drop state_words before → Steps r c o → k ≡ answer_number o.answer → Keeps after o.register → Edits c before after k
edit_stepped {c} {before} {after} {k} {r} o w e p t q v = record {
  refused = e;
  past = p;
  foreign = λ f. absurd (f r w);
  steps =
      λ s u. subst (λ (x : Register). (y : Outcome) × Steps x c y × (k ≡ answer_number y.answer) × Keeps after y.register) (keeps_same w u) (o, t, q, v);
}
