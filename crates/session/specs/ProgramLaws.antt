-- Laws of the program.
--   listed_length  at most n × n pairs are listed
--   Steady s       the session's book, if any, is sound and has at most 64 records; so from the start, after every frame
--   start_steady, next_steady
--                  a session is steady at the start, and after every frame
--   length_left    a frame leaves the list as long as it was
--   printed, printing_printed
--                  what a frame prints, by the length of the list alone
--   Rightly, right_by
--                  what `Right` says, case by case
--   right_exists   every frame has a verdict and a reply, so that what it prints is always said
--   pairs_answered, chain_answered
--                  with 4,096 words of work and list, a question whose expression and records are accepted is not refused, and every pair is listed: 12 and 13
--                  never come
-- Assumes nothing.
use Rattle.std.specs.Prelude.{◌≡◌, refl, List, [], ◌∷◌, ◌++◌, Bool, ◌||◌, ℕ, zero, suc, ◌*◌, ◌^◌, ◌≤◌, ◌<◌, length, take, ltb, leb, eqb}
use Rattle.std.proofs.Common.{ap, subst, ◌∙◌, suc-mul, mul-le-mul, arith, pow_mono, length-append, length-take, take_all, le-ltb, le-leb, ltb-false}
use Rattle.std.proofs.Math.Decide.{dec_lt}
use Rattle.std.proofs.lemmas.Bool.{lt-leb}
use Rattle.book.specs.Basics.{pick}
use Rattle.book.specs.Causes.{Cause, no_record, short_work, short_list, not_open, number, first_number}
use Rattle.book.specs.Book.{Book, fresh, answer, total, total_number}
use Rattle.book.specs.Sheets.{Sound}
use Rattle.book.proofs.BookLaws.{first-none, next_sound, fresh_sound}
use Rattle.book.proofs.ListLaws.{length_over}
use Rattle.k2.specs.PairSets.{Cells, pair_word, if_set, row_pairs, rows_pairs, listed}
use Rattle.k2.specs.Trees.{height, tree_unit}
use Rattle.k2.specs.HeightLaws.{height_is}
use Rattle.paths.specs.Expressions.{Expr, letters}
use Rattle.paths.specs.Grammar.{Verdict, accepted, long, outside, large, Judged, verdict_cause}
use Rattle.paths.specs.Chains.{asked, Reply, none, chain, ChainIs, first_chain}
use Rattle.paths.specs.Relations.{pairs, cells}
use Rattle.paths.specs.Questions.{paired, replied, unless, work_for, chain_work, pairs_of, pairs_causes, pairs_answer, steps, ReplyTo, chain_causes}
use Rattle.paths.specs.Questions.{chain_answer}
use Rattle.paths.specs.Questions.{list_after}
use Rattle.paths.specs.Verdicts.{verdict}
use Rattle.paths.proofs.VerdictLaws.{verdict_right, accepted_same}
use Rattle.paths.proofs.PairLaws.{fit_inside}
use Rattle.paths.proofs.FirstChainLaws.{reply, length_step_words}
use Rattle.report.specs.Report.{refused_text, answer_text, total_text, outcome_text}
use Rattle.query.proofs.AskingLaws.{outcome_paired}
use Rattle.query.proofs.WorkLaws.{rows_few}
use Rattle.automaton.proofs.ShortChainLaws.{chains_63}
use Rattle.session.specs.Program.{program_records, program_words, Frame, asks, faulty, opens, call, pairs as pairs-asked, chain as chain-asked, totalling}
use Rattle.session.specs.Program.{Session, unopened, opened, open_answer, row_records, engine_for, next_session, Right, printing}
use Rattle.session.specs.TurnLaws.{open_none, open_many, open_fine, next_size}

-- ---- at most n × n pairs
if_set_length : (v w : ℕ) → length (if_set v w) ≤ 1
if_set_length zero w = omega arith
if_set_length (suc v) w = omega arith

row_length : (a : Cells) (x m : ℕ) → length (row_pairs a x m) ≤ m
unfolding row_pairs
row_length a x zero = omega arith
row_length a x (suc m) =
    omega (arith, length-append (row_pairs a x m) (if_set (a x m) (pair_word x m)), row_length a x m, if_set_length (a x m) (pair_word x m))

rows_length : (a : Cells) (n m : ℕ) → length (rows_pairs a n m) ≤ m * n
unfolding rows_pairs
rows_length a n zero = omega arith
rows_length a n (suc m) = omega (arith, length-append (rows_pairs a n m) (row_pairs a m n), rows_length a n m, row_length a m n, suc-mul m n)

pub listed_length : (n : ℕ) (a : Cells) → length (listed n a) ≤ n * n
unfolding listed
listed_length n a = rows_length a n n

-- ---- the tree of at most 64 records
small_tree : (n : ℕ) → n ≤ program_records → tree_unit n ≤ 86
unfolding tree_unit
small_tree n h =
    let low : height n ≤ 6 = (height_is n).2 6 (omega arith) h in
    let side : 2 ^ height n ≤ 64 = pow_mono low in
    let square : 2 ^ height n * 2 ^ height n ≤ 64 * 64 = mul-le-mul side side in
    omega arith

-- ---- the sessions of a run
abbrev pub Steady : Session → Type 0
Steady unopened = Unit
Steady (opened b) = Sound b × (b.n ≤ program_records)

pub start_steady : Steady unopened
start_steady = tt

open_steady : (n : ℕ) (s : Session) → Steady s → Dec (n < 1) → Dec (program_records < n) → Steady (pick (eqb (open_answer n) 0) (opened (fresh n)) s)
unfolding number fresh
open_steady n s h (yes i) k = rw (open_none n i) h
open_steady n s h (no i) (yes k) = rw (open_many n (omega arith) k) h
open_steady n s h (no i) (no k) = rw (open_fine n (omega arith) (omega arith)) (fresh_sound n (omega arith), omega arith)

pub next_steady : (s : Session) (f : Frame) → Steady s → Steady (next_session s f)
unfolding next_session
next_steady s (faulty c) h = h
next_steady s (opens n) h = open_steady n s h (dec_lt n 1) (dec_lt program_records n)
next_steady unopened (asks (call c)) h = tt
next_steady (opened b) (asks (call c)) h = (next_sound b c h.0, omega (arith, next_size b c, h.1))
next_steady s (asks (pairs-asked u)) h = h
next_steady s (asks (chain-asked x y u)) h = h
next_steady s (asks (totalling k)) h = h

-- ---- a frame leaves the list as long as it was
length_pairs : (k total : ℕ) (ws l : List ℕ) → length (list_after (unless k (paired total (take (length l) ws))) l) ≡ length l
unfolding list_after
length_pairs zero total ws l = length_over (take (length l) ws) l (rw length-take (omega arith))
length_pairs (suc k) total ws l = refl

length_reply : (k : ℕ) (t : Reply) (l : List ℕ) → (k ≡ 0 → length (steps t) ≤ length l) → length (list_after (unless k (replied t)) l) ≡ length l
unfolding list_after
length_reply zero t l h = length_over (steps t) l (h refl)
length_reply (suc k) t l h = refl

-- with no cause, the answer is within the room
room_enough : (v : Verdict) (c d : Cause) (short : Bool) (k room : ℕ) → first_number (verdict_cause v ++ ((c, short) ∷ (d, ltb room k) ∷ [])) ≡ 0 → k ≤ room
unfolding verdict_cause first_number number
room_enough (accepted e) c d short k room h = ltb-false _ _ (first-none d (ltb room k) [] (first-none c short ((d, ltb room k) ∷ []) h).1).0
room_enough long c d short k room h = absurd (omega arith)
room_enough outside c d short k room h = absurd (omega arith)
room_enough large c d short k room h = absurd (omega arith)

pub length_left : (work : ℕ) (l : List ℕ) (s : Session) (f : Frame) (v : Verdict) (t : Reply) → length (printing work l s f v t).1 ≡ length l
unfolding printing pairs_answer chain_answer chain_causes
length_left work l unopened (faulty c) v t = refl
length_left work l unopened (opens n) v t = refl
length_left work l unopened (asks (call c)) v t = refl
length_left work l unopened (asks (pairs-asked u)) v t = refl
length_left work l unopened (asks (chain-asked x y u)) v t = refl
length_left work l unopened (asks (totalling k)) v t = refl
length_left work l (opened b) (faulty c) v t = refl
length_left work l (opened b) (opens n) v t = refl
length_left work l (opened b) (asks (call c)) v t = refl
length_left work l (opened b) (asks (totalling k)) v t = refl
length_left work l (opened b) (asks (pairs-asked u)) v t =
    length_pairs (first_number (pairs_causes (engine_for b.n) b v work)) (length (pairs_of b v)) (pairs_of b v) l
length_left work l (opened b) (asks (chain-asked x y u)) v t =
    length_reply (first_number (chain_causes b x y v t work (length l))) t l
    (λ h. room_enough v short_work short_list (ltb work (chain_work b.n)) (length (steps t))
    (length l) (first-none no_record (leb b.n x || leb b.n y) _ h).1)

-- ---- what is printed, by the length of the list
unfoldable pub printed : ℕ → ℕ → Session → Frame → Verdict → Reply → List ℕ
printed work room s (faulty c) v t = refused_text (number c)
printed work room s (opens n) v t = answer_text (open_answer n)
printed work room unopened (asks q) v t = refused_text (number not_open)
printed work room (opened b) (asks (call c)) v t = answer_text (answer b c)
printed work room (opened b) (asks (pairs-asked u)) v t = outcome_text (pairs_answer (engine_for b.n) b v work room)
printed work room (opened b) (asks (chain-asked x y u)) v t = outcome_text (chain_answer b x y v t work room)
printed work room (opened b) (asks (totalling k)) v t = total_text (total_number k) (total b.sheet k)

pub printing_printed : (work : ℕ) (l : List ℕ) (s : Session) (f : Frame) (v : Verdict) (t : Reply)
    → (printing work l s f v t).0 ≡ printed work (length l) s f v t
unfolding printing printed
printing_printed work l s (faulty c) v t = refl
printing_printed work l s (opens n) v t = refl
printing_printed work l unopened (asks q) v t = refl
printing_printed work l (opened b) (asks (call c)) v t = refl
printing_printed work l (opened b) (asks (pairs-asked u)) v t = refl
printing_printed work l (opened b) (asks (chain-asked x y u)) v t = refl
printing_printed work l (opened b) (asks (totalling k)) v t = refl

-- ---- every frame has a verdict and a reply
reply_exists : (b : Book) → Sound b → (v : Verdict) (x y : ℕ) → (t : Reply) × ReplyTo (asked b) v x y t
reply_exists b h (accepted e) x y =
    let r = reply (asked b) (fit_inside b h.sheet) e x y in
    (r.0, λ f k. subst (λ (d : Expr). ChainIs (asked b) d x y r.0) (accepted_same k) r.1)
reply_exists b h long x y = (none, λ e k. absurd (let z : ◌≡◌ {A = ℕ} 0 1 = cc in omega arith))
reply_exists b h outside x y = (none, λ e k. absurd (let z : ◌≡◌ {A = ℕ} 0 1 = cc in omega arith))
reply_exists b h large x y = (none, λ e k. absurd (let z : ◌≡◌ {A = ℕ} 0 1 = cc in omega arith))

abbrev pub Rightly : Session → Frame → Verdict → Reply → Type 0
Rightly (opened b) (asks (pairs-asked u)) v t = Judged u v
Rightly (opened b) (asks (chain-asked x y u)) v t = Judged u v × ReplyTo (asked b) v x y t
Rightly (opened b) (asks (totalling l)) v t = Unit
Rightly (opened b) (asks (call c)) v t = Unit
Rightly (opened b) (opens n) v t = Unit
Rightly (opened b) (faulty c) v t = Unit
Rightly unopened f v t = Unit

no_question : {s : Session} {f : Frame} {v : Verdict} {t : Reply} → ((u : List ℕ) → f ≡ asks (pairs-asked u) → ⊥)
    → ((x y : ℕ) (u : List ℕ) → f ≡ asks (chain-asked x y u) → ⊥) → Right s f v t
no_question p c = record { text = λ b u e z. absurd (p u z); reply = λ b x y u e z. absurd (c x y u z) }

pub right_by : (s : Session) (f : Frame) (v : Verdict) (t : Reply) → Rightly s f v t → Right s f v t
right_by unopened f v t q = record {
  text = λ b u e z. absurd (let y : ◌≡◌ {A = ℕ} 0 1 = cc in omega arith);
  reply = λ b x y u e z. absurd (let w : ◌≡◌ {A = ℕ} 0 1 = cc in omega arith);
}
right_by (opened b) (faulty c) v t q =
    no_question (λ u z. let y : ◌≡◌ {A = ℕ} 0 1 = cc in omega arith) (λ x y u z. let w : ◌≡◌ {A = ℕ} 0 1 = cc in omega arith)
right_by (opened b) (opens n) v t q =
    no_question (λ u z. let y : ◌≡◌ {A = ℕ} 0 1 = cc in omega arith) (λ x y u z. let w : ◌≡◌ {A = ℕ} 0 1 = cc in omega arith)
right_by (opened b) (asks (call c)) v t q =
    no_question (λ u z. let y : ◌≡◌ {A = ℕ} 0 1 = cc in omega arith) (λ x y u z. let w : ◌≡◌ {A = ℕ} 0 1 = cc in omega arith)
right_by (opened b) (asks (totalling l)) v t q =
    no_question (λ u z. let y : ◌≡◌ {A = ℕ} 0 1 = cc in omega arith) (λ x y u z. let w : ◌≡◌ {A = ℕ} 0 1 = cc in omega arith)
right_by (opened b) (asks (pairs-asked u)) v t q = record {
  text = λ c w e z. let same : u ≡ w = cc in subst (λ (d : List ℕ). Judged d v) same q;
  reply = λ c x y w e z. absurd (let y : ◌≡◌ {A = ℕ} 0 1 = cc in omega arith);
}
right_by (opened b) (asks (chain-asked x y u)) v t q = record {
  text = λ c w e z. absurd (let y : ◌≡◌ {A = ℕ} 0 1 = cc in omega arith);
  reply = λ c i j w e z.
      let same-book : b ≡ c = cc in
      let same-x : x ≡ i = cc in
      let same-y : y ≡ j = cc in
      let same_text : u ≡ w = cc in (
        subst (λ (d : List ℕ). Judged d v) same_text q.0,
        subst (λ (d : Book). ReplyTo (asked d) v i j t) same-book
            (subst (λ (m : ℕ). ReplyTo (asked b) v m j t) same-x (subst (λ (m : ℕ). ReplyTo (asked b) v x m t) same-y q.1)),
      );
}

rightly_exists : (s : Session) (f : Frame) → Steady s → (v : Verdict) × (t : Reply) × Rightly s f v t
rightly_exists unopened f h = (long, none, tt)
rightly_exists (opened b) (faulty c) h = (long, none, tt)
rightly_exists (opened b) (opens n) h = (long, none, tt)
rightly_exists (opened b) (asks (call c)) h = (long, none, tt)
rightly_exists (opened b) (asks (totalling k)) h = (long, none, tt)
rightly_exists (opened b) (asks (pairs-asked u)) h = (verdict u, none, verdict_right u)
rightly_exists (opened b) (asks (chain-asked x y u)) h =
    let r = reply_exists b h.0 (verdict u) x y in
    (verdict u, r.0, (verdict_right u, r.1))

pub right_exists : (s : Session) (f : Frame) → Steady s → (v : Verdict) × (t : Reply) × Right s f v t
right_exists s f h = let r = rightly_exists s f h in (r.0, r.1, right_by s f r.0 r.1 r.2)

-- ---- with 4,096 words each, no question is refused for room
program_work : (n : ℕ) → n ≤ program_records → work_for (engine_for n) n ≤ program_words
unfolding engine_for
program_work n h = go (dec_lt row_records n)
  where
    go : Dec (row_records < n) → work_for (engine_for n) n ≤ program_words
    go (yes l) = rw (lt-leb n row_records l) (omega (arith, small_tree n h))
    go (no l) = rw (le-leb n row_records (omega arith)) (omega (arith, rows_few n (omega arith)))

pub pairs_answered : (b : Book) (e : Expr) → b.n ≤ program_records
    → pairs_answer (engine_for b.n) b (accepted e) program_words program_words ≡ paired (length (pairs (asked b) e)) (pairs (asked b) e)
unfolding pairs asked
pairs_answered b e h =
    let square : b.n * b.n ≤ 64 * 64 = mul-le-mul h h in
    let few : length (listed b.n (cells (asked b) e)) ≤ program_words = omega (arith, listed_length b.n (cells (asked b) e)) in
    outcome_paired (engine_for b.n) b program_words program_words e (program_work b.n h)
    ∙ ap (paired (length (pairs (asked b) e))) (take_all program_words (pairs (asked b) e) few)

steps_few : (b : Book) → Sound b → b.n ≤ program_records → (e : Expr) → letters e ≤ 63
    → (x y : ℕ) (t : Reply) → ChainIs (asked b) e x y t → length (steps t) ≤ program_words
unfolding steps asked
steps_few b h m e l x y none r = omega arith
steps_few b h m e l x y (chain ws) (first_chain ss f) = omega (arith, length_step_words ss, chains_63 (asked b) (fit_inside b h.sheet) e l x y ss f)

pub chain_answered : (b : Book) → Sound b → b.n ≤ program_records → (e : Expr)
    → letters e ≤ 63 → (x y : ℕ) → x < b.n → y < b.n → (t : Reply) → ChainIs (asked b) e x y t
    → chain_answer b x y (accepted e) t program_words program_words ≡ replied t
unfolding chain_answer chain_causes verdict_cause first_number
chain_answered b h m e l x y i j t r =
    let work : 64 * b.n ≤ program_words = omega arith in
    rw (lt-leb b.n x i, lt-leb b.n y j, le-ltb program_words (64 * b.n) work, le-ltb program_words (length (steps t)) (steps_few b h m e l x y t r))
