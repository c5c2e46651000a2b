-- Asked of every register that calls made, with expression and record accepted, either question is answered, and the answer is the plain book's.
--   answer_ends     the book's answer where there is no cause against the question
--   book_ends, book_starts
--                   of a register that represents a book: the number told is how many ends or starts there are, and the list has as many of them as it takes,
--                   the smallest
--   ends_made, starts_made
--                   the same after every history
-- Assumes nothing.
use Rattle.std.specs.Prelude.{◌≡◌, List, Bool, ℕ, ◌≤◌, ◌<◌, length, take}
use Rattle.std.proofs.Math.Path.{ap}
use Rattle.std.proofs.Common.{◌∙◌}
use Rattle.std.proofs.Math.Bool.{true, false}
use borrow.Author.Tests.{lt-leb, le-ltb}
use Rattle.book.specs.Causes.{number, first_number, max_records}
use Rattle.book.specs.Book.{Book, Call, fresh_answer, fresh, after}
use Rattle.paths.specs.Expressions.{Expr}
use Rattle.paths.specs.Grammar.{Verdict, accepted, verdict_cause}
use Rattle.paths.specs.Verdicts.{verdict}
use Rattle.paths.specs.Chains.{asked}
use Rattle.paths.specs.Inside.{Inside}
use Rattle.paths.proofs.PairLaws.{history_inside}
use Rattle.answers.specs.declared.Counted.{Counted}
use Rattle.answers.specs.declared.Counted.TheVariants.{Count}
use Rattle.paths.specs.Questions.{Outcome as Question-as-Outcome, paired, over, list_after, count_of, Tells}
use Rattle.register.specs.Calls.{Opens}
use Rattle.register.specs.History.{Lent, CallsMade}
use Rattle.register.specs.HistoryLaws.{history}
use Rattle.register.specs.Representation.{Represents}
use Rattle.register.specs.declared.Register.{Register}
use Rattle.register.specs.declared.Outcome.{Outcome}
use Rattle.ends.specs.Ends.{EndsAre, StartsAre, ends, starts, joined_by, ends_of, ends_causes, ends_answer}
use Rattle.ends.specs.Asking.{AsksEnds, AsksStarts}
use Rattle.ends.proofs.EndsLaws.{ends_are, starts_are}

pub answer_ends : (against : Bool) (b : Book) (x room : ℕ) → x < b.n → (v : Verdict) (e : Expr) → v ≡ accepted e
    → ends_answer against b x v room ≡ paired (length (joined_by against (asked b) e x)) (take room (joined_by against (asked b) e x))
unfolding ends_answer ends_causes first_number number verdict_cause ends_of
answer_ends against b x room hx v e a = rw (a, lt-leb b.n x hx)

-- of a register that represents a book
module _ (against : Bool) (b : Book) {x : ℕ} (hx : x < b.n) {w : Verdict} {before after' : List ℕ} {a : Counted} {e : Expr} (v : w ≡ accepted e)
    (B : Tells (ends_answer against b x w (length before)) before after' a) where
  book_joined : (a ≡ Count (length (joined_by against (asked b) e x))) × (after' ≡ over (take (length before) (joined_by against (asked b) e x)) before)
  unfolding count_of list_after
  book_joined =
      let q = answer_ends against b x (length before) hx w e v in
      (B.answer ∙ ap count_of q, B.list ∙ ap (λ (o : Question-as-Outcome). list_after o before) q)

module _ (b : Book) (I : Inside (asked b)) {x : ℕ} (hx : x < b.n) {w : Verdict} {before after' : List ℕ} {a : Counted} {e : Expr}
    (v : w ≡ accepted e) where
  pub book_ends : Tells (ends_answer false b x w (length before)) before after' a
      → (l : List ℕ) × EndsAre (asked b) e x l × (a ≡ Count (length l)) × (after' ≡ over (take (length before) l) before)
  unfolding joined_by
  book_ends B = let z = book_joined false b hx v B in (ends (asked b) e x, ends_are (asked b) I e x, z.0, z.1)

  pub book_starts : Tells (ends_answer true b x w (length before)) before after' a
      → (l : List ℕ) × StartsAre (asked b) e x l × (a ≡ Count (length l)) × (after' ≡ over (take (length before) l) before)
  unfolding joined_by
  book_starts B = let z = book_joined true b hx v B in (starts (asked b) e x, starts_are (asked b) I e x, z.0, z.1)

-- of every register that calls made, from a fresh one of n records
module _ (n : ℕ) (h : 1 ≤ n) (k : n ≤ max_records) (opened : Outcome) (O : Opens n opened) (cs : List Call) (told : List ℕ) (ls : List Lent) (r : Register)
    (run : CallsMade opened.register cs told ls r) (x : ℕ) (text before after' : List ℕ) (a : Counted) (e : Expr) (v : verdict text ≡ accepted e)
    (hx : x < (after (fresh n) cs).n) where
  represents : Represents r (after (fresh n) cs)
  unfolding fresh_answer first_number number
  represents = (history n (O.made (let z : fresh_answer n ≡ 0 = rw (le-ltb n 1 h, le-ltb max_records n k) in z)) run).2

  pub ends_made : AsksEnds r x text before after' a
      → (l : List ℕ) × EndsAre (asked (after (fresh n) cs)) e x l × (a ≡ Count (length l)) × (after' ≡ over (take (length before) l) before)
  ends_made A = book_ends (after (fresh n) cs) (history_inside n k cs) hx v (A.book (after (fresh n) cs) represents)

  pub starts_made : AsksStarts r x text before after' a
      → (l : List ℕ) × StartsAre (asked (after (fresh n) cs)) e x l × (a ≡ Count (length l)) × (after' ≡ over (take (length before) l) before)
  starts_made A = book_starts (after (fresh n) cs) (history_inside n k cs) hx v (A.book (after (fresh n) cs) represents)
