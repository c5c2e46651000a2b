-- What each call that makes or edits a register promises.
--   answer_of k      the answer of a call whose number is k: accepted if k is 0, else refused with k
--   answer_number a  an answer's number: 0 if the call is accepted, else the number of its cause
--   call_of c        the book's call of a call: an edit, or an undo
--   Opens n out     what asking for a fresh register promises
--   Steps self c out
--                   what a call promises: a refused one has the number of a cause and hands the register back as it was, whatever it contains;
--                   contents out of range are refused as those of no register; an accepted one hands back counters in range, and marks that are marks
--                   where they were; and for every book that the register represents, the answer is the book's, and the register handed back
--                   represents the book after the call
--   Closes self before after out
--                   what closing up promises, lent a list that held before and holds after then: what `Steps` says of the call with a list so long; a
--                   refused one leaves the list as it was, the words past the old n are as they were, and an accepted one hands back counters in range and
--                   marks that are marks, whatever the register contains; and for every book that the register represents, the list that the book gives
--                   is written over the front
-- Assumes nothing: these are definitions.
use Rattle.std.specs.Prelude.{◌≡◌, List, ℕ, zero, suc, length, drop}
use Rattle.book.specs.Basics.{over}
use Rattle.book.specs.Causes.{not_open, number, Caused}
use Rattle.book.specs.Book.{Book, add, remove, lock, unlock, withdraw, reinstate, Call as Book-as-Call, edit, undo, close, answer, next, given, fresh_answer}
use Rattle.book.specs.Book.{fresh}
use Rattle.register.specs.Marks.{Marked}
use Rattle.register.specs.Counters.{InRange}
use Rattle.register.specs.Representation.{Represents}
use Rattle.register.specs.declared.Register.{Register}
use Rattle.register.specs.declared.Answer.{Answer}
use Rattle.register.specs.declared.Answer.TheVariants.{Done, Refused}
use Rattle.register.specs.declared.Call.{Call}
use Rattle.register.specs.declared.Call.TheVariants.{Add, Remove, Lock, Unlock, Withdraw, Reinstate, Undo}
use Rattle.register.specs.declared.Outcome.{Outcome}

abbrev pub answer_of : ℕ → Answer
answer_of zero = Done
answer_of (suc k) = Refused (suc k)

abbrev pub answer_number : Answer → ℕ
answer_number Done = 0
answer_number (Refused k) = k

unfoldable pub call_of : Call → Book-as-Call
call_of (Add x l y) = edit (add (record { from = x; label = l; to = y }))
call_of (Remove x l y) = edit (remove (record { from = x; label = l; to = y }))
call_of (Lock r) = edit (lock r)
call_of (Unlock r) = edit (unlock r)
call_of (Withdraw r) = edit (withdraw r)
call_of (Reinstate r) = edit (reinstate r)
call_of Undo = undo

pub record Opens (n : ℕ) (out : Outcome) : Type 0 where
  pub answers : out.answer ≡ answer_of (fresh_answer n)
  pub made : fresh_answer n ≡ 0 → Represents out.register (fresh n)
  pub empty : (fresh_answer n ≡ 0 → ⊥) → Represents out.register (fresh 0)

pub record Steps (self : Register) (c : Book-as-Call) (out : Outcome) : Type 0 where
  -- over any contents: a refusal has the number of a cause
  pub caused : (k : ℕ) → out.answer ≡ Refused k → Caused k
  pub refused : (out.answer ≡ Done → ⊥) → out.register ≡ self
  pub foreign : (InRange self → ⊥) → out.answer ≡ answer_of (number not_open)
  pub formed : out.answer ≡ Done → InRange out.register × (Marked self.marks → Marked out.register.marks)
  -- of a register that represents a book
  pub answers : (b : Book) → Represents self b → out.answer ≡ answer_of (answer b c)
  pub follows : (b : Book) → Represents self b → Represents out.register (next b c)

pub record Closes (self : Register) (before after : List ℕ) (out : Outcome) : Type 0 where
  pub steps : Steps self (close (length before)) out
  -- over any contents
  pub refused : (out.answer ≡ Done → ⊥) → after ≡ before
  pub past : drop self.n after ≡ drop self.n before
  pub formed : out.answer ≡ Done → InRange out.register × Marked out.register.marks
  -- of a register that represents a book
  pub given : (b : Book) → Represents self b → after ≡ over (given b (close (length before))) before
