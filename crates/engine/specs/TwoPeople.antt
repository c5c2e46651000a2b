-- Two people at one sheet: two adds or removes of different links, made in one order and in the other. What is claimed of them is one record; that it holds is
-- TwoPeopleLaws `two_people`. Nothing is claimed of the held edits: an undo takes back the later of the two.
--   Entered r d e o o' p p'
--                        two edits of the register r in both orders, each call made on the register that the one before handed back, by results that meet their
--                        promise: d and then e gave o and o', e and then d gave p and p'
--   SameAnswers p q      whatever is read of the registers p and q, and whatever is asked of them, by calls that meet their promises, is the same: the number
--                        of records, the words of the links, the locked and the withdrawn records, the totals; and for every text, records, work and list, the
--                        answer and the list of both questions, of pairs by trees and by rows, refusals too
--   NoAccount o o' p p'  the order is of no account: if both edits are accepted in the one order they are in the other, and both ends give the same answers
-- Assumes nothing: these are definitions.
use Rattle.std.specs.Prelude.{◌≡◌, List, Bool, ℕ, take}
use Rattle.book.specs.Book.{Edit, edit}
use Rattle.answers.specs.declared.Counted.{Counted}
use Rattle.paths.specs.Questions.{Engine}
use Rattle.paths.specs.Verdicts.{verdict}
use Rattle.register.specs.Calls.{Steps}
use Rattle.register.specs.Questions.{Sized, Listing, MarkList, Locking, Withdrawal, TotalList, Totals}
use Rattle.register.specs.declared.Register.{Register}
use Rattle.register.specs.declared.Links.{Links}
use Rattle.register.specs.declared.Outcome.{Outcome}
use Rattle.register.specs.declared.Answer.TheVariants.{Done}
use Rattle.query.specs.Asking.{AsksFor}
use Rattle.chains.specs.Replies.{Replies}
use Rattle.chains.specs.declared.ChainAnswer.{ChainAnswer}

pub record Entered (r : Register) (d e : Edit) (o o' p p' : Outcome) : Type 0 where
  pub d_first : Steps r (edit d) o
  pub e_after : Steps o.register (edit e) o'
  pub e_first : Steps r (edit e) p
  pub d_after : Steps p.register (edit d) p'

pub record SameAnswers (p q : Register) : Type 0 where
  pub size : (m n : ℕ) → Sized p m → Sized q n → m ≡ n
  pub links : (k l : Links) → Listing p k → Listing q l → take k.count k.words ≡ take l.count l.words
  pub locked : (x : ℕ) (t u : Bool) → Locking p x t → Locking q x u → t ≡ u
  pub withdrawn : (x : ℕ) (t u : Bool) → Withdrawal p x t → Withdrawal q x u → t ≡ u
  pub marks : (k l : List ℕ) → MarkList p k → MarkList q l → k ≡ l
  pub total : (l : ℕ) (t u : Counted) → Totals p l t → Totals q l u → t ≡ u
  pub totals : (k l : List ℕ) → TotalList p k → TotalList q l → k ≡ l
  pub pairs : (d : Engine) (text : List ℕ) (work : ℕ) (before after after' : List ℕ) (a a' : Counted)
      → AsksFor d p (verdict text) work before after a → AsksFor d q (verdict text) work before after' a' → (a ≡ a') × (after ≡ after')
  pub chain : (x y : ℕ) (text : List ℕ) (work : ℕ) (before after after' : List ℕ) (a a' : ChainAnswer)
      → Replies p x y text work before after a → Replies q x y text work before after' a' → (a ≡ a') × (after ≡ after')

abbrev pub NoAccount : Outcome → Outcome → Outcome → Outcome → Type 0
NoAccount o o' p p' = o.answer ≡ Done → o'.answer ≡ Done → (p.answer ≡ Done) × (p'.answer ≡ Done) × SameAnswers o'.register p'.register
