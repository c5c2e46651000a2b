-- What the call `generations` promises.
--   outcome_of r l   the outcome that the answer r says, with its words in the first of the list l
--   generations_counted r
--                   the answer as one that counts: how many numbers, or how many steps of the loop, or refused
--   BookGenerates b ls work list list' r
--                   asked of the book b: the outcome is the book's, and so is the list
--   Generates self ls work list list' r
--                   over any contents: the answer fits the list, the words past it are as they were, all of them with a refusal, and a refusal has the
--                   number of a cause. For every book that the register represents: the outcome is the book's, and so is the list
-- Assumes nothing: these are definitions.
use Rattle.std.specs.Prelude.{◌≡◌, List, ℕ, length, take}
use Rattle.book.specs.Basics.{over}
use Rattle.book.specs.Book.{Book}
use Rattle.answers.specs.Answers.{counted, Contained}
use Rattle.answers.specs.declared.Counted.{Counted}
use Rattle.answers.specs.declared.Counted.TheVariants.{Count, Refused as Untold}
use Rattle.register.specs.declared.Register.{Register}
use Rattle.register.specs.Representation.{Represents}
use Rattle.generations.specs.Generations.{Outcome, refused, numbers, loop, written, OutcomeIs}
use Rattle.generations.specs.declared.GenerationsAnswer.{GenerationsAnswer}
use Rattle.generations.specs.declared.GenerationsAnswer.TheVariants.{Numbers, Loop, Refused}

unfoldable pub outcome_of : GenerationsAnswer → List ℕ → Outcome
outcome_of (Numbers k) l = numbers (take k l)
outcome_of (Loop k) l = loop (take k l)
outcome_of (Refused k) l = refused k

unfoldable pub generations_counted : GenerationsAnswer → Counted
generations_counted (Numbers k) = Count k
generations_counted (Loop k) = Count k
generations_counted (Refused k) = Untold k

abbrev pub BookGenerates : Book → List ℕ → ℕ → List ℕ → List ℕ → GenerationsAnswer → Type 0
BookGenerates b ls work list list' r = OutcomeIs b ls work (length list) (outcome_of r list') × (list' ≡ over (written (outcome_of r list')) list)

pub record Generates (self : Register) (ls : List ℕ) (work : ℕ) (list list' : List ℕ) (r : GenerationsAnswer) : Type 0 where
  pub contained : Contained (length list) (counted (generations_counted r)) list list' (generations_counted r)
  pub book : (b : Book) → Represents self b → BookGenerates b ls work list list' r
