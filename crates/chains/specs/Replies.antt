-- What a chain question promises.
--   outcome_of r l   the outcome that the answer r says, with the steps in the first words of the list l
--   chain_counted r  the answer as one that counts: how many steps, none where there is no chain, or refused
--   BookReplies b from to text work list list' r
--                   asked of the book b: the outcome is the one that the definition gives for the reply to the question, and so is the list
--   Replies self from to text work list list' r
--                   over any contents: the answer fits the list, the words past it are as they were, all of them with a refusal or no chain, and a
--                   refusal has the number of a cause. For every book that the register represents: the answer and the list are the book's
-- Assumes nothing: these are definitions.
use Rattle.std.specs.Prelude.{◌≡◌, List, ℕ, length, take}
use Rattle.book.specs.Book.{Book}
use Rattle.answers.specs.Answers.{counted, Contained}
use Rattle.answers.specs.declared.Counted.{Counted}
use Rattle.answers.specs.declared.Counted.TheVariants.{Count, Refused as Untold}
use Rattle.paths.specs.Chains.{asked, Reply, none, chain}
use Rattle.paths.specs.Questions.{Outcome, refused, replied, ReplyTo, chain_answer, list_after}
use Rattle.paths.specs.Verdicts.{verdict}
use Rattle.register.specs.declared.Register.{Register}
use Rattle.register.specs.Representation.{Represents}
use Rattle.chains.specs.declared.ChainAnswer.{ChainAnswer}
use Rattle.chains.specs.declared.ChainAnswer.TheVariants.{Chain, NoChain, Refused}

unfoldable pub outcome_of : ChainAnswer → List ℕ → Outcome
outcome_of (Chain k) l = replied (chain (take k l))
outcome_of NoChain l = replied none
outcome_of (Refused k) l = refused k

unfoldable pub chain_counted : ChainAnswer → Counted
chain_counted (Chain k) = Count k
chain_counted NoChain = Count 0
chain_counted (Refused k) = Untold k

abbrev pub BookReplies : Book → ℕ → ℕ → List ℕ → ℕ → List ℕ → List ℕ → ChainAnswer → Type 0
BookReplies b from to text work list list' r = (t : Reply) → ReplyTo (asked b) (verdict text) from to t
    → (outcome_of r list' ≡ chain_answer b from to (verdict text) t work (length list))
    × (list' ≡ list_after (chain_answer b from to (verdict text) t work (length list)) list)

pub record Replies (self : Register) (from to : ℕ) (text : List ℕ) (work : ℕ) (list list' : List ℕ) (r : ChainAnswer) : Type 0 where
  pub contained : Contained (length list) (counted (chain_counted r)) list list' (chain_counted r)
  pub answers : (b : Book) → Represents self b → BookReplies b from to text work list list' r
