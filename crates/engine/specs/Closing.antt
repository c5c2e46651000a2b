-- Closing up and the questions. Of the book b that a register p represents, and of the register q that closing it up hands back, what is asked of q is answered
-- as it was of p, with the records renamed (paths/Renaming), whatever calls that meet their promises ask. That it holds is ClosingLaws.
--   PairsRenamed b p q  every pair question, by either engine, with the work that it needs for the old n: the same answer, and the list of the pairs renamed
--   ChainRenamed b p q  every chain question between records in use, with work enough for the old n: the earlier outcome renamed, and its list; none as none
-- Assumes nothing: these are definitions.
use Rattle.std.specs.Prelude.{◌≡◌, List, true, ℕ, ◌≤◌, length}
use Rattle.book.specs.Book.{Book, used}
use Rattle.answers.specs.declared.Counted.{Counted}
use Rattle.paths.specs.Verdicts.{verdict}
use Rattle.paths.specs.Questions.{Engine, work_for, chain_work, pairs_answer, list_after}
use Rattle.paths.specs.Renaming.{renamed_outcome, new_number}
use Rattle.register.specs.declared.Register.{Register}
use Rattle.query.specs.Asking.{AsksFor}
use Rattle.chains.specs.Replies.{outcome_of, Replies}
use Rattle.chains.specs.declared.ChainAnswer.{ChainAnswer}

abbrev pub PairsRenamed : Book → Register → Register → Type 0
PairsRenamed b p q = (d : Engine) (text : List ℕ) (work : ℕ) (l l₁ l₂ : List ℕ) (a₁ a₂ : Counted) → work_for d b.n ≤ work
    → AsksFor d p (verdict text) work l l₁ a₁ → AsksFor d q (verdict text) work l l₂ a₂
    → (a₂ ≡ a₁) × (l₂ ≡ list_after (renamed_outcome (new_number b) (pairs_answer d b (verdict text) work (length l))) l)

abbrev pub ChainRenamed : Book → Register → Register → Type 0
ChainRenamed b p q = (x y : ℕ) → used b.n b.sheet x ≡ true → used b.n b.sheet y ≡ true
    → (text : List ℕ) (work : ℕ) (l l₁ l₂ : List ℕ) (a₁ a₂ : ChainAnswer) → chain_work b.n ≤ work
    → Replies p x y text work l l₁ a₁ → Replies q (new_number b x) (new_number b y) text work l l₂ a₂
    → (outcome_of a₂ l₂ ≡ renamed_outcome (new_number b) (outcome_of a₁ l₁)) × (l₂ ≡ list_after (renamed_outcome (new_number b) (outcome_of a₁ l₁)) l)
