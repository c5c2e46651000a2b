-- What `keep` promises.
--   Finishes o before after k
--                   the outcome o of an edit, and the words that a caller keeps: the number of a refusal, with the words as they were; or 0, with the words
--                   of the register handed back, and those past them as they were; or 16 for an accepted one, with the words as they were, if there
--                   are too few of them or that register's counters or marks are out of range
-- Assumes nothing: these are definitions.
use Rattle.std.specs.Prelude.{◌≡◌, List, ℕ, ◌≤◌, length, drop}
use Rattle.book.specs.Causes.{not_open, number}
use Rattle.register.specs.Marks.{Marked}
use Rattle.register.specs.Counters.{InRange}
use Rattle.register.specs.Calls.{answer_number}
use Rattle.register.specs.Words.{state_words, Keeps}
use Rattle.register.specs.declared.Answer.TheVariants.{Done}
use Rattle.register.specs.declared.Outcome.{Outcome}

pub data Finishes (o : Outcome) (before after : List ℕ) (k : ℕ) : Type 0 where
  refused : (o.answer ≡ Done → ⊥) → k ≡ answer_number o.answer → after ≡ before → Finishes o before after k
  kept : o.answer ≡ Done → k ≡ 0 → Keeps after o.register → drop state_words after ≡ drop state_words before → Finishes o before after k
  lost : o.answer ≡ Done → k ≡ number not_open → after ≡ before → (state_words ≤ length before → InRange o.register → Marked o.register.marks → ⊥)
      → Finishes o before after k
