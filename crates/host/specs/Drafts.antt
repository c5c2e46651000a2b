-- What `dating_apply_all` promises of the words that a caller keeps.
--   place_unit       the unit of a place in a refusal; no cause has a number so large
--   told_draft ws a  a draft's answer told as a number of 64 bits: how many calls were made, or a refusal with the place and the number
--   Applies ws before after k
--                   what is promised of a draft with the words ws. Over any words: a refusal leaves them. Words that are no register's are refused with 16,
--                   and then 2^32 calls or more with 14, both at the place 0. Of a register's words the answer and the words after it are those that
--                   the engine promises
-- Assumes nothing: these are definitions.
use Rattle.std.specs.Prelude.{◌≡◌, List, ℕ, ◌+◌, ◌*◌, ◌≤◌, ◌<◌, length, drop}
use Rattle.book.specs.Causes.{broken_frame, not_open, number}
use Rattle.register.specs.Words.{state_words, Keeps, Foreign}
use Rattle.register.specs.declared.Register.{Register}
use Rattle.register.specs.Drafts.{Drafts}
use Rattle.register.specs.declared.Applied.{Applied}
use Rattle.register.specs.declared.DraftAnswer.{DraftAnswer}
use Rattle.register.specs.declared.DraftAnswer.TheVariants.{Made, Refused}
use Rattle.host.specs.Host.{past_counts, refusal}

abbrev pub place_unit : ℕ
place_unit = 32

abbrev pub told_draft : List ℕ → DraftAnswer → ℕ
told_draft ws Made = length ws
told_draft ws (Refused i k) = refusal (place_unit * i + k)

pub record Applies (ws before after : List ℕ) (k : ℕ) : Type 0 where
  pub refused : 2 * past_counts ≤ k → after ≡ before
  pub past : drop state_words after ≡ drop state_words before
  pub foreign : Foreign before → k ≡ refusal (number not_open)
  pub long : (r : Register) → Keeps before r → past_counts ≤ length ws → k ≡ refusal (number broken_frame)
  pub drafts : (r : Register) → Keeps before r → length ws < past_counts
      → (a : Applied) × Drafts r ws a × (k ≡ told_draft ws a.answer) × Keeps after a.register
