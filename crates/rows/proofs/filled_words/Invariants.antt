-- `filled_words` tests the words of a row. The loop's invariant: the squares before s that the mask leaves out are empty. It rests on
-- `mask_set` and `mask_skip`. Assumes nothing.
use mathlib.Core.List.{List}
use mathlib.Core.Path.{◌≡◌}
use Prim.Native.Nat.{ℕ, ◌<◌, ◌*◌, ◌/◌, ◌^◌}
use Rattle.k2.specs.Bits.{digit, bit_at}
use Rattle.rows.proofs.filled_words.Given as goal

-- what holds whenever the loop is at its head
pub record Loop (row : List ℕ) (mask s : ℕ) : Type 0 where
  pub mask_below : mask < 2 ^ 16
  pub others_empty : (k : ℕ) → k < s * 64 → digit mask (k / 64) ≡ 0 → bit_at row k ≡ 0

abbrev pub invariant-loop-s : goal.invariant-loop-s
invariant-loop-s l = Loop l.row l.mask l.s
