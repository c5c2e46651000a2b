-- Laws of a row that may have a column of another, word by word.
--   both_in        a column of both, in a word that is in the mask
--   both_out       none in words that are not in the mask
--   both_none      none in a word where the two have no bit in common
--   both_some      one in a word where they have
-- Assumes nothing.
use mathlib.Core.Path.{◌≡◌, sym, ap, ap₂, ◌∙◌}
use mathlib.Core.Bool.{true, true≢false}
use mathlib.Core.List.{List}
use Prim.Native.Nat.{ℕ, ◌+◌, ◌*◌, ◌/◌, ◌%◌, ◌^◌, ◌<◌, min}
use native.Mathlib.Nat.{lt_of_le_of_lt}
use native.Mathlib.Omega.{arith}
use lib.Bits.{bit_and, and_le_l}
use lib.ListN.{get_or}
use Rattle.k2.specs.Bits.{digit, bit_at}
use Rattle.k2.specs.DigitLaws.{digit_and, digit_none}
use Rattle.bits.specs.BitSets.{both, Gap}
use Rattle.grid.specs.Grid.{row_of}
use Rattle.grid.specs.Steps.{low, Meets}
use Rattle.grid.proofs.RowLaws.{row_empty, row_in}
use Rattle.grid.proofs.ScanLaws.{low_hit, low_some}

module _ (ws : List ℕ) (b m : ℕ) (rs : List ℕ) where
  both_in : (c y : ℕ) → y / 64 ≡ c → digit m c ≡ 1 → both (row_of ws b m) (bit_at rs) y ≡ digit (bit_and (get_or ws (b + c) 0) (get_or rs c 0)) (y % 64)
  unfolding both bit_at
  both_in c y e d =
      ap₂ min (row_in ws b m c y e d) (ap (λ (q : ℕ). digit (get_or rs q 0) (y % 64)) e) ∙ sym (digit_and (get_or ws (b + c) 0) (get_or rs c 0) (y % 64))

  pub both_out : (c k : ℕ) → Gap (digit m) c k → Gap (both (row_of ws b m) (bit_at rs)) (c * 64) (k * 64)
  unfolding both
  both_out c k g y h l = rw (row_empty ws b m y (g (y / 64) (omega arith) (omega arith))) (omega arith)

  pub both_none : (c : ℕ) → digit m c ≡ 1 → bit_and (get_or ws (b + c) 0) (get_or rs c 0) ≡ 0 → Gap (both (row_of ws b m) (bit_at rs)) (c * 64) (c * 64 + 64)
  both_none c d e y h l = both_in c y (omega arith) d ∙ ap (λ (v : ℕ). digit v (y % 64)) e ∙ digit_none (y % 64)

  pub both_some : (c end : ℕ) → digit m c ≡ 1 → get_or ws (b + c) 0 < 2 ^ 64 → (bit_and (get_or ws (b + c) 0) (get_or rs c 0) ≡ 0 → ⊥)
      → Meets (both (row_of ws b m) (bit_at rs)) end true
  both_some c end d f n = record { found = λ _. (c * 64 + k, hit); none = λ e. absurd (true≢false e) }
    where
      v : ℕ
      v = bit_and (get_or ws (b + c) 0) (get_or rs c 0)

      k : ℕ
      k = low v

      small : v < 2 ^ 64
      small = lt_of_le_of_lt (and_le_l (get_or ws (b + c) 0) (get_or rs c 0)) f

      inside : k < 64
      inside = low_some v small n

      hit : both (row_of ws b m) (bit_at rs) (c * 64 + k) ≡ 1
      hit =
          let q : (c * 64 + k) / 64 ≡ c = omega (arith, inside) in
          let r : (c * 64 + k) % 64 ≡ k = omega (arith, inside) in
          both_in c (c * 64 + k) q d ∙ ap (digit v) r ∙ low_hit v inside
