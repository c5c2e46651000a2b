-- Turns of the loop of `morton_place`. Assumes nothing.
use mathlib.Core.Path.{◌≡◌}
use Prim.Native.Nat.{ℕ, zero, suc, ◌+◌, ◌-◌, ◌*◌, ◌/◌, ◌%◌, ◌^◌, ◌≤◌, ◌<◌}
use native.Mathlib.Nat.{mul-suc, mod-lt}
use native.Mathlib.Omega.{arith}
use lib.Pow.{pow_pos}
use Rattle.k2.specs.Heap.{place}
use Rattle.k2.specs.SizeLaws.{four_most}
use Rattle.k2.specs.PlaceLaws.{four_pos, place_lt, place_step}

le_mul : (z x : ℕ) → 0 < x → z ≤ z * x
le_mul z zero h = absurd (omega arith)
le_mul z (suc x) h = rw mul-suc (omega arith)

pub place_turn : (k x y z : ℕ) → 0 < k
    → z * 4 ^ k + place k (x % 2 ^ k) (y % 2 ^ k) ≡ (z * 4 + x / 2 ^ (k - 1) % 2 * 2 + y / 2 ^ (k - 1) % 2) * 4 ^ (k - 1)
    + place (k - 1) (x % 2 ^ (k - 1)) (y % 2 ^ (k - 1))
place_turn zero x y z h = absurd (omega arith)
place_turn (suc k) x y z h = let e : suc k - 1 ≡ k = omega arith in rw e (place_step k x y z)

pub place_small : (h x y z k w : ℕ) → h ≤ 10 → place h (x % 2 ^ h) (y % 2 ^ h) ≡ z * 4 ^ k + w → z ≤ 1048576
place_small h x y z k w l e =
    omega (arith, le_mul z (4 ^ k) (four_pos k), place_lt h (x % 2 ^ h) (y % 2 ^ h) (mod-lt x (pow_pos h)) (mod-lt y (pow_pos h)), four_most h l)
