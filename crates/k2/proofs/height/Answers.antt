-- Where 2 ^ r is the power of two that n - 1 reaches, no side below 2 ^ (r + 1) is enough (`height_is`). Assumes nothing.
use Rattle.std.proofs.Common.{◌≡◌, ℕ, ◌+◌, ◌-◌, ◌*◌, ◌^◌, ◌≤◌, ◌<◌, pow-suc, add-one, arith, pow_mono}
use Rattle.std.specs.Prelude.{max}
use Rattle.std.proofs.Math.Nat.{le_antisymm}
use Rattle.std.proofs.Math.Decide.{dec_lt}
use Rattle.k2.specs.Trees.{height}
use Rattle.k2.specs.HeightLaws.{height_is, height_most}
use Rattle.k2.proofs.height.Goals as goal

height_found : (n r : ℕ) → 2 ^ r ≤ max n 2 - 1 → max n 2 - 1 < 2 * 2 ^ r → (r + 1 ≡ height n) × (n ≤ 2 ^ (r + 1))
height_found n r low high =
    let e : 2 ^ (r + 1) ≡ 2 ^ r * 2 = rw (add-one, pow-suc 2 r) in
    let enough : n ≤ 2 ^ (r + 1) = omega arith in
    (le_antisymm (least (height n) (height_is n).0 (height_is n).1) ((height_is n).2 (r + 1) (omega arith) enough), enough)
  where
    least : (k : ℕ) → 1 ≤ k → n ≤ 2 ^ k → r + 1 ≤ k
    least k p q = go (dec_lt r k)
      where
        go : Dec (r < k) → r + 1 ≤ k
        go (yes l) = omega arith
        go (no l) =
            let a : 2 ^ k ≤ 2 ^ r = pow_mono (omega arith) in
            let b : 2 ^ 1 ≤ 2 ^ k = pow_mono p in
            absurd (omega arith)

pub returns : goal.returns
returns c =
    let n = c.args.n in
    let h = height_found n c.ilog2.result (rw c.max.ensures at c.ilog2.ensures.power_le) (rw c.max.ensures at c.ilog2.ensures.next_power_gt) in
    (h.0, omega arith, omega (arith, h.0, height_most n c.requires), h.1)
