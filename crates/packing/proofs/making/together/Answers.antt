-- `together` takes the words one after another. The loop's invariant: w has each bit that one of the words passed has. The measure is the words left.
-- Assumes nothing.
use Prim.Native.Nat.{ℕ, ◌+◌, ◌*◌}
use native.Mathlib.Omega.{arith}
use lib.ListN.{get_or}
use Rattle.packing.proofs.StoreLaws.{or_more, or_digits}
use Rattle.packing.proofs.making.together.Goals as goal

pub loop-k-preserved : goal.loop-k-preserved
loop-k-preserved c =
    let a = c.args in
    let l = c.loop-k in
    let x : ℕ → ℕ = λ j. get_or a.words.now (a.i + a.step * j) 0 in
    record { inside = omega arith; all_zero = or_more x l.w l.k l.invariant.all_zero; together = or_digits x l.w l.k l.invariant.together }
