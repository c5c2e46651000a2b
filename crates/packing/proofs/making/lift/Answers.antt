-- `lift` goes through the words from the last to the second, and then through the groups of the first. The loop's invariant: the bits that
-- tell of the groups of the words from word i on are there (`above`). The measure is i. Assumes nothing.
use Prim.Native.Nat.{◌-◌, ◌*◌, ◌/◌}
use native.Mathlib.Omega.{arith}
use Rattle.k2.specs.Bits.{bit_at}
use Rattle.k2.specs.BitLaws.{bit_zero}
use Rattle.packing.proofs.LiftLaws.{lift_gap}
use Rattle.packing.proofs.making.lift.Goals as goal

pub loop-i-preserved-then-all_zero : goal.loop-i-preserved-then-all_zero
loop-i-preserved-then-all_zero c =
    let l = c.loop-i in
    let q = c.all_zero.ensures c.if-all_zero.true in
    record {
      one_left = omega arith;
      inside = omega arith;
      as_long = l.invariant.as_long;
      lifted = λ b f p k e.
          lift_gap b f p (bit_at l.heap) (16 * (l.i - 4) - 1) (16 * l.i - 1) (omega arith) (omega arith)
          (λ j x y. bit_zero l.heap j (q.1 (j / 64) (omega arith) (omega arith))) (l.invariant.lifted b f p k e);
    }
