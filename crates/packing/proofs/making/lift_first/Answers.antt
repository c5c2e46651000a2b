-- `lift_first` takes the groups of the first word from the last on. The loop's invariant: the bits from place q on are those of f (`above`).
-- The measure is q. It rests on `lift_some` and `lift_none`. Assumes nothing.
use Rattle.packing.proofs.making.lift_first.Goals.{then-four-ne0, else-four-ne0}
use mathlib.Core.Path.{◌≡◌, sym, ◌∙◌}
use native.Mathlib.Omega.{arith}
use Rattle.k2.specs.Bits.{bit_at}
use Rattle.packing.proofs.LiftLaws.{lift_some, lift_none, above_all}
use Rattle.packing.proofs.making.lift_first.Goals as goal

pub loop-q-preserved : goal.loop-q-preserved
loop-q-preserved c =
    let l = c.loop-q in
    let four = c.four.ensures in
    elim c.if-four-ne0.branch [
      | then-four-ne0 w ↦ record {
        inside = omega arith;
        as_long = rw w.heap-is (w.set_bit.auto.words ∙ l.invariant.as_long);
        lifted = λ b f h e.
            rw w.heap-is w.set_bit.ensures ∙
            lift_some b f h (bit_at l.heap) l.q (omega arith) (l.invariant.lifted b f h e) (λ z. w.if-four-ne0.true (four ∙ z));
      }
      | else-four-ne0 w ↦ record {
        inside = omega arith;
        as_long = rw w.heap-is l.invariant.as_long;
        lifted = λ b f h e.
            rw w.heap-is (lift_none b f h (bit_at l.heap) l.q (omega arith) (l.invariant.lifted b f h e) (sym four ∙ w.if-four-ne0.false));
      }
    ]

pub returns : goal.returns
returns c =
    let l = c.loop-q in
    let z : l.q ≡ 0 = omega arith in
    λ b f h e. l.invariant.lifted b f h e ∙ rw z (above_all b f)
