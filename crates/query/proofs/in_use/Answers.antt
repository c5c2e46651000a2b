-- None are in use below 0; one record more by `used_more`, or by `used_same` if it is withdrawn. Assumes nothing.
use Rattle.std.proofs.Common.{sym, ap, ◌∙◌, length, arith, eq-eqb, ne_eqb}
use Rattle.k2.specs.Bits.{bit_at}
use Rattle.bits.specs.BitSets.{put}
use Rattle.bits.specs.BitSetLaws.{bits_none}
use Rattle.query.proofs.UsedLaws.{used_none, used_more, used_same}
use Rattle.query.proofs.in_use.Goals as goal
use Rattle.query.proofs.in_use.Goals.{then-marks-i-ne-WITHDRAWN_MARK, else-marks-i-ne-WITHDRAWN_MARK}

pub loop-i-init : goal.loop-i-init
loop-i-init c = (omega arith, omega arith, bits_none 16 ∙ sym (used_none c.args.marks.now))

pub loop-i-preserved : goal.loop-i-preserved
loop-i-preserved c =
    elim c.if-marks-i-ne-WITHDRAWN_MARK.branch [
      | then-marks-i-ne-WITHDRAWN_MARK w ↦ (
        omega arith,
        omega (arith, ap length w.records-is, w.set_bit.auto.words),
        ap bit_at w.records-is ∙ w.set_bit.ensures ∙ ap (put c.loop-i.i 1) c.loop-i.invariant.2 ∙
            used_more c.args.marks.now c.loop-i.i (ne_eqb _ _ w.if-marks-i-ne-WITHDRAWN_MARK.true),
      )
      | else-marks-i-ne-WITHDRAWN_MARK w ↦ (
        omega arith,
        ap length w.records-is ∙ c.loop-i.invariant.1,
        ap bit_at w.records-is ∙ c.loop-i.invariant.2 ∙ used_same c.args.marks.now c.loop-i.i (eq-eqb _ _ w.if-marks-i-ne-WITHDRAWN_MARK.false),
      )
    ]
