-- One record more, in use (`count_used`) or not (`count_out`). Assumes nothing.
use Rattle.std.proofs.Common.{arith, ◌∙◌, refl}
use Rattle.generations.specs.Inner.{chosen}
use Rattle.generations.proofs.NumberLaws.{count_used, count_out}
use Rattle.generations.proofs.count_in_use.Goals as goal
use Rattle.generations.proofs.count_in_use.Goals.{then-marks-y-ne-WITHDRAWN_MARK, else-marks-y-ne-WITHDRAWN_MARK}

pub loop-y-init : goal.loop-y-init
unfolding chosen
loop-y-init c = record { inside = omega arith; count_most = omega arith; counted = λ ds. refl }

pub loop-y-preserved : goal.loop-y-preserved
loop-y-preserved c =
    let l = c.loop-y in
    elim c.if-marks-y-ne-WITHDRAWN_MARK.branch [
      | then-marks-y-ne-WITHDRAWN_MARK w ↦ record {
        inside = omega arith;
        count_most = omega (arith, w.count-is);
        counted = λ ds. w.count-is ∙ count_used c.args.marks.now ds l.count l.y w.if-marks-y-ne-WITHDRAWN_MARK.true (l.invariant.counted ds);
      }
      | else-marks-y-ne-WITHDRAWN_MARK w ↦ record {
        inside = omega arith;
        count_most = omega (arith, w.count-is);
        counted = λ ds. w.count-is ∙ count_out c.args.marks.now ds l.count l.y w.if-marks-y-ne-WITHDRAWN_MARK.false (l.invariant.counted ds);
      }
    ]
