-- One record more, in use (`wrote_used`) or not (`wrote_out`). Assumes nothing.
use Rattle.std.proofs.Common.{arith, refl}
use Rattle.std.proofs.Math.ListN.{length-set}
use Rattle.answers.specs.WrittenLaws.{wrote_none}
use Rattle.generations.specs.Inner.{chosen}
use Rattle.generations.proofs.NumberLaws.{wrote_room, wrote_used, wrote_out}
use Rattle.generations.proofs.write_numbers.Goals as goal
use Rattle.generations.proofs.write_numbers.Goals.{then-marks-y-ne-WITHDRAWN_MARK, else-marks-y-ne-WITHDRAWN_MARK}

pub loop-y-init : goal.loop-y-init
unfolding chosen
loop-y-init c = record { inside = omega arith; count_most = omega arith; as_long = refl; wrote = wrote_none 0 _ (omega arith) }

pub bounds-list-count : goal.bounds-list-count
bounds-list-count c =
    let l = c.loop-y in
    omega (
      arith,
      l.invariant.as_long,
      wrote_room c.args.marks.now c.args.depths.now l.y l.invariant.wrote c.args.n c.loop-y-test.true c.if-marks-y-ne-WITHDRAWN_MARK.true c.requires.fits,
    )

pub loop-y-preserved : goal.loop-y-preserved
loop-y-preserved c =
    let l = c.loop-y in
    let a = c.args in
    elim c.if-marks-y-ne-WITHDRAWN_MARK.branch [
      | then-marks-y-ne-WITHDRAWN_MARK w ↦ record {
        inside = omega arith;
        count_most = omega (arith, w.count-is);
        as_long = rw w.list-is (simp length-set l.invariant.as_long);
        wrote = rw (w.list-is, w.count-is) (wrote_used a.marks.now a.depths.now l.y l.invariant.wrote w.if-marks-y-ne-WITHDRAWN_MARK.true
            (omega (
              arith,
              l.invariant.as_long,
              wrote_room a.marks.now a.depths.now l.y l.invariant.wrote a.n c.loop-y-test.true w.if-marks-y-ne-WITHDRAWN_MARK.true c.requires.fits,
            )));
      }
      | else-marks-y-ne-WITHDRAWN_MARK w ↦ record {
        inside = omega arith;
        count_most = omega (arith, w.count-is);
        as_long = rw w.list-is l.invariant.as_long;
        wrote = rw (w.list-is, w.count-is) (wrote_out a.marks.now a.depths.now l.y l.invariant.wrote w.if-marks-y-ne-WITHDRAWN_MARK.false);
      }
    ]
