-- `put_blanks`: the invariant is that i blanks are written, the measure is what is left. A turn is one blank more (`wrote_blank`). Assumes nothing.
use mathlib.Core.Path.{refl}
use native.Mathlib.Nat.{add-zero}
use native.Mathlib.Omega.{arith}
use lib.ListN.{length-set}
use Rattle.answers.specs.WrittenLaws.{wrote_none}
use Rattle.pages.proofs.WritingLaws.{wrote_blank}
use Rattle.pages.proofs.printing.put_blanks.Goals as goal

pub loop-i-init : goal.loop-i-init
loop-i-init c = record { inside = omega arith; as_long = refl; wrote = rw add-zero (wrote_none c.args.at c.args.out.now (omega arith)) }

pub loop-i-preserved : goal.loop-i-preserved
loop-i-preserved c =
    let here = c.loop-i in
    record {
      inside = omega arith;
      as_long = simp length-set here.invariant.as_long;
      wrote = wrote_blank c.args.at here.i c.args.out.now here.out here.invariant.wrote (omega arith);
    }
