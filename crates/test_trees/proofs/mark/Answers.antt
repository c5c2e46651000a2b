-- `mark` sets a bit for each record below n. The loop's invariant: those below i are set. The measure is the records left. It rests on `below_more`. Assumes
-- nothing.
use mathlib.Core.Path.{refl, ap, ◌∙◌}
use native.Mathlib.Omega.{arith}
use Rattle.bits.specs.BitSets.{put}
use Rattle.test_trees.proofs.MarkLaws.{below_none, below_more}
use Rattle.test_trees.proofs.mark.Goals as goal

pub loop-i-init : goal.loop-i-init
loop-i-init c = record { inside = omega arith; as_long = refl; marked = λ e. e ∙ below_none }

pub loop-i-preserved : goal.loop-i-preserved
loop-i-preserved c =
    let l = c.loop-i in
    let s = c.set_bit in
    record {
      inside = omega arith;
      as_long = s.auto.words ∙ l.invariant.as_long;
      marked = λ e. s.ensures ∙ ap (put l.i 1) (l.invariant.marked e) ∙ below_more l.i;
    }
