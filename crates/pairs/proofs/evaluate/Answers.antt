-- `evaluate` runs all numbers but the last. The loop's invariant: the first i numbers of the code have been run (`Going`), one is left at least, and work and
-- rows are as long as they were. The measure is what is left of the code. Assumes nothing.
use native.Mathlib.Omega.{arith}
use mathlib.Core.Path.{refl, sym, ◌∙◌}
use Rattle.pairs.proofs.RunLaws.{coded_some, going_begins, going_ready, going_more}
use Rattle.pairs.proofs.evaluate.Goals as goal

pub loop-i-init : goal.loop-i-init
loop-i-init c =
    let P = c.requires in
    let a = c.args in
    record {
      inside = coded_some a.n a.links.now a.used.now _ P.1.2;
      work_as_long = refl;
      rows_as_long = refl;
      going = going_begins _ _ _ _ P.1.2 _ _ refl;
    }

pub step-stack-requires : goal.step-stack-requires
step-stack-requires c =
    let l = c.loop-i in
    let P = c.requires in
    let r = going_ready _ _ _ _ l.i (omega arith) l.invariant.going (sym c.item_of-item.ensures) in (
      record {
        few = P.0.few;
        room = omega (arith, l.invariant.work_as_long, P.0.room);
        used_long = P.0.used_long;
        rows_long = omega (arith, l.invariant.rows_as_long, P.0.rows_long);
      },
      r.0,
      r.1,
    )

pub loop-i-preserved : goal.loop-i-preserved
loop-i-preserved c =
    let l = c.loop-i in
    let s = c.step-stack in
    record {
      inside = omega arith;
      work_as_long = s.auto.work ∙ l.invariant.work_as_long;
      rows_as_long = s.auto.rows ∙ l.invariant.rows_as_long;
      going = going_more _ _ _ _ l.i (omega arith) l.invariant.going (sym c.item_of-item.ensures) s.ensures;
    }
