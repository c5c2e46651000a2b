-- Both senses of a link put, and links of no use passed over.
use Rattle.std.proofs.Common.{refl, ◌∙◌, ◌+◌, arith}
use Rattle.arcs.proofs.CrossingLaws.{crossings_none, put_most, crossings_link, crossings_pass}
use Rattle.arcs.proofs.arcs_of.Goals as goal

pub loop-i-init : goal.loop-i-init
loop-i-init c =
    let n = c.next_of_use-i.ensures in
    record { inside = n.1; count_most = omega arith; as_long = refl; crossings = crossings_pass {a = 0} (crossings_none _ _ _) n.0 n.2 }

pub loop-i-preserved : goal.loop-i-preserved
loop-i-preserved c =
    let n = c.next_of_use-i-in-loop-i.ensures in
    let l = c.loop-i in
    let p = c.requires.2 in
    let m = put_most c.put-count.ensures in
    let m₂ = put_most c.put-count-in-loop-i.ensures in
    let k = c.put-count.auto.arcs in
    let k₂ = c.put-count-in-loop-i.auto.arcs in
    let a = n.0 in
    record {
      inside = n.1;
      count_most = omega (arith, l.invariant.count_most);
      as_long = k₂ ∙ k ∙ l.invariant.as_long;
      crossings = crossings_pass {a = l.i + 1}
          (crossings_link l.i l.invariant.crossings (omega (arith, l.invariant.count_most, l.invariant.as_long))
          (rw c.arc.ensures at c.put-count.ensures)
          (omega (arith, l.invariant.count_most, l.invariant.as_long)) (rw c.arc-in-loop-i.ensures at c.put-count-in-loop-i.ensures))
          n.0 n.2;
    }
