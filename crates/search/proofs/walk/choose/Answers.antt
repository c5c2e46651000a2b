-- One arc more is looked at (`chosen_more`).
use Rattle.std.proofs.Common.{◌<◌, arith}
use Rattle.arcs.specs.Arcs.{arc_from, arc_to, arc_letter}
use Rattle.arcs.specs.IndexLaws.{next_falls, cursor_next, before_first, only_arc}
use Rattle.search.proofs.MarkLaws.{chosen_none, chosen_first, chosen_more}
use Rattle.search.proofs.walk.choose.Goals as goal

pub loop-cursor-init : goal.loop-cursor-init
loop-cursor-init c =
    let p = c.requires in
    let X = p.by_index.indexed in
    let T = X.first_at _ p.at_below in
    rw c.first_arc-cursor.ensures (T, chosen_first (chosen_none _ _ _ _ _ _ _ _ _) T.0 (before_first X))

pub loop-cursor-preserved : goal.loop-cursor-preserved
unfolding arc_from arc_to arc_letter
loop-cursor-preserved c =
    let l = c.loop-cursor in
    let X = c.requires.by_index.indexed in
    let C = l.invariant.0 in
    let z : 0 < l.cursor = omega arith in
    rw c.next_arc-cursor.ensures (
      cursor_next X C z,
      chosen_more l.invariant.1 (omega arith) (omega arith) (next_falls X C z) (only_arc X C z)
          c.kept-states.result (C.1 z) c.kept-states.ensures c.better-best.ensures,
    )
