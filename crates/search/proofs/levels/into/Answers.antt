-- One arc more is passed (`levelling_more`).
use Rattle.std.proofs.Common.{◌≡◌, ◌<◌, ◌-◌, refl, ◌∙◌, arith}
use Rattle.arcs.specs.Arcs.{arc_from, arc_to, arc_letter}
use Rattle.arcs.specs.IndexLaws.{cursor_next}
use Rattle.search.proofs.LevellingLaws.{levelling_first, levelling_more, levelling_done}
use Rattle.search.proofs.levels.into.Goals as goal

pub loop-cursor-init : goal.loop-cursor-init
loop-cursor-init c =
    let p = c.requires.1 in
    let X = p.by_index.indexed in
    record {
      next_as_long = refl;
      list_as_long = refl;
      stands = rw c.first_arc-cursor.ensures (X.first_at _ p.queue.at_below);
      listed = p.queue.listed;
      levelling = rw c.first_arc-cursor.ensures (λ cur records i at e L. levelling_first at X L);
    }

pub loop-cursor-preserved : goal.loop-cursor-preserved
unfolding arc_from arc_to arc_letter
loop-cursor-preserved c =
    let X = c.requires.1.by_index.indexed in
    let l = c.loop-cursor in
    let hp : 0 < l.cursor = omega arith in
    let v = c.spread-before in
    let word = (c.type_inv.seen (arc_from c.args.arcs.now (l.cursor - 1))).fits in
    let A = c.add_states-queued in
    record {
      next_as_long = A.auto.next ∙ l.invariant.next_as_long;
      list_as_long = A.auto.list ∙ l.invariant.list_as_long;
      stands = rw c.next_arc-cursor.ensures (cursor_next X l.invariant.stands hp);
      listed = A.ensures.0;
      levelling = rw c.next_arc-cursor.ensures (λ cur records i at e L.
          levelling_more at X l.invariant.stands hp (l.invariant.levelling cur records i at e L) _ v.result e v.ensures word A.ensures.1);
    }

pub returns : goal.returns
returns c =
    let l = c.loop-cursor in
    let z : l.cursor ≡ 0 = omega arith in
    (l.invariant.listed, λ cur records i at e L. levelling_done (rw z at (l.invariant.levelling cur records i at e L)))
