-- The records from which links lead to y are looked at (`looking_more`), one of them leads to itself (`visited_loop`), or all are done (`visited_done`).
-- Assumes nothing.
use Rattle.std.proofs.Common.{arith, ◌≡◌, ◌<◌, ◌-◌, ◌/◌, ◌%◌, ◌∙◌, ℕ, subst, get_or}
use Rattle.arcs.specs.Arcs.{arc_from}
use Rattle.generations.specs.Inner.{new_count}
use Rattle.generations.proofs.DepthLaws.{done_most, Looking, looking_begins, visited_loop, looking_more, visited_done}
use Rattle.generations.proofs.depths.+visit.Goals as goal

pub loop-cursor-init : goal.loop-cursor-init
loop-cursor-init t c =
    rw c.first_arc-cursor.ensures (looking_begins c.args.links.now c.args.index.now c.requires.indexed c.args.y
    c.args.depths.now c.requires.inside c.requires.depths_long c.if-known-ne0.false c.requires.bounded)

pub visit-before-requires : goal.visit-before-requires
visit-before-requires t c =
    let w = c.requires in
    let L = c.loop-cursor.invariant in (
      subst (λ (k : ℕ). new_count c.loop-cursor.depths < k) c.decreases L.fewer,
      record {
        few = w.few;
        index_long = w.index_long;
        inside = omega arith;
        depths_long = L.long ∙ w.depths_long;
        indexed = w.indexed;
        bounded = L.bounded;
      },
    )

pub deeper-depth-requires : goal.deeper-depth-requires
deeper-depth-requires t c =
    let v = c.visit-before.ensures in
    let b = v.bounded (get_or c.args.links.now (c.loop-cursor.cursor - 1) 0 / 1024 % 1024) in
    let m = done_most c.visit-before.new.depths in
    omega (arith, v.depth, b, m)

pub returns-then-before-eq-ENTERED : goal.returns-then-before-eq-ENTERED
unfolding arc_from
returns-then-before-eq-ENTERED t c =
    visited_loop c.args.links.now c.args.index.now c.requires.indexed c.args.y c.args.depths.now c.requires.inside c.requires.depths_long
    c.if-known-ne0.false c.loop-cursor.invariant (omega (arith, c.loop-cursor-test.true)) c.visit-before.ensures c.if-before-eq-ENTERED.true

pub loop-cursor-preserved : goal.loop-cursor-preserved
unfolding arc_from
loop-cursor-preserved t c =
    rw (
      c.next_arc-cursor.ensures,
      c.deeper-depth.ensures,
    ) (looking_more c.args.links.now c.args.index.now c.requires.indexed c.args.y c.args.depths.now
    c.requires.inside c.requires.depths_long c.if-known-ne0.false c.loop-cursor.invariant
    (omega (arith, c.loop-cursor-test.true)) c.visit-before.ensures c.if-before-eq-ENTERED.false c.visit-before.auto.depths)

pub returns : goal.returns
returns t c =
    let z : c.loop-cursor.cursor ≡ 0 = omega (arith, c.loop-cursor-test.false) in
    visited_done c.args.links.now c.args.index.now c.requires.indexed c.args.y c.args.depths.now c.requires.inside c.requires.depths_long c.if-known-ne0.false
    (subst (λ (p : ℕ). Looking c.args.links.now c.args.y c.args.depths.now c.loop-cursor.depths c.loop-cursor.depth p) z c.loop-cursor.invariant)
