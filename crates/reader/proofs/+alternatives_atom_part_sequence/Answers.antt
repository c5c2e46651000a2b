-- Each turn of a loop reads the operator's byte and what comes after it, and joins the two (`Turn`).
use Rattle.std.proofs.Common.{refl, sym, ◌∙◌, arith}
use Rattle.reader.specs.Progress.{of_alternatives, of_parts}
use Rattle.reader.proofs.StepLaws.{asks_kept, read_as, group_is, hat_is, plain_is, marks, inverts, room_for_mark, room_for_hat}
use Rattle.reader.proofs.JoinLaws.{looped, looped_all, Turn, ahead, asks_next, room, falls, again}
use Rattle.reader.proofs.+alternatives_atom_part_sequence.Goals as goal

pub alternatives-loop-q-init : goal.alternatives-loop-q-init
alternatives-loop-q-init t c = looped of_alternatives c.sequence-first.ensures (asks_kept c.sequence-first.auto.code c.requires)

pub alternatives-sequence-next-requires : goal.alternatives-sequence-next-requires
alternatives-sequence-next-requires t c =
    let turn : Turn of_alternatives c.args.s.now c.args.at c.args.n c.sequence-first.result c.sequence-first.new.code
    c.loop-q.first c.loop-q.code c.ends_at-q.result =
    record { inv = c.loop-q.invariant; comes = sym c.comes_next.ensures ∙ c.loop-q-test.true; spot = c.ends_at-q.ensures } in
    let h = ahead turn in (omega arith, asks_next turn)

pub alternatives-combined-first-requires : goal.alternatives-combined-first-requires
alternatives-combined-first-requires t c =
    let turn : Turn of_alternatives c.args.s.now c.args.at c.args.n c.sequence-first.result c.sequence-first.new.code
    c.loop-q.first c.loop-q.code c.ends_at-q.result =
    record { inv = c.loop-q.invariant; comes = sym c.comes_next.ensures ∙ c.loop-q-test.true; spot = c.ends_at-q.ensures } in
    room turn c.sequence-next.ensures c.sequence-next.auto.code

pub alternatives-loop-q-smaller : goal.alternatives-loop-q-smaller
alternatives-loop-q-smaller t c =
    let turn : Turn of_alternatives c.args.s.now c.args.at c.args.n c.sequence-first.result c.sequence-first.new.code
    c.loop-q.first c.loop-q.code c.ends_at-q.result =
    record { inv = c.loop-q.invariant; comes = sym c.comes_next.ensures ∙ c.loop-q-test.true; spot = c.ends_at-q.ensures } in
    falls turn c.sequence-next.ensures c.sequence-next.auto.code c.combined-first.ensures

pub alternatives-loop-q-preserved : goal.alternatives-loop-q-preserved
alternatives-loop-q-preserved t c =
    let turn : Turn of_alternatives c.args.s.now c.args.at c.args.n c.sequence-first.result c.sequence-first.new.code
    c.loop-q.first c.loop-q.code c.ends_at-q.result =
    record { inv = c.loop-q.invariant; comes = sym c.comes_next.ensures ∙ c.loop-q-test.true; spot = c.ends_at-q.ensures } in
    again turn c.sequence-next.ensures c.sequence-next.auto.code c.combined-first.ensures refl c.combined-first.auto.code

pub alternatives-returns : goal.alternatives-returns
alternatives-returns t c = looped_all of_alternatives c.sequence-first.ensures c.loop-q.invariant c.comes_next.ensures c.loop-q-test.false

pub sequence-loop-q-init : goal.sequence-loop-q-init
sequence-loop-q-init t c = looped of_parts c.part-first.ensures (asks_kept c.part-first.auto.code c.requires)

pub sequence-part-next-requires : goal.sequence-part-next-requires
sequence-part-next-requires t c =
    let turn : Turn of_parts c.args.s.now c.args.at c.args.n c.part-first.result c.part-first.new.code c.loop-q.first c.loop-q.code c.ends_at-q.result =
    record { inv = c.loop-q.invariant; comes = sym c.comes_next.ensures ∙ c.loop-q-test.true; spot = c.ends_at-q.ensures } in
    let h = ahead turn in (omega arith, asks_next turn)

pub sequence-combined-first-requires : goal.sequence-combined-first-requires
sequence-combined-first-requires t c =
    let turn : Turn of_parts c.args.s.now c.args.at c.args.n c.part-first.result c.part-first.new.code c.loop-q.first c.loop-q.code c.ends_at-q.result =
    record { inv = c.loop-q.invariant; comes = sym c.comes_next.ensures ∙ c.loop-q-test.true; spot = c.ends_at-q.ensures } in
    room turn c.part-next.ensures c.part-next.auto.code

pub sequence-loop-q-smaller : goal.sequence-loop-q-smaller
sequence-loop-q-smaller t c =
    let turn : Turn of_parts c.args.s.now c.args.at c.args.n c.part-first.result c.part-first.new.code c.loop-q.first c.loop-q.code c.ends_at-q.result =
    record { inv = c.loop-q.invariant; comes = sym c.comes_next.ensures ∙ c.loop-q-test.true; spot = c.ends_at-q.ensures } in
    falls turn c.part-next.ensures c.part-next.auto.code c.combined-first.ensures

pub sequence-loop-q-preserved : goal.sequence-loop-q-preserved
sequence-loop-q-preserved t c =
    let turn : Turn of_parts c.args.s.now c.args.at c.args.n c.part-first.result c.part-first.new.code c.loop-q.first c.loop-q.code c.ends_at-q.result =
    record { inv = c.loop-q.invariant; comes = sym c.comes_next.ensures ∙ c.loop-q-test.true; spot = c.ends_at-q.ensures } in
    again turn c.part-next.ensures c.part-next.auto.code c.combined-first.ensures refl c.combined-first.auto.code

pub sequence-returns : goal.sequence-returns
sequence-returns t c = looped_all of_parts c.part-first.ensures c.loop-q.invariant c.comes_next.ensures c.loop-q-test.false

-- a group at a (
pub atom-returns-then-peek-eq40 : goal.atom-returns-then-peek-eq40
atom-returns-then-peek-eq40 t c =
    read_as (group_is c.args.s.now c.args.at (sym c.peek.ensures ∙ c.if-peek-eq40.true)) (c.closed.ensures _ _ _ _ _ c.alternatives-r.ensures)

-- a ^ and what it inverts
pub part-wrapped-q-requires : goal.part-wrapped-q-requires
part-wrapped-q-requires t c =
    let asked = c.requires in
    let as_long = c.atom-r.auto.code in
    room_for_mark c.mark_after-mark.ensures c.atom-r.ensures (omega arith) (omega arith)

pub part-wrapped-requires : goal.part-wrapped-requires
part-wrapped-requires t c =
    let asked = c.requires in
    let as_long = c.atom-r.auto.code in
    let longer = c.wrapped-q.auto.code in
    room_for_hat (marks c.mark_after-mark.ensures c.wrapped-q.ensures c.atom-r.ensures) asked.behind (omega arith)

pub part-returns-then-peek-eq94 : goal.part-returns-then-peek-eq94
part-returns-then-peek-eq94 t c =
    read_as (hat_is c.args.s.now c.args.at (sym c.peek.ensures ∙ c.if-peek-eq94.true))
    (inverts c.wrapped.ensures (marks c.mark_after-mark.ensures c.wrapped-q.ensures c.atom-r.ensures))

-- none
pub part-wrapped-requires-else-peek-eq94 : goal.part-wrapped-requires-else-peek-eq94
part-wrapped-requires-else-peek-eq94 t c =
    let asked = c.requires in
    let as_long = c.atom-r-else-peek-eq94.auto.code in
    room_for_mark c.mark_after-mark-else-peek-eq94.ensures c.atom-r-else-peek-eq94.ensures asked.behind (omega arith)

pub part-returns-else-peek-eq94 : goal.part-returns-else-peek-eq94
part-returns-else-peek-eq94 t c =
    read_as (plain_is c.args.s.now c.args.at (λ e. c.if-peek-eq94.false (c.peek.ensures ∙ e)))
    (marks c.mark_after-mark-else-peek-eq94.ensures c.wrapped-else-peek-eq94.ensures c.atom-r-else-peek-eq94.ensures)
