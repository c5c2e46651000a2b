-- `close_row` searches from row x. The loop's invariant: row x and the set of what is seen are a search's, and the other rows are as they were (`Searching`).
-- Records with empty rows are seen from the first. The measure is the records not seen. It rests on `searching_more`, `row_done` and `row_back`. Assumes
-- nothing.
use Rattle.std.proofs.Common.{refl, sym, ◌∙◌, arith}
use Rattle.k2.specs.Bits.{bit_at}
use Rattle.k2.specs.BitLaws.{bit_lt}
use Rattle.grid.specs.Grid.{first_rows}
use Rattle.grid.proofs.SearchLaws.{searching_none, searching_more, left_less, row_done, row_back}
use Rattle.grid.proofs.closing.close_row.Goals as goal

pub loop-z-init : goal.loop-z-init
loop-z-init c =
    let a = c.args in
    searching_none a.n a.w a.x _ _ a.cells.now a.masks.now c.requires.0.small c.requires.0.narrow c.requires.1 c.empty_records-seen.ensures

pub returns-then-leads_back : goal.returns-then-leads_back
unfolding first_rows
returns-then-leads_back c =
    let a = c.args in
    let l = c.loop-z in
    let zl = c.in-Some.ensures.below in
    let back = c.if-leads_back.ensures refl in
    row_back a.n a.w a.x c.in-Some.z (bit_at a.marks.now) (bit_at l.seen) a.cells.now a.masks.now l.cells l.masks _ _
    c.requires.0.wide c.requires.1 zl c.lead_on.ensures (c.in-Some.ensures.fresh.found zl).0 l.invariant
    (sym c.bit-whole.ensures ∙ back.0) back.1

pub loop-z-smaller : goal.loop-z-smaller
unfolding first_rows
loop-z-smaller c =
    let a = c.args in
    let l = c.loop-z in
    let zl = c.in-Some.ensures.below in
    let marked = rw c.bit-whole.ensures at c.mark.ensures in
    let F = c.in-Some.ensures.fresh.found zl in
    left_less a.n a.w a.x c.in-Some.z (bit_at a.marks.now) (bit_at l.seen) a.cells.now a.masks.now l.cells l.masks _ _
    c.requires.0.wide c.requires.1 zl c.lead_on.ensures F.0 l.invariant _ marked F.1

pub loop-z-preserved : goal.loop-z-preserved
unfolding first_rows
loop-z-preserved c =
    let a = c.args in
    let l = c.loop-z in
    let zl = c.in-Some.ensures.below in
    let marked = rw c.bit-whole.ensures at c.mark.ensures in
    searching_more a.n a.w a.x c.in-Some.z (bit_at a.marks.now) (bit_at l.seen) a.cells.now a.masks.now l.cells l.masks _ _
    c.requires.0.wide c.requires.1 zl c.lead_on.ensures (c.in-Some.ensures.fresh.found zl).0 l.invariant _ marked
    (bit_lt a.marks.now) (bit_lt l.seen) (bit_lt _)

pub returns : goal.returns
unfolding first_rows
returns c =
    let a = c.args in
    let l = c.loop-z in
    row_done a.n a.w a.x a.n _ (bit_at l.seen) a.cells.now a.masks.now l.cells l.masks
    c.requires.0.wide (omega arith) c.in_default.ensures.fresh l.invariant
