-- `meets` goes over the words in the mask. The loop's invariant: no column before the next word is in both. It rests on `both_some` and `both_none`.
-- Assumes nothing.
use Rattle.std.proofs.Common.{◌+◌, ◌*◌, arith}
use Rattle.k2.specs.Bits.{bit_at}
use Rattle.bits.specs.BitSets.{both}
use Rattle.bits.specs.BitSetLaws.{gap_join}
use Rattle.grid.specs.Grid.{row_of}
use Rattle.grid.proofs.OnesLaws.{begun, went}
use Rattle.grid.proofs.MeetLaws.{both_out, both_none, both_some}
use Rattle.grid.proofs.row.meets.Goals as goal

pub loop-c-init : goal.loop-c-init
loop-c-init c =
    let a = c.args in
    let B = begun c.into_iter-c-iterator.ensures.into_iter_gives c.of-c-items.ensures in (
      B.0,
      both_out a.cells.now a.b a.mask a.row.now 0 _ B.1.gap,
    )

pub returns-then-cells-b-ne0 : goal.returns-then-cells-b-ne0
returns-then-cells-b-ne0 c =
    let a = c.args in
    let k = c.in-Some.c in
    let S = went c.next.new.self c.loop-c.invariant.0 c.in-Some.ensures.steps in
    both_some a.cells.now a.b a.mask a.row.now k (a.w * 64) S.is_one (c.type_inv.cells (a.b + k)).fits c.if-cells-b-ne0.true

pub loop-c-preserved : goal.loop-c-preserved
loop-c-preserved c =
    let a = c.args in
    let l = c.loop-c in
    let k = c.in-Some.c in
    let S = went c.next.new.self l.invariant.0 c.in-Some.ensures.steps in
    let f = both (row_of a.cells.now a.b a.mask) (bit_at a.row.now) in (
      S.left,
      gap_join f 0 (k * 64) _ (rw S.here at l.invariant.1)
          (gap_join f (k * 64) (k * 64 + 64) _
          (both_none a.cells.now a.b a.mask a.row.now k S.is_one c.if-cells-b-ne0.false)
          (λ y h g. both_out a.cells.now a.b a.mask a.row.now (k + 1) _ S.next.gap y (omega arith) g)),
    )
