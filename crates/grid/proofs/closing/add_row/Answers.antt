-- `add_row` joins the words in the mask to those of the set. The loop's invariant: the columns before the next word are added (`Adding`). Assumes nothing.
use Rattle.std.proofs.Common.{◌+◌, arith}
use Rattle.grid.proofs.OnesLaws.{begun, went}
use Rattle.grid.proofs.SearchLaws.{adding_none, adding_gap, adding_word}
use Rattle.grid.proofs.closing.add_row.Goals as goal

pub loop-c-init : goal.loop-c-init
loop-c-init c =
    let a = c.args in
    let B = begun c.into_iter-c-iterator.ensures.into_iter_gives c.of-c-items.ensures in (
      B.0,
      adding_gap a.w a.b a.mask a.cells.now a.set.now a.set.now 0 _ B.1.low B.1.gap (adding_none a.w a.b a.mask a.cells.now a.set.now),
    )

pub loop-c-preserved : goal.loop-c-preserved
loop-c-preserved c =
    let a = c.args in
    let l = c.loop-c in
    let k = c.in-Some.c in
    let S = went c.next.new.self l.invariant.0 c.in-Some.ensures.steps in (
      S.left,
      adding_gap a.w a.b a.mask a.cells.now a.set.now _ (k + 1) _ S.next.low S.next.gap
          (adding_word a.w a.b a.mask a.cells.now a.set.now l.set k (omega arith) S.is_one (rw S.here at l.invariant.1)),
    )
