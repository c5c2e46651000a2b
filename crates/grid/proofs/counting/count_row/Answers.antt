-- `count_row` counts the bits of the words in the mask. The loop's invariant: s is the number of the columns before the next word. It rests on `count_more`.
-- Assumes nothing.
use Rattle.std.proofs.Common.{◌*◌, arith}
use Rattle.grid.proofs.OnesLaws.{begun, went}
use Rattle.grid.proofs.CountLaws.{count_none, count_more, count_all}
use Rattle.grid.proofs.counting.count_row.Goals as goal

pub loop-c-init : goal.loop-c-init
loop-c-init c =
    let a = c.args in
    let B = begun c.into_iter-c-iterator.ensures.into_iter_gives c.of-c-items.ensures in (
      B.0,
      omega arith,
      count_none a.n a.w (a.x * a.w) a.mask a.x a.cells.now _ (a.x * 1024) B.1.gap,
    )

pub loop-c-preserved : goal.loop-c-preserved
loop-c-preserved c =
    let a = c.args in
    let l = c.loop-c in
    let k = c.in-Some.c in
    let S = went c.next.new.self l.invariant.0 c.in-Some.ensures.steps in
    let K = c.count-s.ensures in (
      S.left,
      omega (arith, S.here, S.inside, S.next.low, l.invariant.1, K.0),
      count_more a.n a.w (a.x * a.w) a.mask a.x a.cells.now k _ c.cut.result l.s c.count-s.result (a.x * 1024)
          S.is_one c.cut.ensures S.next.low S.next.gap (rw S.here at l.invariant.2) K.1,
    )

pub returns : goal.returns
returns c =
    let a = c.args in
    let l = c.loop-c in
    let wc = rw l.invariant.0.end_is at c.in-None.ensures.steps.1 in (
      omega (arith, l.invariant.1),
      count_all a.n a.w (a.x * a.w) a.mask a.x a.cells.now _ l.s (a.x * 1024) (omega arith) l.invariant.2,
    )
