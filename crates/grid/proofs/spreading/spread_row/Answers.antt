-- `spread_row` writes the words in the mask. The loop's invariant: those of the row before the next are written, and the others are empty. It rests on
-- `spread_more`. Assumes nothing.
use Rattle.std.proofs.Common.{◌*◌, arith}
use Rattle.grid.proofs.OnesLaws.{begun, went}
use Rattle.grid.proofs.SpreadLaws.{spread_none, spread_more, spread_all}
use Rattle.grid.proofs.spreading.spread_row.Goals as goal

pub loop-c-init : goal.loop-c-init
loop-c-init c =
    let a = c.args in
    let B = begun c.into_iter-c-iterator.ensures.into_iter_gives c.of-c-items.ensures in (
      B.0,
      spread_none a.n a.w (a.x * a.w) a.mask a.x a.cells.now _ a.rows.now c.requires.clear B.1.gap,
    )

pub loop-c-preserved : goal.loop-c-preserved
loop-c-preserved c =
    let a = c.args in
    let l = c.loop-c in
    let k = c.in-Some.c in
    let S = went c.next.new.self l.invariant.0 c.in-Some.ensures.steps in (
      S.left,
      spread_more a.n a.w (a.x * a.w) a.mask a.x a.cells.now k _ c.cut.result a.rows.now l.rows
          (omega arith) (omega arith) (omega (arith, S.inside)) S.is_one c.cut.ensures S.next.low S.next.gap (rw S.here at l.invariant.1),
    )

pub returns : goal.returns
returns c =
    let a = c.args in
    let l = c.loop-c in
    let wc = rw l.invariant.0.end_is at c.in-None.ensures.steps.1 in
    spread_all a.n a.w (a.x * a.w) a.mask a.x a.cells.now _ a.rows.now l.rows (omega arith) l.invariant.1
