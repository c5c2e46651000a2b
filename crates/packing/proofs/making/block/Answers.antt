-- `block` gathers a byte from each of eight words. The loop's invariant: v has the bytes of the r words passed (`Bytes`). The measure is the
-- words left. Assumes nothing.
use native.Mathlib.Omega.{arith}
use Rattle.packing.proofs.StoreLaws.{bytes_none, bytes_more}
use Rattle.packing.proofs.making.block.Goals as goal

pub loop-r-init : goal.loop-r-init
loop-r-init c = let a = c.args in (omega arith, bytes_none a.rows.now a.i a.k)

pub loop-r-preserved : goal.loop-r-preserved
loop-r-preserved c =
    let a = c.args in
    let l = c.loop-r in
    (omega arith, bytes_more a.rows.now a.i a.k l.r l.v (omega arith) l.invariant.1)
