-- `trim` takes the remainder of a word by a power of two (`trim_law`). Assumes nothing.
use Rattle.packing.proofs.CompactLaws.{trim_law}
use Rattle.packing.proofs.making.trim.Goals as goal

pub returns-then-k-ne0 : goal.returns-then-k-ne0
returns-then-k-ne0 c =
    let a = c.args in
    trim_law a.heap.now a.g c.if-k-ne0.true c.requires
