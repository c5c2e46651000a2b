-- `fill_eight` fills eight blocks in turn. The loop's invariant: the cells of the blocks before column c + k are there. The measure is the blocks
-- left. If the words of all eight are 0, they add nothing (`eight_none`). Assumes nothing.
use mathlib.Core.Path.{ap, ◌∙◌}
use Prim.Native.Nat.{◌+◌}
use Rattle.k2.specs.PairSets.{Cells}
use Rattle.k2.specs.Heap.{cells}
use Rattle.packing.specs.Image.{raised}
use Rattle.packing.proofs.BlockLaws.{eight_none}
use Rattle.packing.proofs.making.fill_eight.Goals as goal

pub returns-else-seen-ne0 : goal.returns-else-seen-ne0
returns-else-seen-ne0 c =
    let a = c.args in
    let p = c.requires in
    λ s is e h.
    h ∙ ap (λ (t : Cells). raised a.base (cells (a.g + 3) t))
    (eight_none a.rows.now s e a.r a.c a.g p.1.column p.1.eights p.0.levels is (c.together-seen.ensures.0 c.if-seen-ne0.false))
