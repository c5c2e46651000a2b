-- `tree_unit` is the words of a full tree: `tree_unit_size`. Assumes nothing.
use Rattle.std.proofs.Common.{◌≡◌, arith}
use Rattle.k2.specs.Trees.{height, tree_unit}
use Rattle.k2.specs.Heap.{full_size}
use Rattle.k2.specs.SizeLaws.{tree_unit_size, tree_unit_some, tree_unit_most}
use Rattle.k2.proofs.tree_unit.Goals as goal

pub returns : goal.returns
returns c =
    let n = c.args.n in
    let h : c.height.result ≡ height n = c.height.ensures.0 in
    let s : c.full_size.result ≡ full_size (height n) 1 = rw h at c.full_size.ensures.0 in
    let e : c.div_ceil.result ≡ tree_unit n = omega (arith, tree_unit_size n) in
    (e, omega (arith, tree_unit_some n), omega (arith, tree_unit_most n c.requires))
