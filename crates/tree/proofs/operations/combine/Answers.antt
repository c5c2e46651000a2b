-- `combine` goes by the operation; the operations that are not `Apart` load the second operand beside the first. Assumes nothing.
use Rattle.k2.specs.PairSets.{Cells, union, closure}
use Rattle.k2.specs.PairSetLaws.{union_set}
use Rattle.tree.specs.Inner.{valued, intersects, differs, multiplies}
use Rattle.tree.specs.InnerLaws.{valued_set}
use Rattle.tree.proofs.operations.combine.Goals as goal

pub with_second-requires : goal.with_second-requires
with_second-requires c = (c.requires.0, rw c.in-Intersection.is intersects, c.requires.2)

pub with_second-requires-in-Difference : goal.with_second-requires-in-Difference
with_second-requires-in-Difference c = (c.requires.0, rw c.in-Difference.is differs, c.requires.2)

pub with_second-requires-in-Product : goal.with_second-requires-in-Product
with_second-requires-in-Product c = (c.requires.0, rw c.in-Product.is multiplies, c.requires.2)

pub returns-in-Closure : goal.returns-in-Closure
returns-in-Closure c =
    let g = c.args in
    λ a b ia ib e l ra.
    let s : Cells = valued g.links.now g.term.second b in
    let i = union_set g.n a s ia (valued_set g.n g.links.now g.term.second b c.requires.0.size ib l) in
    rw c.in-Closure.is (c.close_rows.ensures (union a s) i (c.load-in-Closure.ensures b a ib e ra))

pub returns-in-Star : goal.returns-in-Star
returns-in-Star c =
    let g = c.args in
    λ a b ia ib e l ra.
    let s : Cells = valued g.links.now g.term.second b in
    let i = union_set g.n a s ia (valued_set g.n g.links.now g.term.second b c.requires.0.size ib l) in
    let r = c.close_rows-in-Star.ensures (union a s) i (c.load-in-Star.ensures b a ib e ra) in
    rw c.in-Star.is (c.set_diagonal-in-Star.ensures (closure g.n (union a s)) r)
