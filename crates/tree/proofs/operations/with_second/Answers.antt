-- `with_second` loads the second operand, for a product inverted, so that its columns are rows (`valued_flipped`). Assumes nothing.
use mathlib.Core.Path.{◌≡◌, ap, ◌∙◌}
use Rattle.k2.specs.PairSets.{Cells}
use Rattle.rows.specs.Rows.{flat}
use Rattle.rows.specs.RowSets.{no_pairs}
use Rattle.tree.specs.declared.operations.Operand.{Operand}
use Rattle.tree.specs.Inner.{valued}
use Rattle.tree.specs.InnerLaws.{valued_flipped, valued_set}
use Rattle.tree.proofs.OperationLaws.{rows_none, from_none}
use Rattle.tree.proofs.operations.with_second.Goals as goal

pub returns-in-Intersection : goal.returns-in-Intersection
returns-in-Intersection c =
    λ a b u ia ib e l ra.
    rw c.in-Intersection.is
    (c.intersect.ensures a _ ra (from_none _ _ (c.load.ensures b no_pairs ib e rows_none)))

pub returns-in-Difference : goal.returns-in-Difference
returns-in-Difference c =
    λ a b u ia ib e l ra.
    rw c.in-Difference.is
    (c.minus.ensures a _ ra (from_none _ _ (c.load-in-Difference.ensures b no_pairs ib e rows_none)))

pub returns-in-Product : goal.returns-in-Product
returns-in-Product c =
    let g = c.args in
    let q = c.inverted.ensures in
    let z : c.inverted.result.size ≡ g.term.second.size = ap (λ (o : Operand). o.size) q in
    λ a b u ia ib e l ra.
    let s : Cells = valued g.links.now g.term.second b in
    let k = from_none _ _ (c.load-in-Product.ensures b no_pairs ib (rw z e) rows_none) in
    rw c.in-Product.is
    (c.compose.ensures a s ia (valued_set g.n g.links.now g.term.second b c.requires.0.size ib l) ra
    (k ∙ ap flat (ap (λ (o : Operand). valued g.links.now o b) q ∙ valued_flipped g.links.now g.term.second b)))
