-- `load` puts in the tree and then the links. Assumes nothing.
use mathlib.Core.Path.{ap, ◌∙◌}
use Rattle.k2.specs.PairSets.{union}
use Rattle.rows.specs.Rows.{flat}
use Rattle.packing.specs.Senses.{sensed}
use Rattle.tree.proofs.OperationLaws.{both_loaded}
use Rattle.tree.proofs.operations.load.Goals as goal

pub returns : goal.returns
returns c =
    let g = c.args in
    λ a x is e r. c.put_links.ensures (union x (sensed g.operand.sense a)) (c.load_tree.ensures a x is e r)
    ∙ ap flat (both_loaded g.links.now g.operand a x)
