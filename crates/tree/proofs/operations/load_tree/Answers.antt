-- `load_tree` lends a part of the work to `load`; a tree of no words is that of no pairs (`no_tree`). Assumes nothing.
use mathlib.Core.Path.{ap, ◌∙◌}
use native.Mathlib.Omega.{arith}
use lib.ListN.{length-take}
use Rattle.k2.specs.SizeLaws.{tree_unit_most}
use Rattle.rows.specs.Rows.{flat}
use Rattle.tree.proofs.OperationLaws.{no_tree}
use Rattle.tree.proofs.operations.load_tree.Goals as goal

pub returns-then-operand-eq0 : goal.returns-then-operand-eq0
returns-then-operand-eq0 c =
    let g = c.args in
    λ a x is e r. r ∙ ap flat (no_tree g.operand.sense g.n g.operand.size g.at g.work.now a x is c.if-operand-eq0.true e)

pub load-requires : goal.load-requires
load-requires c =
    let a = c.args in
    let p = c.requires in
    (p.few, rw length-take (omega (arith, tree_unit_most a.n p.few)), p.rows_long)
