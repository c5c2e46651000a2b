-- `transpose` is the union of nothing and the tree read inverted. Assumes nothing.
use mathlib.Core.Path.{ap}
use Rattle.k2.specs.PairSets.{transpose}
use Rattle.k2.specs.Trees.{tree_words}
use Rattle.k2.specs.TreeSets.{set_in}
use Rattle.rows.specs.RowLaws.{union_none}
use Rattle.tree.proofs.AnswerLaws.{answer_as}
use Rattle.tree.proofs.calls.transpose.Goals as goal

pub returns : goal.returns
returns c =
    let a = c.args in
    answer_as (ap (tree_words a.n) (union_none (transpose (set_in a.n a.a.now)))) c.unary.ensures
