-- `made` has no record in use (`none_lent`, `none_tree_at`) and rows of its own. Assumes nothing.
use mathlib.Core.Path.{refl}
use lib.ListN.{length}
use Rattle.tree.specs.Inner.{Room}
use Rattle.tree.proofs.OperationLaws.{none_lent, none_tree_at}
use Rattle.tree.proofs.calls.made.Goals as goal

pub returns : goal.returns
returns c =
    let g = c.args in
    let o = c.operate in
    let r : Room g.n g.term (length g.work.now) 16 16384 = record { trees = c.requires; records = refl; bits = refl } in (
      o.ensures.most,
      λ a b l. none_tree_at g.term g.n g.links.now g.work.now a b _ _
          (o.ensures.tree r a b (none_lent g.term g.n g.links.now g.work.now a b l)),
    )
