-- `list_pairs` loads the tree and hands its rows over. Assumes nothing.
use native.Mathlib.Omega.{arith}
use Rattle.rows.specs.RowSets.{no_pairs}
use Rattle.tree.proofs.OperationLaws.{rows_none, from_none, set_shown}
use Rattle.tree.proofs.calls.list_pairs.Goals as goal

pub returns : goal.returns
returns c =
    let a = c.args in
    λ s is e.
    set_shown a.n s _ a.out.now _ (omega arith) is (from_none s _ (c.load.ensures s no_pairs is e rows_none))
    c.hand_over.ensures
