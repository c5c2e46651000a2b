-- `put_links` has the letters' two sets exchanged where the operand is inverted (`crossed_turned`); with no letters it does nothing. Assumes nothing.
use mathlib.Core.Path.{sym, ap, ◌∙◌}
use Rattle.k2.specs.PairSets.{Cells, union}
use Rattle.rows.specs.Rows.{flat}
use Rattle.rows.specs.RowLaws.{crossed_turned}
use Rattle.tree.proofs.OperationLaws.{no_letters}
use Rattle.tree.proofs.operations.put_links.Goals as goal

pub returns-then-operand-eq0-2 : goal.returns-then-operand-eq0-2
returns-then-operand-eq0-2 c =
    let a = c.args in
    λ x r. r
    ∙ ap flat (no_letters a.operand.sense a.links.now a.operand.forward a.operand.against x c.if-operand-eq0.true c.if-operand-eq0-2.true)

pub returns-in-Inverted : goal.returns-in-Inverted
returns-in-Inverted c =
    let a = c.args in
    λ x r. rw c.in-Inverted.is
    (c.put_letters-in-Inverted.ensures x r
    ∙ ap (λ (t : Cells). flat (union x t)) (sym (crossed_turned a.links.now a.operand.forward a.operand.against)))
