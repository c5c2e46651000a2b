-- One number more is looked at after letters. Assumes nothing.
use Rattle.std.proofs.Common.{◌∙◌, sym}
use Rattle.rowpairs.specs.Evaluation.{one_number, turned_letters}
use Rattle.rowpairs.proofs.running.next_item.Goals as goal

pub returns-then-not-inverts : goal.returns-then-not-inverts
returns-then-not-inverts c = one_number (sym c.item_of-item.ensures)

pub returns-in-Letters : goal.returns-in-Letters
returns-in-Letters c =
    let h = c.inverts.ensures c.if-not-inverts.false in turned_letters (sym c.item_of-item.ensures ∙ c.in-Letters.is) h.0 h.1

pub returns-in_default : goal.returns-in_default
returns-in_default c = one_number (sym c.item_of-item.ensures)
