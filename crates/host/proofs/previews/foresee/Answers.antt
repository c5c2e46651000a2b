-- `host::previews::foresee` makes the call on the words, and asks of the marks and links that stand among them then. Assumes nothing.
use lib.ListN.{length}
use Rattle.host.proofs.PreviewCarryLaws.{foreseen_refused, foreseen_few, foreseen_asked}
use Rattle.host.proofs.previews.foresee.Goals as goal

pub returns-then-number-ne0 : goal.returns-then-number-ne0
returns-then-number-ne0 c =
    foreseen_refused c.edit_in-number.ensures c.args.text.now (length c.args.work.now) c.if-number-ne0.true c.told_refusal.ensures

pub pairs_over_as_trees-requires : goal.pairs_over_as_trees-requires
pairs_over_as_trees-requires c =
    foreseen_few c.edit_in-number.ensures c.if-number-ne0.false c.marks_in-marks.ensures c.links_in-links.ensures

pub returns : goal.returns
returns c =
    foreseen_asked c.edit_in-number.ensures c.if-number-ne0.false c.marks_in-marks.ensures c.links_in-links.ensures
    c.args.text.now (length c.args.work.now) c.pairs_over_as_trees.ensures c.told.ensures
