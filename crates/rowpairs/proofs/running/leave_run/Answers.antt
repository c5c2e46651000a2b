-- The code is run, and the masks of the relation that it leaves are copied (`value_masks`). Assumes nothing.
use Rattle.rowpairs.proofs.AnswerLaws.{value_masks}
use Rattle.rowpairs.proofs.running.leave_run.Goals as goal

pub returns : goal.returns
returns c = value_masks c.run.ensures _ c.copy_masks.ensures
