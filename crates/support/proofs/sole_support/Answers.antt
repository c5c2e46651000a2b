-- `sole_support` asks of what it reads of the register. Assumes nothing.
use Rattle.rowpairs.specs.RelatingLaws.{known_read}
use Rattle.support.proofs.sole_support.Goals as goal

pub returns : goal.returns
returns c = c.supported.ensures _ (known_read c.size-n.ensures c.marks-marks.ensures c.links-links.ensures)
