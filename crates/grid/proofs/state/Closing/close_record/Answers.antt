-- `close_record` closes row x once the rows that it leads to are closed. Assumes nothing.
use Rattle.grid.proofs.GoesLaws.{goes_next}
use Rattle.grid.proofs.state.Closing.close_record.Goals as goal

pub returns-clause-goes : goal.returns-clause-goes
returns-clause-goes c = goes_next c.close_from.ensures c.close_once.ensures.goes
