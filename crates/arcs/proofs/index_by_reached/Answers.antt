-- The key 0 is that of the record reached (`key_to`).
use Rattle.arcs.proofs.IndexingLaws.{key_to}
use Rattle.arcs.proofs.index_by_reached.Goals as goal

pub returns : goal.returns
returns c = rw (key_to c.args.arcs.now) at c.index_of.ensures
