-- The key 10 is that of the record left (`key_from`).
use Rattle.arcs.proofs.IndexingLaws.{key_from}
use Rattle.arcs.proofs.index_by_left.Goals as goal

pub returns : goal.returns
returns c = rw (key_from c.args.arcs.now) at c.index_of.ensures
