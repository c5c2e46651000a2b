-- Words of 0 hold no pair (`bits_none`). Assumes nothing.
use mathlib.Core.Path.{sym, ◌∙◌}
use Rattle.bits.specs.BitSetLaws.{bits_none}
use Rattle.rows.specs.RowLaws.{flat_none}
use Rattle.rows.proofs.clear.Goals as goal

pub returns : goal.returns
returns c = rw c.clear.ensures (bits_none _ ∙ sym flat_none)
