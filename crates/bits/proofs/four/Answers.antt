-- `four` reads four bits, which stand in one word (`four_in`). Assumes nothing.
use Rattle.bits.specs.BitSetLaws.{four_in}
use Rattle.bits.proofs.four.Goals as goal

pub returns : goal.returns
returns c = rw (c.from_bit.ensures, four_in _ _ c.requires)
