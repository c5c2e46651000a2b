-- The bits of a full tree by the side's square: `full_size_side`. Assumes nothing.
use Rattle.std.proofs.Common.{refl, arith}
use Rattle.k2.specs.DigitLaws.{one_shl}
use Rattle.k2.specs.SizeLaws.{full_size_side, full_size_most}
use Rattle.k2.proofs.full_size.Goals as goal

pub returns : goal.returns
returns c = rw (one_shl c.args.h (omega arith), full_size_side c.args.h) (refl, full_size_most c.args.h c.requires)
