-- `bit` is the lowest digit from its place on. Assumes nothing.
use Rattle.std.proofs.Common.{rules}
use Rattle.k2.specs.Bits.{bit_at, digit}
use Rattle.bits.proofs.bit.Goals as goal

pub returns : goal.returns
unfolding bit_at digit
returns c = search rules
