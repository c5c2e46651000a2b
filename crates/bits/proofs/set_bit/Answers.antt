-- `set_bit` stores the word with the one digit set (`bits_set`, `digit_or_pow`). Assumes nothing.
use Prim.Native.Nat.{◌%◌}
use native.Mathlib.Omega.{arith}
use Rattle.k2.specs.DigitLaws.{one_shl}
use Rattle.bits.specs.BitSetLaws.{bits_set, digit_or_pow}
use Rattle.bits.proofs.set_bit.Goals as goal

pub returns : goal.returns
returns c =
    rw (one_shl (c.args.p % 64) (omega arith)) (bits_set _ c.args.p _ 1 c.requires (digit_or_pow _ _))
