-- `has_label` reads a digit; a set of labels is below 2 ^ 32, so that its digits from 32 on are 0 (`digit_big`). Assumes nothing.
use mathlib.Core.Path.{refl}
use native.Mathlib.Omega.{arith}
use borrow.Author.Tests.{le-ltb}
use Rattle.k2.specs.Bits.{digit}
use Rattle.k2.specs.DigitLaws.{digit_big}
use Rattle.rows.proofs.has_label.Goals as goal

pub returns-then-label-lt32 : goal.returns-then-label-lt32
unfolding digit
returns-then-label-lt32 c = refl

pub returns-else-label-lt32 : goal.returns-else-label-lt32
returns-else-label-lt32 c =
    let a = c.args in
    rw (le-ltb a.label 32 c.if-label-lt32.false, digit_big 32 a.label a.labels (omega arith) c.if-label-lt32.false)
