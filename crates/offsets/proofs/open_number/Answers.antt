-- By whether the words are a register's. Assumes nothing.
use Rattle.std.proofs.Common.{refl}
use Rattle.book.specs.Causes.{number}
use Rattle.offsets.proofs.open_number.Goals as goal

pub returns : goal.returns
unfolding number
returns c =
    record { kept = λ r w. absurd (c.is_register.ensures.none c.if-is_register.false (r, w)); foreign = λ _. refl }
