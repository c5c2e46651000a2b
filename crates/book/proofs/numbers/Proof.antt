-- `book::numbers`: both lists computed. Assumes nothing.
use mathlib.Core.Path.{refl}
use Rattle.book.specs.Causes.{number}
use Rattle.book.specs.CauseOrders.{all_causes}
use Rattle.book.proofs.numbers.Statement.{statement}
use Rattle.book.proofs.numbers.Tie as tie

returns : tie.Need-returns
unfolding all_causes number
returns c = refl

pub numbers_spec : {M : Type 1} → statement M
numbers_spec = tie.close (tie.spec returns)
