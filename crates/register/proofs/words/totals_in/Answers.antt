-- `register::words::totals_in` gives the part of words where a register has its totals. Assumes nothing.
use mathlib.Core.Path.{◌∙◌}
use Rattle.register.specs.WordLaws.{keeps_totals}
use Rattle.register.proofs.words.totals_in.Goals as goal

pub returns : goal.returns
returns c r k = c.part.ensures ∙ keeps_totals k
