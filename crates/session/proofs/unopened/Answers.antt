-- Assumes nothing.
use mathlib.Core.Path.{refl}
use Rattle.session.specs.Turns.{is_closed}
use Rattle.session.proofs.unopened.Goals as goal

pub returns : goal.returns
returns c = is_closed refl
