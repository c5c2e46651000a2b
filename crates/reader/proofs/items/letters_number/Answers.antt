-- It is the definition.
use Rattle.std.proofs.Common.{refl}
use Rattle.reader.specs.Code.{letters_number}
use Rattle.reader.proofs.items.letters_number.Goals as goal

pub returns : goal.returns
unfolding letters_number
returns c = refl
