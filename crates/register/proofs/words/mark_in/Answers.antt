-- `register::words::mark_in` reads the mark at the record's place. Assumes nothing.
use mathlib.Core.Path.{ap, ◌∙◌}
use mathlib.Core.List.{List}
use Prim.Native.Nat.{ℕ}
use lib.ListN.{get_or}
use Rattle.register.specs.Inner.{mark_in}
use Rattle.register.proofs.words.mark_in.Goals as goal

pub returns : goal.returns
unfolding mark_in
returns c = c.word_at.ensures ∙ ap (λ (l : List ℕ). get_or l c.args.«record» 0) c.part.ensures
