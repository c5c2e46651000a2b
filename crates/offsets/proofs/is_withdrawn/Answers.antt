-- By the record's mark. Assumes nothing.
use Rattle.std.proofs.Common.{ap, ℕ, nat_eq}
use Rattle.register.specs.Marks.{withdrawn_mark}
use Rattle.offsets.specs.Inner.{is_withdrawn_in}
use Rattle.offsets.proofs.is_withdrawn.Goals as goal

pub returns : goal.returns
unfolding is_withdrawn_in
returns c = ap (λ (m : ℕ). nat_eq m withdrawn_mark) c.mark_in.ensures
