-- `put_right`: blanks up to the figures, and the figures. Assumes nothing.
use mathlib.Core.Path.{ap}
use Prim.Native.Nat.{ℕ, ◌-◌}
use Rattle.answers.specs.WrittenLaws.{wrote_then, wrote_as}
use Rattle.pages.specs.Pages.{blanks, right_aligned}
use Rattle.pages.proofs.printing.put_right.Goals as goal

pub returns : goal.returns
unfolding right_aligned
returns c =
    let before = wrote_as (ap (λ (n : ℕ). blanks (c.args.width - n)) c.figures.ensures) c.put_blanks-next.ensures in
    wrote_then before c.put_decimal.ensures
