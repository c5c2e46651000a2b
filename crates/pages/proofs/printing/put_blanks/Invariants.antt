-- `put_blanks`: the invariant is that i blanks are written, the measure is what is left. A turn is one blank more (`wrote_blank`). Assumes nothing.
use mathlib.Core.List.{List}
use mathlib.Core.Path.{◌≡◌}
use Prim.Native.Nat.{ℕ, ◌+◌, ◌-◌, ◌≤◌}
use lib.ListN.{length}
use Rattle.answers.specs.Written.{Wrote}
use Rattle.pages.specs.Pages.{blanks}
use Rattle.pages.proofs.printing.put_blanks.Given as goal

-- what holds whenever the loop is at its head
pub record Loop (count : ℕ) (out₀ : List ℕ) (at : ℕ) (out : List ℕ) (i : ℕ) : Type 0 where
  pub inside : i ≤ count
  pub as_long : length out ≡ length out₀
  pub wrote : Wrote at (blanks i) out₀ out (at + i)

abbrev pub invariant-loop-i : goal.invariant-loop-i
invariant-loop-i l = Loop l.count l.initial.out l.at l.out l.i

abbrev pub decreases-loop-i : goal.decreases-loop-i
decreases-loop-i l = l.count - l.i
