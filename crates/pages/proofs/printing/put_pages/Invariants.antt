-- `put_pages`: the loop's invariant is that the lines before line i are laid, and the pairs of the others are ahead of `place`; the measure is how many lines
-- are left. In the end the lines are the pages (`pages_lines`). Assumes nothing.
use mathlib.Core.List.{List}
use mathlib.Core.Path.{◌≡◌}
use Prim.Native.Nat.{ℕ, ◌-◌, ◌*◌, ◌≤◌}
use lib.ListN.{length, drop}
use Rattle.answers.specs.Written.{Wrote}
use Rattle.pages.specs.Pages.{joined}
use Rattle.pages.specs.Lines.{pair_words, held, pairs_held, pairs_before, line_of, ahead}
use Rattle.pages.proofs.printing.put_pages.Given as goal

-- what holds whenever the loop is at its head
pub record Loop (text cells masks : List ℕ) (n lines : ℕ) (out₀ out : List ℕ) (place i : ℕ) : Type 0 where
  pub inside : i ≤ lines
  pub as_long : length out ≡ length out₀
  pub place_most : place ≤ pair_words
  pub onward : drop (pairs_before i) (pairs_held (held cells masks n)) ≡ ahead (held cells masks n) place (pair_words - place)
  pub wrote : Wrote 0 (joined (line_of text (pairs_held (held cells masks n))) i) out₀ out (73 * i)

abbrev pub invariant-loop-i : goal.invariant-loop-i
invariant-loop-i l = Loop l.text l.cells l.masks l.n l.lines l.initial.out l.out l.place l.i
