-- `start_marks` writes the two parts word by word. The loop's invariant: the marks are begun as far as the records of word c (`Started`). The measure is the
-- words left. It rests on `started_word`. Assumes nothing.
use mathlib.Core.List.{List}
use mathlib.Core.Path.{◌≡◌}
use Prim.Native.Nat.{ℕ, ◌*◌, ◌≤◌}
use lib.ListN.{length}
use Rattle.k2.specs.Bits.{bit_at}
use Rattle.grid.specs.Steps.{Started}
use Rattle.grid.proofs.closing.start_marks.Given as goal

-- what holds whenever the loop is at its head
pub record Loop (filled marks : List ℕ) (c : ℕ) : Type 0 where
  pub inside : c ≤ 16
  pub marks_long : length marks ≡ 48
  pub started : Started (c * 64) (bit_at filled) (bit_at marks)

abbrev pub invariant-loop-c : goal.invariant-loop-c
invariant-loop-c l = Loop l.filled l.marks l.c
