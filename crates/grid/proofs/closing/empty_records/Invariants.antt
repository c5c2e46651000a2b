-- `empty_records` copies word by word. The loop's invariant: the words before c are copied (`Copied`). The measure is the words left. It rests on
-- `copied_word`. Assumes nothing.
use mathlib.Core.List.{List}
use mathlib.Core.Path.{◌≡◌}
use Prim.Native.Nat.{ℕ, ◌*◌, ◌≤◌}
use lib.ListN.{length}
use Rattle.grid.proofs.MarkLaws.{Copied}
use Rattle.grid.proofs.closing.empty_records.Given as goal

-- what holds whenever the loop is at its head
pub record Loop (marks records : List ℕ) (c : ℕ) : Type 0 where
  pub inside : c ≤ 16
  pub records_long : length records ≡ 16
  pub copied : Copied (c * 64) marks records

abbrev pub invariant-loop-c : goal.invariant-loop-c
invariant-loop-c l = Loop l.marks l.records l.c
