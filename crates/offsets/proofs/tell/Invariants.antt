-- `tell` writes the two words of each record in turn. The loop's invariant: the words of the records before x are there, if all fit, and those past the last
-- record's are as they were. The measure is what is left. Assumes nothing.
use mathlib.Core.Path.{◌≡◌}
use mathlib.Core.List.{List}
use Prim.Native.Nat.{ℕ, ◌≤◌, ◌*◌}
use lib.IntN.{ℤ}
use lib.ListN.{length, drop}
use Rattle.offsets.specs.Finds.{Told, Fits}
use Rattle.offsets.proofs.tell.Given as goal

pub record Telling (n : ℕ) (d list₀ list : List ℤ) (x : ℕ) : Type 0 where
  pub inside : x ≤ n
  pub as_long : length list ≡ length list₀
  pub told : Fits n d → Told n d x list
  pub past : drop (n * 2) list ≡ drop (n * 2) list₀

abbrev pub invariant-loop-x : goal.invariant-loop-x
invariant-loop-x l = Telling l.n l.d l.initial.list l.list l.x
