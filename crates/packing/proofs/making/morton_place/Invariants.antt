-- `place` takes the digits of row and column from the highest on. The loop's invariant: z and the place of what is left make the whole place.
-- The measure is the digits left. It rests on `place_step`. Assumes nothing.
use mathlib.Core.Path.{◌≡◌}
use Prim.Native.Nat.{ℕ, ◌+◌, ◌*◌, ◌%◌, ◌^◌, ◌≤◌}
use Rattle.k2.specs.Heap.{place}
use Rattle.packing.proofs.making.morton_place.Given as goal

-- what holds whenever the loop is at its head
pub record Loop (h x y z k : ℕ) : Type 0 where
  pub inside : k ≤ h
  pub placed : place h (x % 2 ^ h) (y % 2 ^ h) ≡ z * 4 ^ k + place k (x % 2 ^ k) (y % 2 ^ k)
  pub z_most : z ≤ 1048576

abbrev pub invariant-loop-k : goal.invariant-loop-k
invariant-loop-k l = Loop l.h l.x l.y l.z l.k

abbrev pub decreases-loop-k : goal.decreases-loop-k
decreases-loop-k l = l.k
