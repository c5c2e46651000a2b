-- `place` takes the digits of row and column from the highest on. The loop's invariant: z and the place of what is left make the whole place.
-- The measure is the digits left. It rests on `place_step`. Assumes nothing.
use mathlib.Core.Path.{◌≡◌, ◌∙◌}
use Prim.Native.Nat.{◌+◌, ◌-◌, ◌*◌, ◌%◌, ◌^◌}
use native.Mathlib.Nat.{mod-lt}
use native.Mathlib.Omega.{arith}
use lib.Pow.{pow_pos}
use Rattle.k2.specs.Heap.{place}
use Rattle.k2.specs.PlaceLaws.{place_lt}
use Rattle.packing.proofs.PlaceLaws.{place_turn, place_small}
use Rattle.packing.proofs.making.morton_place.Goals as goal

pub loop-k-preserved : goal.loop-k-preserved
loop-k-preserved c =
    let l = c.loop-k in
    let a = c.args in
    let t = l.invariant.placed ∙ place_turn l.k a.x a.y l.z (omega arith) in
    record { inside = omega arith; placed = t; z_most = place_small a.h a.x a.y _ (l.k - 1) _ (omega arith) t }

pub returns : goal.returns
unfolding place
returns c =
    let l = c.loop-k in
    let a = c.args in
    let e : l.k ≡ 0 = omega arith in
    let t : place a.h (a.x % 2 ^ a.h) (a.y % 2 ^ a.h) ≡ l.z * 4 ^ 0 + 0 = rw e at l.invariant.placed in
    let p = place_lt a.h (a.x % 2 ^ a.h) (a.y % 2 ^ a.h) (mod-lt a.x (pow_pos a.h)) (mod-lt a.y (pow_pos a.h)) in
    (omega arith, omega arith)
