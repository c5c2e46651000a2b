-- `fill` goes through the blocks row by row. The loops' invariant: the cells of the blocks passed are there; past the last block of a row there are
-- no cells (`to_row`). The measures are the rows, and the columns, left. Assumes nothing.
use mathlib.Core.Path.{◌≡◌, refl, sym, ap, ◌∙◌}
use Prim.Native.Nat.{◌+◌, ◌*◌, ◌%◌, ◌^◌}
use native.Mathlib.Omega.{arith}
use Rattle.k2.specs.DigitLaws.{one_shl}
use Rattle.k2.specs.PairSets.{Cells}
use Rattle.k2.specs.Heap.{cells}
use Rattle.packing.specs.Image.{raised}
use Rattle.packing.proofs.BlockLaws.{to_none, to_row, to_all}
use Rattle.packing.proofs.making.fill.Goals as goal

pub loop-r-init : goal.loop-r-init
loop-r-init c =
    let a = c.args in
    record { inside = omega arith; as_long = refl; filled = λ s is e h. h ∙ sym (to_none a.base (a.g + 3) s) }

pub loop-r-preserved : goal.loop-r-preserved
loop-r-preserved c =
    let l = c.loop-r in
    let k = c.loop-c in
    let a = c.args in
    let p = c.requires in
    let sd : (1 * 2 ^ a.g) % 2 ^ 64 ≡ 2 ^ a.g = one_shl a.g (omega (arith, c.requires.levels)) in
    record {
      inside = omega arith;
      as_long = k.invariant.as_long ∙ l.invariant.as_long;
      filled = λ s is e h.
          k.invariant.filled s is e (l.invariant.filled s is e h)
          ∙ ap (λ (t : Cells). raised a.base (cells (a.g + 3) t))
          (to_row a.g p.levels s is l.r k.c (rw (sd) at c.loop-c-test.false) k.invariant.inside);
    }

pub returns : goal.returns
returns c =
    let l = c.loop-r in
    let a = c.args in
    let sd : (1 * 2 ^ a.g) % 2 ^ 64 ≡ 2 ^ a.g = one_shl a.g (omega (arith, c.requires.levels)) in
    let x : l.r ≡ 2 ^ a.g = omega (arith, sd) in
    λ s is e h. l.invariant.filled s is e h ∙ rw x (ap (λ (t : Cells). raised a.base (cells (a.g + 3) t)) (to_all a.g c.requires.levels s is))
