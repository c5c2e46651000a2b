-- `put_diagonal` goes record by record. The loop's invariant: the records below x are joined to themselves. The measure is the records left.
-- Assumes nothing.
use Prim.Native.Nat.{ℕ}
use Rattle.grid.proofs.PairLaws.{put_more, union-empty, diagonal_none, diagonal_more, diagonal_skip, within_twice}
use Rattle.grid.specs.Grid.{first, within}
use Rattle.grid.specs.Steps.{one_pair}
use Rattle.k2.specs.BitLaws.{bit_lt}
use Rattle.k2.specs.Bits.{bit_at}
use Rattle.k2.specs.PairSets.{Cells, union, diagonal}
use mathlib.Core.Path.{◌≡◌, refl, sym, ap, ◌∙◌}
use native.Mathlib.Omega.{arith}
use Rattle.grid.proofs.putting.put_diagonal.Goals as goal
use Rattle.grid.proofs.putting.put_diagonal.Goals.{then-bit-eq1, else-bit-eq1}

pub loop-x-init : goal.loop-x-init
loop-x-init c =
    let a = c.args in
    record { inside = omega arith; cells_as_long = refl; masks_as_long = refl; put = union-empty a.n _ _ (diagonal_none (bit_at a.used.now)) }

pub loop-x-preserved : goal.loop-x-preserved
loop-x-preserved c =
    let a = c.args in
    let l = c.loop-x in
    let f = bit_at a.used.now in
    let r = c.bit in
    let A : Cells = first a.n a.w a.cells.now a.masks.now in
    elim c.if-bit-eq1.branch [
      | then-bit-eq1 v ↦ record {
        inside = omega arith;
        cells_as_long = rw v.cells-is (v.put_pair.auto.cells ∙ l.invariant.cells_as_long);
        masks_as_long = rw v.masks-is (v.put_pair.auto.masks ∙ l.invariant.masks_as_long);
        put = rw (v.cells-is, v.masks-is) (v.put_pair.ensures ∙ ap (λ (s : Cells). union s (within a.n (one_pair l.x l.x))) l.invariant.put ∙ put_more a.n A _ _
            ∙ ap (λ (s : Cells). union A (within a.n s)) (diagonal_more f l.x (sym r.ensures ∙ v.if-bit-eq1.true)));
      }
      | else-bit-eq1 v ↦ record {
        inside = omega arith;
        cells_as_long = rw v.cells-is l.invariant.cells_as_long;
        masks_as_long = rw v.masks-is l.invariant.masks_as_long;
        put = rw (v.cells-is, v.masks-is) (l.invariant.put ∙ ap (λ (s : Cells). union A (within a.n s))
            (diagonal_skip f l.x (omega (arith, r.ensures, v.if-bit-eq1.false, bit_lt a.used.now l.x))));
      }
    ]

pub returns : goal.returns
returns c =
    let a = c.args in
    let l = c.loop-x in
    let e : l.x ≡ a.n = omega arith in
    l.invariant.put ∙ ap (λ (k : ℕ). union (first a.n a.w a.cells.now a.masks.now) (within a.n (within k (diagonal (bit_at a.used.now))))) e
    ∙ ap (union (first a.n a.w a.cells.now a.masks.now)) (within_twice a.n (diagonal (bit_at a.used.now)))
