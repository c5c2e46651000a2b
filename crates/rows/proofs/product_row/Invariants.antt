-- `product_row` goes over the entries. The loop's invariant: the columns before the entry reached are those of the product, and no other is
-- set. It rests on `row_skip`, `row_put` and, where the masks do not meet, `masks_apart`. Assumes nothing.
use mathlib.Core.Path.{◌≡◌}
use Prim.Native.Nat.{ℕ}
use lib.ListN.{length}
use Rattle.k2.specs.Bits.{bit_at}
use Rattle.bits.specs.BitSets.{none}
use Rattle.rows.specs.Steps.{Masked, row_at, Occupied, Masks, served, below}
use Rattle.rows.proofs.product_row.Given as goal

abbrev pub invariant-loop-entry : goal.invariant-loop-entry
invariant-loop-entry l =
    (n : ℕ) → Masked (bit_at l.a) l.i l.mask → Occupied (bit_at l.columns) n (row_at n (length l.list) l.list) (length l.list)
    → Masks (bit_at l.columns) (length l.list) l.list → bit_at l.initial.row ≡ none
    → bit_at l.row ≡ below (row_at n (length l.list) l.list l.entry-index) (served (bit_at l.a) (bit_at l.columns) l.i)
