-- `compose` goes over the rows. The loop's invariant: the rows below i are those of the product, the others those of the left operand. The
-- measure is the rows left. It rests on `product_store` and, for an empty row, `product_skip`. Assumes nothing.
use mathlib.Core.Path.{◌≡◌}
use Rattle.k2.specs.Bits.{bit_at}
use Rattle.k2.specs.PairSets.{Cells, IsSet, transpose, product}
use Rattle.rows.specs.Rows.{flat}
use Rattle.rows.specs.Steps.{rows_to}
use Rattle.rows.proofs.compose.Given as goal

abbrev pub invariant-loop-i : goal.invariant-loop-i
invariant-loop-i l =
    (x y : Cells) → IsSet l.n x → IsSet l.n y → bit_at l.initial.a ≡ flat x → bit_at l.columns ≡ flat (transpose y)
    → bit_at l.a ≡ flat (rows_to l.i (product l.n x y) x)
