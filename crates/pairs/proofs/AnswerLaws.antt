-- The pairs of rows, in plain variables.
--   pairs_few      there are no more than there are of records
--   pairs_rows     of the rows of an expression's value they are its pairs
-- Assumes nothing.
use mathlib.Core.Path.{◌≡◌, ap, ◌∙◌}
use mathlib.Core.List.{List}
use Prim.Native.Nat.{ℕ, ◌*◌, ◌≤◌}
use native.Mathlib.Omega.{arith}
use lib.ListN.{length}
use Rattle.book.specs.Causes.{max_records}
use Rattle.book.specs.Book.{Book}
use Rattle.k2.specs.Bits.{bit_at}
use Rattle.paths.specs.Expressions.{Expr}
use Rattle.paths.specs.Chains.{asked}
use Rattle.paths.specs.Relations.{cells, pairs}
use Rattle.paths.proofs.RelationLaws.{cells_set}
use Rattle.paths.proofs.PairLaws.{fit_inside}
use Rattle.rows.specs.Rows.{flat}
use Rattle.rows.specs.RowSets.{pairs_in}
use Rattle.rows.specs.RowLaws.{pairs-in, length-places}
use Rattle.query.specs.Asking.{max_pairs}
use Rattle.query.specs.Evaluation.{Lettered}

pub pairs_few : (n : ℕ) (ws : List ℕ) → n ≤ max_records → length (pairs_in n ws) ≤ max_pairs
pairs_few n ws h = omega (arith, length-places (bit_at ws) (n * 1024))

pub pairs_rows : (b : Book) (n : ℕ) (ws : List ℕ) (u : ℕ → ℕ) (e : Expr) (rows : List ℕ) → Lettered b n ws u → bit_at rows ≡ flat (cells (asked b) e)
    → pairs_in n rows ≡ pairs (asked b) e
unfolding pairs asked
pairs_rows b n ws u e rows L m =
    ap (λ (i : ℕ). pairs_in i rows) L.size ∙ pairs-in b.n (cells (asked b) e) L.small (cells_set (asked b) (fit_inside b L.fit) e) rows m
