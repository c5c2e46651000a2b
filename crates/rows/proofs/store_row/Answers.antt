-- The row's words stand in the place of those of row i (`row_stored`). Assumes nothing.
use mathlib.Core.Path.{◌≡◌}
use Prim.Native.Nat.{◌+◌, ◌-◌, ◌*◌}
use native.Mathlib.Omega.{arith}
use lib.ListN.{length}
use Rattle.rows.proofs.WordwiseLaws.{row_stored}
use Rattle.rows.proofs.store_row.Goals as goal

pub returns : goal.returns
returns c =
    let a = c.args in
    let n : a.i * 16 + 16 - a.i * 16 ≡ length a.row.now = omega arith in
    rw (c.copy_from_slice.ensures.after, n) (row_stored a.row.now a.rows.now a.i (omega arith) (omega arith))
