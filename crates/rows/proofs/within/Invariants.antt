-- `within` looks for a bit past column n in each row below n, and then in the rows from n on. The loop's invariant: there is none in the rows
-- below i. The measure is the rows left. It rests on `rows_of` and `rows_in`. Assumes nothing.
use Prim.Native.Nat.{ℕ, ◌<◌, ◌+◌, ◌*◌}
use Rattle.k2.specs.Bits.{bit_at}
use Rattle.bits.specs.BitSets.{Gap}
use Rattle.rows.proofs.within.Given as goal

abbrev pub invariant-loop-i : goal.invariant-loop-i
invariant-loop-i l = (j : ℕ) → j < l.i → Gap (bit_at l.rows) (j * 1024 + l.n) (j * 1024 + 1024)
