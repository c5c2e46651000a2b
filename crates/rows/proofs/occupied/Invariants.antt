-- `occupied` lists the rows in turn. The loop's invariant: the rows below i are listed, and the next is i. The measure is the rows left. It
-- rests on `entries_skip` and `entries_add`. Assumes nothing.
use mathlib.Core.List.{List}
use Prim.Native.Nat.{ℕ, ◌≤◌}
use Rattle.k2.specs.Bits.{bit_at}
use Rattle.rows.specs.declared.entry.Entry.{Entry}
use Rattle.rows.specs.Steps.{row_at, Occupied, Masks}
use Rattle.rows.proofs.occupied.Given as goal

-- what holds whenever the loop is at its head
pub record Loop (rows : List ℕ) (list : List Entry) (m i : ℕ) : Type 0 where
  pub m_most : m ≤ i
  pub occupied : Occupied (bit_at rows) i (row_at i m list) m
  pub masks : Masks (bit_at rows) m list

abbrev pub invariant-loop-i : goal.invariant-loop-i
invariant-loop-i l = Loop l.rows l.list l.m l.i
