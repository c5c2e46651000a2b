-- `lines::read_line` meets its contract. The loop's invariant: len is at most the buffer's length. The measure is the number of turns left.
-- Assumes nothing.
use mathlib.Core.Path.{◌≡◌}
use Prim.Native.Nat.{◌≤◌}
use lib.ListN.{length}
use Rattle.lines.proofs.read_line.Given as goal

abbrev pub invariant-loop-turns : goal.invariant-loop-turns
invariant-loop-turns l = record { within : l.len ≤ length l.line; same : length l.line ≡ length l.initial.line }

abbrev pub decreases-loop-turns : goal.decreases-loop-turns
decreases-loop-turns l = l.turns
