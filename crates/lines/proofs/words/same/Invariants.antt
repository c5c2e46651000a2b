-- `lines::words::same` meets its contract, byte by byte. The loop's invariant: what is left is the same as the whole is. The measure is the bytes left.
-- Assumes nothing.
use mathlib.Core.Path.{◌≡◌}
use Prim.Native.Nat.{◌≤◌}
use lib.ListN.{length, drop}
use Rattle.lines.specs.Typed.{same_bytes}
use Rattle.lines.proofs.words.same.Given as goal

abbrev pub invariant-loop-i : goal.invariant-loop-i
invariant-loop-i l = record { inside : l.i ≤ length l.a; left : same_bytes (drop l.i l.a) (drop l.i l.b) ≡ same_bytes l.a l.b }
