-- `lines::words::as_number` meets its contract, figure by figure. The loop's invariant: what is read so far is a number, and with the figures that
-- are left it is what the whole word is (`read_after`). The measure is the bytes left. Assumes nothing.
use mathlib.Core.Path.{◌≡◌}
use Prim.Native.Nat.{◌≤◌}
use lib.ListN.{length, drop}
use Rattle.lines.specs.Typed.{max_number}
use Rattle.lines.specs.ReadLaws.{read_after}
use Rattle.lines.proofs.words.as_number.Given as goal

abbrev pub invariant-loop-i : goal.invariant-loop-i
invariant-loop-i l = record { small : l.value ≤ max_number; inside : l.i ≤ length l.w; left : read_after l.value (drop l.i l.w) ≡ read_after 0 l.w }
