-- `lines::words::word_len` meets its contract. The loop's invariant: the bytes passed and those of the word that is left are those of the word.
-- The measure is the bytes left. Assumes nothing.
use mathlib.Core.Path.{◌≡◌}
use Prim.Native.Nat.{◌+◌, ◌-◌, ◌≤◌}
use lib.ListN.{length, drop}
use Rattle.lines.specs.Typed.{word}
use Rattle.lines.proofs.words.word_len.Given as goal

abbrev pub invariant-loop-i : goal.invariant-loop-i
invariant-loop-i l = record { inside : l.i ≤ length l.s; left : l.i + length (word (drop l.i l.s)) ≡ length (word l.s) }

abbrev pub decreases-loop-i : goal.decreases-loop-i
decreases-loop-i l = length l.s - l.i
