-- `ones` counts word by word. The loop's invariant: n ones in the words passed. It rests on `ones_word`. Assumes nothing.
use mathlib.Core.Path.{◌≡◌}
use Prim.Native.Nat.{◌*◌}
use Rattle.k2.specs.Bits.{bit_at, ones_below}
use Rattle.bits.proofs.ones.Given as goal

abbrev pub invariant-loop-word : goal.invariant-loop-word
invariant-loop-word l = l.n ≡ ones_below (bit_at l.words) (l.word-index * 64)
