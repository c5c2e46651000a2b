-- `ones` counts word by word. The loop's invariant: n ones in the words passed. It rests on `ones_word`. Assumes nothing.
use mathlib.Core.Path.{refl, ap, sym, ◌∙◌}
use Prim.Native.Nat.{ℕ, ◌+◌, ◌*◌}
use native.Mathlib.Omega.{arith}
use lib.Count.{ones, ones-le as ones-fit}
use lib.ListN.{get_or}
use Rattle.k2.specs.Bits.{ones_below}
use Rattle.k2.specs.BitLaws.{bit_lt, ones-le, ones_word}
use Rattle.bits.proofs.ones.Goals as goal

pub loop-word-init : goal.loop-word-init
unfolding ones_below
loop-word-init c = refl

pub overflow_add-n : goal.overflow_add-n
overflow_add-n c =
    omega (
      arith,
      ones-fit 64 _ (c.type_inv.words c.loop-word.word-index).fits,
      ones-le _ (bit_lt c.args.words.now) (c.loop-word.word-index * 64),
    )

pub loop-word-preserved : goal.loop-word-preserved
loop-word-preserved c =
    let i = c.loop-word.word-index in
    let ws = c.args.words.now in
    ap (λ (x : ℕ). x + ones (get_or ws i 0)) c.loop-word.invariant ∙ sym (ones_word ws i (c.type_inv.words i).fits)
