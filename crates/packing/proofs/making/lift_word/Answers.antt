-- `lift_word` puts in the summary of a word (`lift-word`); of a word that is 0 it is 0 (`lift_gap`). Assumes nothing.
use mathlib.Core.Path.{◌≡◌, ◌∙◌}
use Prim.Native.Nat.{◌+◌, ◌-◌, ◌*◌, ◌/◌}
use native.Mathlib.Omega.{arith}
use Rattle.k2.specs.Bits.{bit_at}
use Rattle.k2.specs.BitLaws.{bit_zero}
use Rattle.packing.proofs.LiftLaws.{lift-word, lift_gap}
use Rattle.packing.proofs.making.lift_word.Goals as goal

pub returns-then-w-ne0 : goal.returns-then-w-ne0
returns-then-w-ne0 c =
    let a = c.args in
    λ b f h e.
    c.or_word.ensures
    ∙ lift-word b f h a.heap.now a.i (16 * a.i - 1) c.summary.result (omega arith)
    (omega arith) (omega (arith, c.type_inv.heap a.i)) c.summary.ensures e

pub returns-else-w-ne0 : goal.returns-else-w-ne0
returns-else-w-ne0 c =
    let a = c.args in
    λ b f h e.
    lift_gap b f h (bit_at a.heap.now) (16 * a.i - 1) (16 * a.i - 1 + 16) (omega arith) (omega arith)
    (λ k l g. bit_zero a.heap.now k (let q : k / 64 ≡ a.i = omega arith in rw q c.if-w-ne0.false)) e
