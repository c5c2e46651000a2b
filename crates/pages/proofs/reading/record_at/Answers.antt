-- `record_at`: the loop's invariant is that v is the value of the first i bytes; the measure is how many are left. A turn is one figure more (`value_more`).
-- Assumes nothing.
use mathlib.Core.Path.{◌≡◌, refl, ap, ◌∙◌}
use Prim.Native.Nat.{ℕ}
use native.Mathlib.Omega.{arith}
use lib.ListN.{take, drop, length-drop}
use lib.Seq.{get_or-drop}
use Rattle.pages.specs.Lines.{value_from, value}
use Rattle.pages.proofs.ReadingLaws.{value_more, record_small}
use Rattle.pages.proofs.reading.record_at.Goals as goal

pub loop-i-init : goal.loop-i-init
unfolding value_from
loop-i-init c = (omega arith, refl)

pub overflow_mul-v : goal.overflow_mul-v
overflow_mul-v c =
    let here = c.loop-i in
    omega (arith, here.invariant.1, record_small c.args.pages.now here.i c.args.at here.invariant.0)

pub overflow_add-v-in-loop-i : goal.overflow_add-v-in-loop-i
overflow_add-v-in-loop-i c =
    let here = c.loop-i in
    omega (arith, here.invariant.1, record_small c.args.pages.now here.i c.args.at here.invariant.0)

pub loop-i-preserved : goal.loop-i-preserved
loop-i-preserved c =
    let here = c.loop-i in
    let l = c.args.pages.now in
    let m = value_more (drop c.args.at l) here.i (omega (arith, length-drop c.args.at l, c.requires, c.loop-i-test.true)) in
    (omega (arith, c.loop-i-test.true), omega (arith, m, here.invariant.1, get_or-drop c.args.at l here.i 0))

pub returns : goal.returns
returns c =
    let here = c.loop-i in
    let l = c.args.pages.now in
    let e : here.i ≡ 5 = omega (arith, here.invariant.0, c.loop-i-test.false) in
    let v : here.v ≡ value (take 5 (drop c.args.at l)) = here.invariant.1 ∙ ap (λ (n : ℕ). value (take n (drop c.args.at l))) e in
    (v, omega (arith, v, record_small l 5 c.args.at (omega arith)))
