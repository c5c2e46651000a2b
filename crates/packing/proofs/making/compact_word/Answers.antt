-- `compact_word` takes the groups of a word that are not all 0, the lowest first. The loop's invariant: w holds what is left of the word, and the
-- groups passed are at the front (`Left`); each turn leaves a group less, so at most sixteen are put in. The measure is w. Assumes nothing.
use mathlib.Core.Path.{◌≡◌, refl, ◌∙◌}
use Prim.Native.Nat.{ℕ, ◌+◌, ◌-◌, ◌*◌, ◌/◌, ◌^◌, ◌<◌}
use native.Mathlib.Omega.{arith}
use lib.Count.{count_trailing_zeros}
use lib.Pow.{pow_mono}
use native.Mathlib.Nat.{lt_of_lt_of_le}
use Rattle.packing.proofs.CompactLaws.{left_start, left_more, left_end, turns_less, turns_left}
use Rattle.packing.proofs.making.compact_word.Goals as goal

pub loop-w-init : goal.loop-w-init
loop-w-init c =
    let a = c.args in
    let e : 4 * (a.g + 16 - a.g) ≡ 64 = omega arith in
    let w = c.type_inv.heap a.i in
    record {
      from_here = omega arith;
      sixteen = omega arith;
      fewer_left = rw e (omega arith);
      as_long = refl;
      left = λ f s. left_start f a.i a.g a.heap.now (omega arith) s;
    }

pub loop-w-preserved : goal.loop-w-preserved
loop-w-preserved c =
    let a = c.args in
    let l = c.loop-w in
    let d : 0 < a.g + 16 - l.r = turns_left l.w (a.g + 16 - l.r) (omega arith) l.invariant.fewer_left in
    let fits : l.w < 2 ^ 64 = lt_of_lt_of_le l.invariant.fewer_left (pow_mono {j = 64} (omega arith)) in
    let k : ℕ = count_trailing_zeros 64 l.w / 4 * 4 in
    let e : a.g + 16 - (l.r + 1) ≡ a.g + 16 - l.r - 1 = omega arith in
    record {
      from_here = omega arith;
      sixteen = omega arith;
      fewer_left = rw e (turns_less l.w k (a.g + 16 - l.r) d l.invariant.fewer_left);
      as_long = c.set_four.auto.words ∙ l.invariant.as_long;
      left = λ f s. left_more f a.i l.r l.w l.heap fits (omega arith) (l.invariant.left f s) _ c.set_four.ensures;
    }

pub returns : goal.returns
returns c =
    let a = c.args in
    let l = c.loop-w in
    (omega arith, λ f s. left_end f a.i l.r l.w l.heap c.loop-w-test.false (l.invariant.left f s))
