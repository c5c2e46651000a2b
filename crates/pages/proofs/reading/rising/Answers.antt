-- `rising`: the loop's invariant is that the first i words ascend, and `next` is the number after them; the measure is how many are left. A turn is one word
-- more (`rising-more`); a word that does not ascend is one that no ascending list has (`rising_not`). Assumes nothing.
use mathlib.Core.Path.{◌≡◌, refl, ap, sym, subst, ◌∙◌}
use Prim.Native.Nat.{ℕ}
use native.Mathlib.Omega.{arith}
use lib.ListN.{take}
use Rattle.k2.specs.PairSetLaws.{Within, ends}
use Rattle.pages.specs.Lines.{pair_words, after, Rising, up, down}
use Rattle.pages.proofs.ReadingLaws.{rising-more, rising_not}
use Rattle.pages.proofs.reading.rising.Goals as goal

pub loop-i-init : goal.loop-i-init
unfolding after
loop-i-init c = record { inside = omega arith; next_is = refl; within = ends {m = c.args.low} {t = pair_words} c.requires.1 }

pub returns-then-w-next : goal.returns-then-w-next
returns-then-w-next c =
    let here = c.loop-i in
    down (λ W. let r = rising_not c.args.words.now c.args.low here.i c.args.count c.loop-i-test.true c.requires.0 W in
    omega (arith, r.0, here.invariant.next_is, c.if-w-next.true))

pub returns-then-w-ge-PAST_PAIRS : goal.returns-then-w-ge-PAST_PAIRS
returns-then-w-ge-PAST_PAIRS c =
    let here = c.loop-i in
    down (λ W. let r = rising_not c.args.words.now c.args.low here.i c.args.count c.loop-i-test.true c.requires.0 W in
    omega (arith, r.1, c.if-w-ge-PAST_PAIRS.true))

pub loop-i-preserved : goal.loop-i-preserved
loop-i-preserved c =
    let here = c.loop-i in
    let r = rising-more c.args.words.now c.args.low here.i (omega (arith, c.requires.0, c.loop-i-test.true))
    here.invariant.within (omega (arith, here.invariant.next_is, c.if-w-next.false)) c.if-w-ge-PAST_PAIRS.false in
    record { inside = omega (arith, c.loop-i-test.true); next_is = sym r.0; within = r.1 }

pub returns : goal.returns
returns c =
    let here = c.loop-i in
    let ws = c.args.words.now in
    let e : here.i ≡ c.args.count = omega (arith, here.invariant.inside, c.loop-i-test.false) in
    subst (λ (v : ℕ). Rising c.args.low (take c.args.count ws) v)
    (sym (here.invariant.next_is ∙ ap (λ (n : ℕ). after c.args.low (take n ws)) e))
    (up (subst (λ (n : ℕ). Within c.args.low (take n ws) pair_words) e here.invariant.within))
