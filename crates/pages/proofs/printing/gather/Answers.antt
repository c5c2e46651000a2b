-- `gather`: the loop's invariant is that what is ahead of the start is the words found, and then what is ahead of the place reached; the measure is how many
-- more fit a line. A turn finds one more (`gathered_more`). Assumes nothing.
use mathlib.Core.Path.{◌≡◌, ap, ◌∙◌}
use mathlib.Core.List.{List, [], ◌++◌}
use Prim.Native.Nat.{ℕ, ◌-◌, ◌<◌}
use native.Mathlib.Omega.{arith}
use lib.ListN.{length, take, length-set}
use Rattle.pages.specs.Lines.{pair_words, held, ahead}
use Rattle.pages.proofs.GatherLaws.{ahead_gap, ahead_end, gathered_more, small_more}
use Rattle.pages.proofs.printing.gather.Goals as goal

pub returns-then-next-eq-PAIR_WORDS : goal.returns-then-next-eq-PAIR_WORDS
returns-then-next-eq-PAIR_WORDS c =
    let here = c.loop-count in
    let f = held c.args.cells.now c.args.masks.now c.args.n in
    let n = c.next_pair-next in
    let e : n.result ≡ pair_words = c.if-next-eq-PAIR_WORDS.true in
    let z : ahead f n.result (pair_words - n.result) ≡ [] = ap (λ (p : ℕ). ahead f p (pair_words - p)) e ∙ ahead_end f in
    record {
      few = here.invariant.inside;
      in_range = n.ensures.high;
      small = here.invariant.small;
      found =
          here.invariant.found ∙ ap (λ (t : List ℕ). take here.count here.words ++ t)
          (ahead_gap f here.place n.result n.ensures.low n.ensures.high n.ensures.gap);
      all = λ h. z;
    }

pub loop-count-preserved : goal.loop-count-preserved
loop-count-preserved c =
    let here = c.loop-count in
    let f = held c.args.cells.now c.args.masks.now c.args.n in
    let n = c.next_pair-next in
    let l : n.result < pair_words = omega (arith, n.ensures.high, c.if-next-eq-PAIR_WORDS.false) in
    let k : here.count < length here.words = omega (arith, c.requires.six, here.invariant.as_long, c.loop-count-test.true) in
    record {
      inside = omega (arith, c.loop-count-test.true);
      place_most = omega arith;
      as_long = simp length-set here.invariant.as_long;
      small = small_more here.words here.count n.result k l here.invariant.small;
      found = gathered_more f here.words (ahead f c.args.from (pair_words - c.args.from)) here.count
          here.place n.result k n.ensures.low l n.ensures.gap (n.ensures.hit l) here.invariant.found;
    }
