-- `judge`: the loop's invariant is that every line before line i stands, `count` is the number of pairs on them and `low` the number after the
-- last; the measure is how many lines are left. Pages have no line that falls (`bad_line`), and lines that all stand, as many as their pairs
-- take, are pages (`good_lines`). Assumes nothing.
use mathlib.Core.Path.{◌≡◌, refl, ap, sym, subst, ◌∙◌}
use Prim.Native.Nat.{ℕ, ◌/◌}
use native.Mathlib.Omega.{arith}
use lib.ListN.{length}
use Rattle.pages.specs.Pages.{joined}
use Rattle.pages.specs.Lines.{lines_of, words_at, words_before, after, Stands, Judged}
use Rattle.pages.specs.declared.reading.Judgement.TheVariants.{Listing}
use Rattle.pages.specs.ReadLaws.{words_few}
use Rattle.pages.proofs.CheckLaws.{line_not, line_yes, bad_size, bad_most, bad_line, bad_lines, few_pairs, good_lines, before_next, stand_next}
use Rattle.pages.proofs.reading.judge.Goals as goal

pub returns-then-lines-pages : goal.returns-then-lines-pages
returns-then-lines-pages c = bad_size c.args.text.now c.args.pages.now c.if-lines-pages.true

pub returns-then-lines-gt-MOST_LINES : goal.returns-then-lines-gt-MOST_LINES
returns-then-lines-gt-MOST_LINES c = bad_most c.args.text.now c.args.pages.now c.if-lines-gt-MOST_LINES.true

pub loop-i-init : goal.loop-i-init
unfolding joined after
loop-i-init c =
    record {
      inside = omega arith;
      count_is = refl;
      low_is = refl;
      low_most = omega arith;
      count_most = omega arith;
      stands = λ k h. absurd (omega arith);
    }

pub returns-then-line-gt-PAST_PAIRS : goal.returns-then-line-gt-PAST_PAIRS
returns-then-line-gt-PAST_PAIRS c =
    let here = c.loop-i in
    let bytes = c.args.pages.now in
    let text = c.args.text.now in
    let n = length bytes / 73 in
    bad_line text bytes n refl here.i c.loop-i-test.true
    (λ S. line_not text bytes here.i n here.low c.check_line-line.ensures
    c.if-line-gt-PAST_PAIRS.true (subst (λ (l : ℕ). Stands text bytes here.i n l) (sym here.invariant.low_is) S))

pub overflow_add-count : goal.overflow_add-count
overflow_add-count c =
    let here = c.loop-i in
    let bytes = c.args.pages.now in
    let r = line_yes c.args.text.now bytes here.i (length bytes / 73) here.low c.check_line-line.ensures c.if-line-gt-PAST_PAIRS.false in
    omega (arith, r.1, here.invariant.count_most, words_few bytes here.i, c.loop-i-test.true)

pub loop-i-preserved : goal.loop-i-preserved
loop-i-preserved c =
    let here = c.loop-i in
    let bytes = c.args.pages.now in
    let text = c.args.text.now in
    let r = line_yes text bytes here.i (length bytes / 73) here.low c.check_line-line.ensures c.if-line-gt-PAST_PAIRS.false in
    let b = before_next text bytes here.i in
    record {
      inside = omega (arith, c.loop-i-test.true);
      count_is = omega (arith, r.1, here.invariant.count_is, b.0);
      low_is = r.2 ∙ ap (λ (l : ℕ). after l (words_at bytes here.i)) here.invariant.low_is ∙ sym b.1;
      low_most = c.if-line-gt-PAST_PAIRS.false;
      count_most = omega (arith, r.1, here.invariant.count_most, words_few bytes here.i);
      stands = stand_next text bytes (length bytes / 73) here.i here.invariant.stands
          (subst (λ (l : ℕ). Stands text bytes here.i (length bytes / 73) l) here.invariant.low_is r.0);
    }

pub lines_of-requires : goal.lines_of-requires
lines_of-requires c =
    let here = c.loop-i in
    let bytes = c.args.pages.now in
    let e : here.i ≡ length bytes / 73 = omega (arith, here.invariant.inside, c.loop-i-test.false) in
    omega (
      arith,
      here.invariant.count_is,
      ap (λ (n : ℕ). length (words_before bytes n)) e,
      few_pairs c.args.text.now bytes (length bytes / 73) refl (λ k h. here.invariant.stands k (omega arith)),
    )

pub returns-then-lines_of-lines : goal.returns-then-lines_of-lines
returns-then-lines_of-lines c =
    let here = c.loop-i in
    let bytes = c.args.pages.now in
    let e : here.i ≡ length bytes / 73 = omega (arith, here.invariant.inside, c.loop-i-test.false) in
    let z : here.count ≡ length (words_before bytes (length bytes / 73)) = here.invariant.count_is ∙ ap (λ (n : ℕ). length (words_before bytes n)) e in
    bad_lines c.args.text.now bytes (length bytes / 73) refl (λ q. c.if-lines_of-lines.true (c.lines_of.ensures ∙ ap lines_of z ∙ q))

pub returns : goal.returns
returns c =
    let here = c.loop-i in
    let bytes = c.args.pages.now in
    let text = c.args.text.now in
    let e : here.i ≡ length bytes / 73 = omega (arith, here.invariant.inside, c.loop-i-test.false) in
    let z : here.count ≡ length (words_before bytes (length bytes / 73)) = here.invariant.count_is ∙ ap (λ (n : ℕ). length (words_before bytes n)) e in
    subst (λ (k : ℕ). Judged text bytes (Listing k)) (sym z)
    (good_lines text bytes (length bytes / 73) refl (λ k h. here.invariant.stands k (omega arith))
    c.if-lines-pages.false (ap lines_of (sym z) ∙ sym c.lines_of.ensures ∙ c.if-lines_of-lines.false))
