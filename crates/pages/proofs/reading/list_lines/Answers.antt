-- `list_lines`: the loop's invariant is that the words of the first i lines are written; the measure is how many lines are left. Assumes nothing.
use mathlib.Core.Path.{◌≡◌, refl, sym, subst, ◌∙◌}
use Prim.Native.Nat.{ℕ}
use native.Mathlib.Omega.{arith}
use Rattle.answers.specs.Written.{Wrote}
use Rattle.answers.specs.WrittenLaws.{wrote_none, wrote_as, wrote_then}
use Rattle.pages.specs.Pages.{joined}
use Rattle.pages.specs.Lines.{words_at, words_before}
use Rattle.pages.specs.LineLaws.{joined_next}
use Rattle.pages.proofs.ReadingLaws.{wrote_front, joined_fits}
use Rattle.pages.proofs.reading.list_lines.Goals as goal

pub loop-i-init : goal.loop-i-init
unfolding joined
loop-i-init c = record { inside = omega arith; as_long = refl; wrote = wrote_none 0 c.args.list.now (omega arith) }

pub list_line-end-requires : goal.list_line-end-requires
list_line-end-requires c =
    let here = c.loop-i in
    let h = c.loop-i-test.true in (
      omega (arith, c.requires.0),
      omega (arith, c.requires.1, here.invariant.as_long, here.invariant.wrote.place, joined_fits (words_at c.args.pages.now) here.i c.args.lines h),
    )

pub loop-i-preserved : goal.loop-i-preserved
loop-i-preserved c =
    let here = c.loop-i in
    let q = c.list_line-end in
    record {
      inside = omega (arith, c.loop-i-test.true);
      as_long = q.auto.list ∙ here.invariant.as_long;
      wrote = wrote_as (sym (joined_next (words_at c.args.pages.now) here.i)) (wrote_then here.invariant.wrote q.ensures);
    }

pub returns : goal.returns
returns c =
    let here = c.loop-i in
    let e : here.i ≡ c.args.lines = omega (arith, here.invariant.inside, c.loop-i-test.false) in
    wrote_front (subst (λ (n : ℕ). Wrote 0 (words_before c.args.pages.now n) c.args.list.now here.list here.end) e here.invariant.wrote)
