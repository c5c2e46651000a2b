-- `put_pair_line`: the loop's invariant is that the cells of the first i words are written, 12 bytes each; the measure is the number of words left. Then blanks
-- and the line feed (`wrote_pairs`). Assumes nothing.
use mathlib.Core.Path.{◌≡◌, refl, subst, ◌∙◌}
use Prim.Native.Nat.{ℕ}
use native.Mathlib.Omega.{arith}
use lib.ListN.{take, get_or}
use Rattle.report.specs.Report.{lines}
use Rattle.report.proofs.ReportLaws.{wrote_line}
use Rattle.answers.specs.Written.{Wrote}
use Rattle.answers.specs.WrittenLaws.{wrote_none}
use Rattle.pages.specs.Pages.{pair_cell}
use Rattle.pages.specs.LineLaws.{length_cell}
use Rattle.pages.proofs.WritingLaws.{wrote_pairs}
use Rattle.pages.proofs.printing.put_pair_line.Goals as goal

pub loop-i-init : goal.loop-i-init
unfolding lines
loop-i-init c =
    record {
      inside = omega arith;
      as_long = refl;
      end_is = omega arith;
      wrote = wrote_none c.args.at c.args.out.now (omega (arith, c.requires.fits));
    }

pub loop-i-preserved : goal.loop-i-preserved
loop-i-preserved c =
    let here = c.loop-i in
    let q = c.put_cell-end in
    let ws = c.args.words.now in
    let h = c.loop-i-test.true in
    let n = length_cell (get_or ws here.i 0) (c.requires.small here.i h) in
    record {
      inside = omega arith;
      as_long = q.auto.out ∙ here.invariant.as_long;
      end_is = omega (arith, q.ensures.place, here.invariant.end_is, n);
      wrote = wrote_line pair_cell ws here.i here.invariant.wrote q.ensures (omega (arith, c.requires.there));
    }

pub returns : goal.returns
returns c =
    let here = c.loop-i in
    let ws = c.args.words.now in
    let e : here.i ≡ c.args.count = omega (arith, here.invariant.inside, c.loop-i-test.false) in
    wrote_pairs ws c.args.count c.requires.there c.requires.small
    (subst (λ (n : ℕ). Wrote c.args.at (lines pair_cell (take n ws)) c.args.out.now here.out here.end) e here.invariant.wrote)
    c.put_blanks-end.ensures c.put_byte.ensures
