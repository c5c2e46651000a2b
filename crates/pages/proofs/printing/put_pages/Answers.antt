-- `put_pages`: the loop's invariant is that the lines before line i are laid, and the pairs of the others are ahead of `place`; the measure is how many lines
-- are left. In the end the lines are the pages (`pages_lines`). Assumes nothing.
use mathlib.Core.Path.{◌≡◌, refl, ap, sym, subst, ◌∙◌}
use Prim.Native.Nat.{ℕ, ◌+◌, ◌*◌}
use native.Mathlib.Omega.{arith}
use lib.ListN.{length}
use Rattle.answers.specs.Written.{Wrote}
use Rattle.answers.specs.WrittenLaws.{wrote_none, wrote_as, wrote_then}
use Rattle.pages.specs.Pages.{joined, pages}
use Rattle.pages.specs.Lines.{held, pairs_held, pairs_before, lines_of, line_of}
use Rattle.pages.specs.LineLaws.{joined_next, pages_lines, lines_most}
use Rattle.pages.proofs.LayoutLaws.{all_ahead, all_few}
use Rattle.pages.proofs.ReadingLaws.{wrote_front}
use Rattle.pages.proofs.printing.put_pages.Goals as goal

pub loop-i-init : goal.loop-i-init
unfolding joined pairs_before
loop-i-init c =
    record {
      inside = omega arith;
      as_long = refl;
      place_most = omega arith;
      onward = all_ahead (held c.args.cells.now c.args.masks.now c.args.n);
      wrote = wrote_none 0 c.args.out.now (omega arith);
    }

pub put_line-place-requires : goal.put_line-place-requires
put_line-place-requires c =
    let p = c.requires in
    let here = c.loop-i in
    let h = c.loop-i-test.true in
    let f = held c.args.cells.now c.args.masks.now c.args.n in
    record {
      line = omega (arith, p.all, lines_most (length (pairs_held f)) (all_few f), h);
      inside = here.invariant.place_most;
      fits = omega (arith, p.fits, here.invariant.as_long, h);
      few = p.few;
      masked = p.masked;
    }

pub loop-i-preserved : goal.loop-i-preserved
loop-i-preserved c =
    let here = c.loop-i in
    let q = c.put_line-place in
    let ws = pairs_held (held c.args.cells.now c.args.masks.now c.args.n) in
    let l = q.ensures.lays ws here.invariant.onward in
    let e : 73 * here.i + 73 ≡ 73 * (here.i + 1) = omega arith in
    record {
      inside = omega (arith, c.loop-i-test.true);
      as_long = q.auto.out ∙ here.invariant.as_long;
      place_most = q.ensures.in_range;
      onward = l.1;
      wrote = subst (λ (n : ℕ). Wrote 0 (joined (line_of c.args.text.now ws) (here.i + 1)) c.args.out.now q.new.out n) e
          (wrote_as (sym (joined_next (line_of c.args.text.now ws) here.i)) (wrote_then here.invariant.wrote l.0));
    }

pub returns : goal.returns
returns c =
    let here = c.loop-i in
    let text = c.args.text.now in
    let ws = pairs_held (held c.args.cells.now c.args.masks.now c.args.n) in
    let e : here.i ≡ lines_of (length ws) = omega (arith, here.invariant.inside, c.loop-i-test.false, c.requires.all) in
    let p : joined (line_of text ws) here.i ≡ pages text ws = ap (joined (line_of text ws)) e ∙ sym (pages_lines text ws) in
    wrote_front (wrote_as p here.invariant.wrote)
