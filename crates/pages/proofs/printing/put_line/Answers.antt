-- `put_line`: a head, or the next six pairs (`laid_head`, `laid_pairs`). Assumes nothing.
use native.Mathlib.Omega.{arith}
use Rattle.pages.specs.Lines.{held}
use Rattle.pages.proofs.LayoutLaws.{laid_head, laid_pairs}
use Rattle.pages.proofs.printing.put_line.Goals as goal

pub returns-then-i-eq0 : goal.returns-then-i-eq0
returns-then-i-eq0 c =
    laid_head (held c.args.cells.now c.args.masks.now c.args.n) c.args.text.now c.args.i c.args.place
    (omega (arith, c.if-i-eq0.true)) (omega (arith, c.requires.line)) c.requires.inside c.put_head_line.ensures

pub returns : goal.returns
returns c =
    laid_pairs (held c.args.cells.now c.args.masks.now c.args.n) c.args.text.now c.args.i c.args.place
    (omega (arith, c.if-i-eq0.false)) c.gather-found.auto.words c.gather-found.ensures c.put_pair_line.ensures
