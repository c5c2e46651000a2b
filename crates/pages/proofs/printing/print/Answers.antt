-- `print` has the relation made, and lays its pairs out where it was made. Assumes nothing.
use native.Mathlib.Omega.{arith}
use lib.ListN.{length}
use Rattle.pages.proofs.AnswerLaws.{prints_refused, prints_laid}
use Rattle.pages.proofs.printing.print.Goals as goal

pub lay_out-requires : goal.lay_out-requires
lay_out-requires c =
    let r = c.relate-related in
    let h = r.ensures.held _ c.in-Count.is in
    (h, omega (arith, h.small, r.ensures.masks))

pub returns-in-Refused : goal.returns-in-Refused
returns-in-Refused c =
    prints_refused c.args.register c.args.text.now (length c.args.work.now) _ c.args.pages.now c.relate-related.ensures c.in-Refused.is

pub returns-in-Count : goal.returns-in-Count
returns-in-Count c =
    prints_laid c.args.register c.args.text.now (length c.args.work.now) _ c.args.pages.now c.relate-related.ensures c.in-Count.is c.lay_out.ensures
