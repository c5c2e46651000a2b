-- `host::questions::dating_ends` asks of the marks and links that stand among the words. Assumes nothing.
use mathlib.Core.Path.{refl}
use Rattle.book.specs.Causes.{number}
use Rattle.host.proofs.CarryLaws.{asked_foreign, asked}
use Rattle.host.proofs.ReadLaws.{read_kept}
use Rattle.host.proofs.questions.dating_ends.Goals as goal

pub returns-then-not-is_register : goal.returns-then-not-is_register
unfolding number
returns-then-not-is_register c =
    asked_foreign (λ r k. c.is_register.ensures.none c.if-not-is_register.true (r, k)) c.told_refusal.ensures refl

pub returns : goal.returns
returns c =
    let one = c.is_register.ensures.sure c.if-not-is_register.false in
    let read = read_kept one.1 c.marks_in-marks.ensures c.links_in-links.ensures in
    asked one.1 c.joined_over.result (c.joined_over.ensures one.0 read) c.told.ensures
