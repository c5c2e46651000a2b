-- `register::words::total_in` reads the total at the label's place, of words that are a register's. Assumes nothing.
use mathlib.Core.Path.{sym}
use native.Mathlib.Omega.{arith}
use Rattle.book.specs.Causes.{number}
use Rattle.register.specs.WordLaws.{keeps_long, keeps_total, of_kept}
use Rattle.register.proofs.KeepLaws.{of_others}
use Rattle.register.proofs.TotalLaws.{totals_refused, totals_given}
use Rattle.register.proofs.words.total_in.Goals as goal

pub returns-then-not-is_register : goal.returns-then-not-is_register
unfolding number
returns-then-not-is_register c = of_others c.is_register.ensures c.if-not-is_register.true

pub returns-then-label-ge-LABELS : goal.returns-then-label-ge-LABELS
unfolding number
returns-then-label-ge-LABELS c =
    let k = (c.is_register.ensures.sure c.if-not-is_register.false).1 in of_kept k (totals_refused _ _ k.ranged c.if-label-ge-LABELS.true)

pub returns : goal.returns
returns c =
    let k = (c.is_register.ensures.sure c.if-not-is_register.false).1 in
    let below = c.if-label-ge-LABELS.false in of_kept k (totals_given _ _ k.ranged below (sym (keeps_total k _ below)))

pub bounds-words-label : goal.bounds-words-label
bounds-words-label c = omega (arith, keeps_long (c.is_register.ensures.sure c.if-not-is_register.false).1, c.if-label-ge-LABELS.false)
