-- `host::reading::told_words` copies the first of the words, as many as the list takes, to its front. Assumes nothing.
use mathlib.Core.Path.{refl}
use lib.ListN.{length, take}
use Rattle.book.specs.Causes.{number}
use Rattle.answers.specs.declared.Counted.TheVariants.{Count}
use Rattle.host.proofs.CarryLaws.{asked_foreign, asked, copied}
use Rattle.host.proofs.reading.told_words.Goals as goal

pub returns-then-not-is_register : goal.returns-then-not-is_register
unfolding number
returns-then-not-is_register c =
    asked_foreign (λ r k. c.is_register.ensures.none c.if-not-is_register.true (r, k)) c.told_refusal.ensures refl

pub returns : goal.returns
returns c =
    let k = (c.is_register.ensures.sure c.if-not-is_register.false).1 in
    let f = c.fitting-first in
    asked k (Count (length c.args.words.now))
    (copied c.args.words.now (take f.result c.args.words.now) c.copy_u32.ensures f.ensures.2) refl
