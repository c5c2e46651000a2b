-- `host::questions::dating_pairs` carries the promise of the question over to words. Assumes nothing.
use mathlib.Core.Path.{refl}
use Rattle.book.specs.Causes.{number}
use Rattle.host.proofs.CarryLaws.{load_none, load_some, asked_foreign, asked}
use Rattle.host.proofs.questions.dating_pairs.Goals as goal

pub returns-then-number_of-ne0 : goal.returns-then-number_of-ne0
unfolding number
returns-then-number_of-ne0 c =
    asked_foreign (load_none c.load-loaded.ensures c.number_of.ensures c.if-number_of-ne0.true) c.told_refusal.ensures refl

pub returns : goal.returns
returns c =
    asked (load_some c.load-loaded.ensures c.number_of.ensures c.if-number_of-ne0.false) c.pairs.result c.pairs.ensures c.told.ensures
