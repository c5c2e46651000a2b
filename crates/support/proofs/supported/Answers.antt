-- `supported`: each refusal by the causes' order, and the rest by the promise of `compared`, whose part of the work is short
-- exactly if the whole is. Assumes nothing.
use mathlib.Core.Path.{sym, ◌∙◌}
use Rattle.support.proofs.AnswerLaws.{refuses_core, refuses_beyond, refuses_unordered, part_length, supports}
use Rattle.support.proofs.supported.Goals as goal

pub returns-then-n-core : goal.returns-then-n-core
returns-then-n-core c = λ r O. refuses_core _ _ _ _ (λ b R. (O b R).size) c.if-n-core.true

pub returns-then-beyond : goal.returns-then-beyond
returns-then-beyond c = λ r O. refuses_beyond _ _ _ _ (λ b R. (O b R).size) (sym c.beyond.ensures ∙ c.if-beyond.true)

pub returns-then-not-ascending : goal.returns-then-not-ascending
returns-then-not-ascending c =
    λ r O. refuses_unordered _ _ _ _ (λ b R. (O b R).size) c.if-n-core.false
    (sym c.beyond.ensures ∙ c.if-beyond.false)
    (sym c.ascending.ensures ∙ c.if-not-ascending.true)

pub returns : goal.returns
returns c =
    λ r O. supports _ (λ b R. (O b R).size) O
    (part_length c.args.work.now _ _ c.spared-start.ensures) c.compared.ensures
