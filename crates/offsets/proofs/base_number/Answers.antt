-- The three causes in their order. Assumes nothing.
use Rattle.std.proofs.Common.{sym, ◌∙◌}
use Rattle.offsets.proofs.NumberLaws.{base_record, base_withdrawn, base_many, base_none}
use Rattle.offsets.proofs.base_number.Goals as goal

pub returns-then-n-base : goal.returns-then-n-base
returns-then-n-base c = base_record c.args.n c.args.state.now c.args.base c.args.count c.if-n-base.true

pub returns-then-is_withdrawn : goal.returns-then-is_withdrawn
returns-then-is_withdrawn c =
    base_withdrawn c.args.n c.args.state.now c.args.base c.args.count c.if-n-base.false (sym c.is_withdrawn.ensures ∙ c.if-is_withdrawn.true)

pub returns-then-count-gt-MAX_TIES : goal.returns-then-count-gt-MAX_TIES
returns-then-count-gt-MAX_TIES c =
    base_many c.args.n c.args.state.now c.args.base c.args.count c.if-n-base.false
    (sym c.is_withdrawn.ensures ∙ c.if-is_withdrawn.false) c.if-count-gt-MAX_TIES.true

pub returns : goal.returns
returns c = base_none c.args.n c.args.state.now c.args.base c.args.count c.if-n-base.false
    (sym c.is_withdrawn.ensures ∙ c.if-is_withdrawn.false) c.if-count-gt-MAX_TIES.false
