-- The three causes in their order, each in both records. Assumes nothing.
use Rattle.std.proofs.Common.{sym, ◌∙◌}
use Rattle.offsets.proofs.NumberLaws.{no_first, no_second, first_withdrawn, second_withdrawn, too_low, too_high, crossed, no_cause}
use Rattle.offsets.proofs.tie_number.Goals as goal

pub returns-then-n-first : goal.returns-then-n-first
returns-then-n-first c = no_first c.args.n c.args.state.now c.args.first c.args.second c.args.least c.args.most c.if-n-first.true

pub returns-then-n-second : goal.returns-then-n-second
returns-then-n-second c = no_second c.args.n c.args.state.now c.args.first c.args.second c.args.least c.args.most c.if-n-first.false c.if-n-second.true

pub returns-then-is_withdrawn : goal.returns-then-is_withdrawn
returns-then-is_withdrawn c =
    first_withdrawn c.args.n c.args.state.now c.args.first c.args.second c.args.least c.args.most c.if-n-first.false c.if-n-second.false
    (sym c.is_withdrawn.ensures ∙ c.if-is_withdrawn.true)

pub returns-then-is_withdrawn-2 : goal.returns-then-is_withdrawn-2
returns-then-is_withdrawn-2 c =
    second_withdrawn c.args.n c.args.state.now c.args.first c.args.second c.args.least c.args.most c.if-n-first.false c.if-n-second.false
    (sym c.is_withdrawn.ensures ∙ c.if-is_withdrawn.false) (sym c.is_withdrawn-2.ensures ∙ c.if-is_withdrawn-2.true)

pub returns-then-least-lt-MIN_RINGS : goal.returns-then-least-lt-MIN_RINGS
returns-then-least-lt-MIN_RINGS c =
    too_low c.args.n c.args.state.now c.args.first c.args.second c.args.least c.args.most c.if-n-first.false c.if-n-second.false
    (sym c.is_withdrawn.ensures ∙ c.if-is_withdrawn.false)
    (sym c.is_withdrawn-2.ensures ∙ c.if-is_withdrawn-2.false) c.ranges.least c.ranges.most c.if-least-lt-MIN_RINGS.true

pub returns-then-most-gt-MAX_RINGS : goal.returns-then-most-gt-MAX_RINGS
returns-then-most-gt-MAX_RINGS c =
    too_high c.args.n c.args.state.now c.args.first c.args.second c.args.least c.args.most c.if-n-first.false c.if-n-second.false
    (sym c.is_withdrawn.ensures ∙ c.if-is_withdrawn.false)
    (sym c.is_withdrawn-2.ensures ∙ c.if-is_withdrawn-2.false) c.ranges.least c.ranges.most c.if-least-lt-MIN_RINGS.false c.if-most-gt-MAX_RINGS.true

pub returns-then-most-least : goal.returns-then-most-least
returns-then-most-least c =
    crossed c.args.n c.args.state.now c.args.first c.args.second c.args.least c.args.most c.if-n-first.false c.if-n-second.false
    (sym c.is_withdrawn.ensures ∙ c.if-is_withdrawn.false)
    (sym c.is_withdrawn-2.ensures ∙
    c.if-is_withdrawn-2.false) c.ranges.least c.ranges.most c.if-least-lt-MIN_RINGS.false c.if-most-gt-MAX_RINGS.false c.if-most-least.true

pub returns : goal.returns
returns c = no_cause c.args.n c.args.state.now c.args.first c.args.second c.args.least c.args.most c.if-n-first.false c.if-n-second.false
    (sym c.is_withdrawn.ensures ∙ c.if-is_withdrawn.false)
    (sym c.is_withdrawn-2.ensures ∙
    c.if-is_withdrawn-2.false) c.ranges.least c.ranges.most c.if-least-lt-MIN_RINGS.false c.if-most-gt-MAX_RINGS.false c.if-most-least.false
