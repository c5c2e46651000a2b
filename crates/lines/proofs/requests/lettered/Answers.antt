-- case by case (`lettered_not`, `lettered_more`, `lettered_is`). Assumes nothing.
use mathlib.Core.Path.{sym, ap}
use native.Mathlib.Omega.{arith}
use Rattle.answers.specs.WrittenLaws.{wrote_as}
use Rattle.lines.specs.Encoding.{sent}
use Rattle.lines.specs.SaidLaws.{lettered_not, lettered_more, lettered_is, label_under}
use Rattle.lines.proofs.requests.lettered.Goals as goal

pub returns-then-label-ge-NONE : goal.returns-then-label-ge-NONE
returns-then-label-ge-NONE c =
    wrote_as (ap sent (sym (lettered_not c.args.s.now c.label-label.ensures c.rest-left.ensures c.args.kind c.if-label-ge-NONE.true)))
    c.broken.ensures

pub returns-then-left-gt0 : goal.returns-then-left-gt0
returns-then-left-gt0 c =
    wrote_as (ap sent (sym (lettered_more c.args.s.now c.label-label.ensures c.rest-left.ensures c.args.kind c.if-left-gt0.true)))
    c.broken-then-left-gt0.ensures

pub overflow_cast-label : goal.overflow_cast-label
overflow_cast-label c = omega (arith, label_under _ _ c.label-label.ensures c.if-label-ge-NONE.false)

pub returns : goal.returns
unfolding sent
returns c =
    wrote_as
    (ap sent
    (sym (lettered_is c.args.s.now c.label-label.ensures c.rest-left.ensures c.args.kind c.if-label-ge-NONE.false c.if-left-gt0.false)))
    c.put_frame.ensures
