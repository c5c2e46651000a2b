-- case by case (`linked_not_from`, `linked_not_label`, `linked_not_to`, `linked_more`, `linked_is`).
-- Assumes nothing.
use mathlib.Core.Path.{sym, ap}
use native.Mathlib.Omega.{arith}
use Rattle.answers.specs.WrittenLaws.{wrote_as}
use Rattle.lines.specs.Encoding.{sent}
use Rattle.lines.specs.SaidLaws.{label_under, LinkRead, linked_not_from, linked_not_label, linked_not_to, linked_more, linked_is}
use Rattle.lines.proofs.requests.linked.Goals as goal

pub returns-then-from-ge-NONE : goal.returns-then-from-ge-NONE
returns-then-from-ge-NONE c =
    let v : LinkRead c.args.s.now c.number-from.result c.rest-second.result.now c.label-label.result c.rest-third.result.now c.number-to.result
    c.rest-left.result.now =
    record {
      from = c.number-from.ensures;
      after_from = c.rest-second.ensures;
      label = c.label-label.ensures;
      after_label = c.rest-third.ensures;
      to = c.number-to.ensures;
      after_to = c.rest-left.ensures;
    } in
    wrote_as (ap sent (sym (linked_not_from v c.args.kind c.if-from-ge-NONE.true))) c.broken.ensures

pub returns-then-label-ge-NONE : goal.returns-then-label-ge-NONE
returns-then-label-ge-NONE c =
    let v : LinkRead c.args.s.now c.number-from.result c.rest-second.result.now c.label-label.result c.rest-third.result.now c.number-to.result
    c.rest-left.result.now =
    record {
      from = c.number-from.ensures;
      after_from = c.rest-second.ensures;
      label = c.label-label.ensures;
      after_label = c.rest-third.ensures;
      to = c.number-to.ensures;
      after_to = c.rest-left.ensures;
    } in
    wrote_as (ap sent (sym (linked_not_label v c.args.kind c.if-from-ge-NONE.false c.if-label-ge-NONE.true))) c.broken-then-label-ge-NONE.ensures

pub returns-then-to-ge-NONE : goal.returns-then-to-ge-NONE
returns-then-to-ge-NONE c =
    let v : LinkRead c.args.s.now c.number-from.result c.rest-second.result.now c.label-label.result c.rest-third.result.now c.number-to.result
    c.rest-left.result.now =
    record {
      from = c.number-from.ensures;
      after_from = c.rest-second.ensures;
      label = c.label-label.ensures;
      after_label = c.rest-third.ensures;
      to = c.number-to.ensures;
      after_to = c.rest-left.ensures;
    } in
    wrote_as (ap sent (sym
    (linked_not_to v c.args.kind c.if-from-ge-NONE.false c.if-label-ge-NONE.false c.if-to-ge-NONE.true))) c.broken-then-to-ge-NONE.ensures

pub returns-then-left-gt0 : goal.returns-then-left-gt0
returns-then-left-gt0 c =
    let v : LinkRead c.args.s.now c.number-from.result c.rest-second.result.now c.label-label.result c.rest-third.result.now c.number-to.result
    c.rest-left.result.now =
    record {
      from = c.number-from.ensures;
      after_from = c.rest-second.ensures;
      label = c.label-label.ensures;
      after_label = c.rest-third.ensures;
      to = c.number-to.ensures;
      after_to = c.rest-left.ensures;
    } in
    wrote_as (ap sent (sym
    (linked_more v c.args.kind c.if-from-ge-NONE.false c.if-label-ge-NONE.false c.if-to-ge-NONE.false c.if-left-gt0.true))) c.broken-then-left-gt0.ensures

pub overflow_cast-label : goal.overflow_cast-label
overflow_cast-label c = omega (arith, label_under _ _ c.label-label.ensures c.if-label-ge-NONE.false)

pub returns : goal.returns
unfolding sent
returns c =
    let v : LinkRead c.args.s.now c.number-from.result c.rest-second.result.now c.label-label.result c.rest-third.result.now c.number-to.result
    c.rest-left.result.now =
    record {
      from = c.number-from.ensures;
      after_from = c.rest-second.ensures;
      label = c.label-label.ensures;
      after_label = c.rest-third.ensures;
      to = c.number-to.ensures;
      after_to = c.rest-left.ensures;
    } in
    wrote_as (ap sent (sym
    (linked_is v c.args.kind c.if-from-ge-NONE.false c.if-label-ge-NONE.false c.if-to-ge-NONE.false c.if-left-gt0.false))) c.put_link.ensures
