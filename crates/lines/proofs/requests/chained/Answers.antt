-- case by case (`chained_not_from`, `chained_not_to`, `chained_is`). Assumes nothing.
use mathlib.Core.Path.{sym, ap}
use native.Mathlib.Omega.{arith}
use lib.ListN.{length}
use Rattle.answers.specs.WrittenLaws.{wrote_as}
use Rattle.lines.specs.TypedLaws.{length_text}
use Rattle.lines.specs.Encoding.{sent}
use Rattle.lines.specs.SaidLaws.{EndsRead, chained_not_from, chained_not_to, chained_is}
use Rattle.lines.proofs.requests.chained.Goals as goal

pub returns-then-from-ge-NONE : goal.returns-then-from-ge-NONE
returns-then-from-ge-NONE c =
    let v : EndsRead c.args.s.now c.number-from.result c.rest-second.result.now c.number-to.result c.rest.result.now c.text-text.result.now =
    record {
      from = c.number-from.ensures;
      after_from = c.rest-second.ensures;
      to = c.number-to.ensures;
      after_to = c.rest.ensures;
      expression = c.text-text.ensures;
    } in
    wrote_as (ap sent (sym (chained_not_from v c.args.kind c.if-from-ge-NONE.true))) c.broken.ensures

pub returns-then-to-ge-NONE : goal.returns-then-to-ge-NONE
returns-then-to-ge-NONE c =
    let v : EndsRead c.args.s.now c.number-from.result c.rest-second.result.now c.number-to.result c.rest.result.now c.text-text.result.now =
    record {
      from = c.number-from.ensures;
      after_from = c.rest-second.ensures;
      to = c.number-to.ensures;
      after_to = c.rest.ensures;
      expression = c.text-text.ensures;
    } in
    wrote_as (ap sent (sym (chained_not_to v c.args.kind c.if-from-ge-NONE.false c.if-to-ge-NONE.true))) c.broken-then-to-ge-NONE.ensures

pub put_ends-requires-clause-text_len_bound : goal.put_ends-requires-clause-text_len_bound
put_ends-requires-clause-text_len_bound c = omega (arith, ap length c.text-text.ensures, length_text c.rest.result.now)

pub returns : goal.returns
unfolding sent
returns c =
    let v : EndsRead c.args.s.now c.number-from.result c.rest-second.result.now c.number-to.result c.rest.result.now c.text-text.result.now =
    record {
      from = c.number-from.ensures;
      after_from = c.rest-second.ensures;
      to = c.number-to.ensures;
      after_to = c.rest.ensures;
      expression = c.text-text.ensures;
    } in
    wrote_as (ap sent (sym (chained_is v c.args.kind c.if-from-ge-NONE.false c.if-to-ge-NONE.false))) c.put_ends.ensures
