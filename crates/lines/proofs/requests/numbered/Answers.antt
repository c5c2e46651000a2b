-- case by case (`numbered_not`, `numbered_more`, `numbered_is`). Assumes nothing.
use mathlib.Core.Path.{sym, ap}
use Rattle.answers.specs.WrittenLaws.{wrote_as}
use Rattle.lines.specs.Encoding.{sent}
use Rattle.lines.specs.SaidLaws.{numbered_not, numbered_more, numbered_is}
use Rattle.lines.proofs.requests.numbered.Goals as goal

pub returns-then-n-ge-NONE : goal.returns-then-n-ge-NONE
returns-then-n-ge-NONE c =
    wrote_as (ap sent (sym (numbered_not c.args.s.now c.number-n.ensures c.rest-left.ensures c.args.kind c.if-n-ge-NONE.true)))
    c.broken.ensures

pub returns-then-left-gt0 : goal.returns-then-left-gt0
returns-then-left-gt0 c =
    wrote_as (ap sent (sym (numbered_more c.args.s.now c.number-n.ensures c.rest-left.ensures c.args.kind c.if-left-gt0.true)))
    c.broken-then-left-gt0.ensures

pub returns : goal.returns
unfolding sent
returns c =
    wrote_as
    (ap sent (sym (numbered_is c.args.s.now c.number-n.ensures c.rest-left.ensures c.args.kind c.if-n-ge-NONE.false c.if-left-gt0.false)))
    c.put_number.ensures
