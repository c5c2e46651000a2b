-- (`alone_more`, `alone_is`). Assumes nothing.
use mathlib.Core.Path.{sym, ap}
use Rattle.answers.specs.WrittenLaws.{wrote_as}
use Rattle.lines.specs.SaidLaws.{alone_more, alone_is}
use Rattle.lines.specs.Encoding.{sent}
use Rattle.lines.proofs.requests.alone.Goals as goal

pub returns-then-s-gt0 : goal.returns-then-s-gt0
returns-then-s-gt0 c = wrote_as (ap sent (sym (alone_more c.args.kind c.args.s.now c.if-s-gt0.true))) c.broken.ensures

pub returns : goal.returns
unfolding sent
returns c = wrote_as (ap sent (sym (alone_is c.args.kind c.args.s.now c.if-s-gt0.false))) c.put_frame.ensures
