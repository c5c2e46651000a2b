-- Past the end nothing is left.
use Rattle.std.proofs.Common.{arith, drop_of_length-le}
use Rattle.reader.proofs.AnswerLaws.{refuses_outside, empty_text}
use Rattle.reader.proofs.read_at.Goals as goal

pub returns-else-at-src : goal.returns-else-at-src
returns-else-at-src c =
    refuses_outside (empty_text (drop_of_length-le c.args.src.now {i = c.args.at} (omega (arith, c.if-at-src.false)))) c.refused.ensures
