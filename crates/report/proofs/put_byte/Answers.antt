-- `wrote_byte` says it.
use Rattle.answers.specs.WrittenLaws.{wrote_byte}
use Rattle.report.proofs.put_byte.Goals as goal

pub returns : goal.returns
returns c = wrote_byte c.args.at c.args.b c.args.out.now c.requires
