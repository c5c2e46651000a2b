-- A reading's code is within its array, by what `read_at` ensures. Assumes nothing.
use Rattle.reader.specs.ReadsLaws.{reads_accepted}
use Rattle.test_reading.proofs.parts.Goals as goal

pub write_answer-requires : goal.write_answer-requires
write_answer-requires c = λ n is. (reads_accepted c.read_at.ensures is).1.fits

pub write_answer-requires-2 : goal.write_answer-requires-2
write_answer-requires-2 c = λ n is. (reads_accepted c.read_at-2.ensures is).1.fits
