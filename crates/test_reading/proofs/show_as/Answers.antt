-- A reading's code is within its array, by what `read` ensures. Assumes nothing.
use Rattle.reader.specs.ReadsLaws.{reads_accepted}
use Rattle.test_reading.proofs.show_as.Goals as goal

pub write_answer-requires : goal.write_answer-requires
write_answer-requires c = λ n is. (reads_accepted c.read.ensures is).1.fits
