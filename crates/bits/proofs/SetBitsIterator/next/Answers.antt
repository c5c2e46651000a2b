-- What is taken is the lowest bit of the word, and what is left the word without it (`lowest_taken`). Assumes nothing.
use native.Mathlib.Omega.{arith}
use Rattle.bits.specs.ScanLaws.{lowest_taken}
use Rattle.bits.proofs.SetBitsIterator.next.Goals as goal

pub returns-clause-steps : goal.returns-clause-steps
returns-clause-steps c = lowest_taken c.args.self.now.left (omega arith) (omega arith)
