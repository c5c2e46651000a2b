-- `unseen` goes over the words in the mask, each read within its slice; that it ends is all that is claimed, and the bound. Assumes nothing.
use Rattle.grid.proofs.OnesLaws.{Left}
use Rattle.grid.proofs.closing.unseen.Given as goal

abbrev pub invariant-loop-c : goal.invariant-loop-c
invariant-loop-c l = Left l.mask l.w l.c-iterator
