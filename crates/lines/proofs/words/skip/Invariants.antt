-- `lines::words::skip` meets its contract. The loop's invariant: what is left without its blanks is what the whole is without its. The measure is
-- the bytes left. Assumes nothing.
use mathlib.Core.Path.{◌≡◌}
use lib.ListN.{length}
use Rattle.lines.specs.Typed.{skip}
use Rattle.lines.proofs.words.skip.Given as goal

abbrev pub invariant-loop-t : goal.invariant-loop-t
invariant-loop-t l = skip l.t ≡ skip l.s

abbrev pub decreases-loop-t : goal.decreases-loop-t
decreases-loop-t l = length l.t
