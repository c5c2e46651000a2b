-- `figures` takes one figure off at a time. The loop's invariant: those counted and those of the rest are one more than those of the number. The
-- measure is the rest. It rests on `length_decimal_more`. Assumes nothing.
use mathlib.Core.Path.{◌≡◌}
use Prim.Native.Nat.{◌+◌}
use lib.ListN.{length}
use Rattle.report.specs.Report.{decimal}
use Rattle.pages.proofs.printing.figures.Given as goal

abbrev pub invariant-loop-rest : goal.invariant-loop-rest
invariant-loop-rest l = l.count + length (decimal l.rest) ≡ length (decimal l.k) + 1

abbrev pub decreases-loop-rest : goal.decreases-loop-rest
decreases-loop-rest l = l.rest
