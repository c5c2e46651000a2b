-- The result is the states without those that are not left and have another number (`Sifted`). The measure is what is left, from which each turn takes the
-- lowest state (LowestLaws).
use Rattle.std.proofs.Common.{◌^◌, ◌<◌}
use Rattle.search.proofs.MarkLaws.{Sifted}
use Rattle.search.proofs.walk.kept.Given as goal

abbrev pub invariant-loop-left : goal.invariant-loop-left
invariant-loop-left l = (l.left < 2 ^ 64) × Sifted l.work l.at l.states l.distance l.left l.found

abbrev pub decreases-loop-left : goal.decreases-loop-left
decreases-loop-left l = l.left
