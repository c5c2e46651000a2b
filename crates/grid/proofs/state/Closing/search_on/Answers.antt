-- `search_on` takes steps of the search in depth. The loop's invariant: the rows are on from where they were (`Goes`), and the depth is at most the steps
-- taken and one. Assumes nothing.
use Rattle.std.proofs.Common.{arith}
use Rattle.grid.proofs.GoesLaws.{goes_same, goes_next}
use Rattle.grid.proofs.state.Closing.search_on.Goals as goal

pub loop-step-init : goal.loop-step-init
loop-step-init c = (goes_same c.args.self.now, omega arith)

pub loop-step-preserved : goal.loop-step-preserved
loop-step-preserved c = (goes_next c.loop-step.invariant.0 c.advance-depth.ensures.goes, omega (arith, c.loop-step.invariant.1))
