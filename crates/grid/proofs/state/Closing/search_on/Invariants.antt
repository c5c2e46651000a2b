-- `search_on` takes steps of the search in depth. The loop's invariant: the rows are on from where they were (`Goes`), and the depth is at most the steps
-- taken and one. Assumes nothing.
use Rattle.std.proofs.Common.{◌+◌, ◌≤◌}
use Rattle.grid.specs.Closings.{Goes}
use Rattle.grid.proofs.state.Closing.search_on.Given as goal

abbrev pub invariant-loop-step : goal.invariant-loop-step
invariant-loop-step l = Goes l.initial.self l.self × (l.depth ≤ l.step + 1)
