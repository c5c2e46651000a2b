-- `lead_on` merges row z into row x, unless they are one. Assumes nothing.
use Rattle.std.proofs.Common.{ℕ, ◌*◌, subst}
use Rattle.grid.specs.Grid.{first_rows}
use Rattle.grid.specs.Steps.{Merged}
use Rattle.grid.proofs.SearchLaws.{merged_self}
use Rattle.grid.proofs.closing.lead_on.Goals as goal

pub returns-then-x-z : goal.returns-then-x-z
returns-then-x-z c =
    let a = c.args in
    subst (λ (k : ℕ). Merged a.w a.x (a.x * a.w) (first_rows a.w a.cells.now a.masks.now k)
    a.cells.now a.masks.now a.cells.now a.masks.now)
    c.if-x-z.true (merged_self a.w a.x a.cells.now a.masks.now)
