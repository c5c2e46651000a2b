-- What a step of the closure promises.
--   Goes r s        the rows go on from r to s, with the marks (`Onward`), and s holds what was lent to r
-- Assumes nothing: this is a definition.
use Rattle.std.specs.Prelude.{◌≡◌}
use Rattle.grid.specs.Steps.{Onward}
use Rattle.grid.specs.declared.state.Closing.{Closing}

pub record Goes (r s : Closing) : Type 0 where
  pub records : s.n ≡ r.n
  pub width : s.w ≡ r.w
  pub cells : s.cells.ghost_name ≡ r.cells.ghost_name
  pub masks : s.masks.ghost_name ≡ r.masks.ghost_name
  pub onward : Onward r.n r.w r.marks.now r.cells.now r.masks.now s.marks.now s.cells.now s.masks.now
