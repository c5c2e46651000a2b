-- `deeper` marks what it finds, beyond the records (`onward_beyond`), or closes the row. Assumes nothing.
use Rattle.std.proofs.Common.{refl, ◌+◌, arith}
use Rattle.grid.proofs.ClosureLaws.{onward_beyond}
use Rattle.grid.proofs.state.Closing.deeper.Goals as goal

pub returns-then-z-self-clause-goes : goal.returns-then-z-self-clause-goes
returns-then-z-self-clause-goes c =
    let s = c.args.self.now in
    let z = c.in-Some.z in
    record {
      records = refl;
      width = refl;
      cells = refl;
      masks = refl;
      onward = onward_beyond s.n s.w (1024 + z) s.marks.now _ s.cells.now s.masks.now (omega (arith, s.stacked.space.small))
          (omega (arith, s.stacked.space.small)) c.set_bit.ensures;
    }
