-- `close_from` marks x as seen, beyond the records (`onward_beyond`), and searches on from it. Assumes nothing.
use Rattle.std.proofs.Common.{refl, ◌+◌, arith}
use Rattle.grid.proofs.ClosureLaws.{onward_beyond}
use Rattle.grid.proofs.GoesLaws.{goes_next}
use Rattle.grid.proofs.state.Closing.close_from.Goals as goal

pub returns : goal.returns
returns c =
    let s = c.args.self.now in
    let x = c.args.x in
    goes_next (record {
      records = refl;
      width = refl;
      cells = refl;
      masks = refl;
      onward = onward_beyond s.n s.w (1024 + x) s.marks.now _ s.cells.now s.masks.now (omega (arith, s.stacked.space.small))
          (omega (arith, s.stacked.space.small)) c.set_bit.ensures;
    }) c.search_on.ensures
