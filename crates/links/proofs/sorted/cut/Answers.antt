-- What stands after the place is moved down (`cut_shift`). Assumes nothing.
use Rattle.std.proofs.Common.{arith}
use Rattle.links.proofs.ShiftLaws.{cut_shift}
use Rattle.links.proofs.sorted.cut.Goals as goal

pub returns : goal.returns
returns c =
    let s = c.args in
    rw c.copy_within.ensures.after (cut_shift s.a.now s.count s.at (omega arith) (omega arith))
