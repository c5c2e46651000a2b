-- What stands from the place on is moved up, and x is stored there (`put_shift`). Assumes nothing.
use Rattle.std.proofs.Common.{arith}
use Rattle.links.proofs.ShiftLaws.{put_shift}
use Rattle.links.proofs.sorted.put.Goals as goal

pub returns : goal.returns
returns c =
    let s = c.args in
    rw c.copy_within.ensures.after (put_shift s.a.now s.count s.at s.x (omega arith) (omega arith))
