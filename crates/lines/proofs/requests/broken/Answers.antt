-- an undo with a body. Assumes nothing.
use Rattle.lines.specs.Encoding.{sent}
use Rattle.lines.proofs.requests.broken.Goals as goal

pub returns : goal.returns
unfolding sent
returns c = c.put_frame.ensures
