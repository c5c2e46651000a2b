-- the bytes of its numbers are those of the definition. Assumes nothing.
use Rattle.session.specs.Program.{two_bytes}
use Rattle.lines.proofs.frames.put_link.Goals as goal

pub returns : goal.returns
unfolding two_bytes
returns c = c.put_frame.ensures
