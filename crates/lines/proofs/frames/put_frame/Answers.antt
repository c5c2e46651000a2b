-- four bytes in front and the two parts of the body, one after the other (`frame_parts`). Assumes nothing.
use native.Mathlib.Omega.{arith}
use Rattle.answers.specs.WrittenLaws.{wrote_as, wrote_then}
use Rattle.lines.specs.EncodingLaws.{frame_parts}
use Rattle.lines.proofs.frames.put_frame.Goals as goal

pub returns : goal.returns
returns c =
    let a = c.args in
    wrote_as (frame_parts a.kind a.head.now a.text.now (omega arith))
    (wrote_then (wrote_then c.put_text-body.ensures c.put_text-rest.ensures) c.put_text.ensures)
