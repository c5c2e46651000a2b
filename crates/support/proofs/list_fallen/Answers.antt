-- `list_fallen` refuses a list that is shorter than the records found, and writes them over its front else. Assumes nothing.
use native.Mathlib.Omega.{arith}
use Rattle.support.proofs.AnswerLaws.{handed_short, handed_whole}
use Rattle.support.proofs.list_fallen.Goals as goal

pub returns-then-list-count : goal.returns-then-list-count
returns-then-list-count c =
    let f = c.fallen-found in
    handed_short f.result.words f.result.count (omega (arith, f.ensures.0, f.ensures.1)) f.ensures.2 c.if-list-count.true

pub returns : goal.returns
returns c =
    let f = c.fallen-found in
    handed_whole f.result.words f.result.count (omega (arith, f.ensures.0, f.ensures.1)) f.ensures.2 c.if-list-count.false c.copy_u32.ensures
