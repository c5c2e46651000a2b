-- `mark_records` has the relation made, and marks the records by it (`marks_refused`, `marks_made`). Assumes nothing.
use native.Mathlib.Omega.{arith}
use mathlib.Core.Path.{refl}
use Rattle.support.proofs.AnswerLaws.{marks_refused, marks_made}
use Rattle.support.proofs.mark_records.Goals as goal

pub returns-in-Refused : goal.returns-in-Refused
returns-in-Refused c = marks_refused c.relate_over-related.ensures.relating c.in-Refused.is _ refl

pub returns-in-Count : goal.returns-in-Count
returns-in-Count c =
    let r = c.relate_over-related.ensures in
    let e = c.in-Count.is in
    let z = r.size _ e in
    let j = c.joined_records.ensures in
    marks_made r.relating e _ j.0 (λ x h. j.1 x (omega (arith, h, z)))
