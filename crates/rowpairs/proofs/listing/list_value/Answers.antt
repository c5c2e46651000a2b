-- The links of a letter alone, or the value that `leave_value` leaves. Assumes nothing.
use Rattle.rowpairs.proofs.AnswerLaws.{listed_value, alone_listed}
use Rattle.rowpairs.proofs.listing.list_value.Goals as goal

pub returns-then-label-lt-LABELS : goal.returns-then-label-lt-LABELS
returns-then-label-lt-LABELS c =
    let a = c.args in
    alone_listed a.n _ a.links.now a.marks.now a.code.now _ _ _
    (c.letter_alone-label.ensures c.if-label-lt-LABELS.true) c.requires.2 c.list_letter.ensures

pub returns : goal.returns
returns c =
    let a = c.args in
    let v = c.leave_value in
    let t = c.list in
    listed_value a.n _ a.links.now a.marks.now a.code.now v.new.work v.new.left
    c.row_width.ensures c.requires.0.small v.ensures _ _ _ t.ensures.0 t.ensures.1
