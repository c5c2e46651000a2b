-- `read_accepted`: the pages are judged, and then their pairs listed. Assumes nothing.
use native.Mathlib.Omega.{arith}
use Rattle.pages.proofs.AnswerLaws.{reads_broken, reads_short, reads_pairs}
use Rattle.pages.proofs.CheckLaws.{judged_length}
use Rattle.pages.proofs.reading.read_accepted.Goals as goal

pub returns-then-list-count : goal.returns-then-list-count
returns-then-list-count c =
    λ e v. reads_short c.args.text.now c.args.pages.now c.args.list.now e v c.in-Listing.is c.judge-judgement.ensures c.if-list-count.true

pub returns-in-Broken : goal.returns-in-Broken
returns-in-Broken c = λ e v. reads_broken c.args.text.now c.args.pages.now c.args.list.now e v c.in-Broken.is c.judge-judgement.ensures

pub list_lines-requires : goal.list_lines-requires
list_lines-requires c =
    let e = judged_length c.args.text.now c.args.pages.now c.in-Listing.is c.judge-judgement.ensures in
    (omega arith, omega (arith, e, c.if-list-count.false))

pub returns-else-list-count : goal.returns-else-list-count
returns-else-list-count c =
    λ e v. reads_pairs c.args.text.now c.args.pages.now c.args.list.now e v c.in-Listing.is c.judge-judgement.ensures c.if-list-count.false
    c.list_lines.ensures
