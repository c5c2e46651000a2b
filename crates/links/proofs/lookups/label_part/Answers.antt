-- `links::lookups::label_part` meets its contract: the words of a label stand between the place of its first word and that of
-- the next label's. Assumes nothing.
use Rattle.book.proofs.ListLaws.{rest_whole}
use Rattle.links.proofs.LookupLaws.{label-part}
use Rattle.links.proofs.lookups.label_part.Goals as goal

pub returns : goal.returns
returns c =
    let ws = c.args.words.now in
    let i = c.lower_bound-from in
    let k = c.lower_bound-count in
    label-part ws _ c.args.label i.result k.result (rest_whole ws i.result) i.ensures k.ensures
