-- Asked with the marks and links that were read. Assumes nothing.
use Rattle.paths.specs.Questions.{by_rows}
use Rattle.query.proofs.LetterLaws.{read_known}
use Rattle.rowpairs.proofs.listing.pairs_over.Goals as goal

pub returns : goal.returns
returns c = λ r R. c.answer.ensures by_rows c.rows_work.ensures r (λ b S. read_known R b S)
