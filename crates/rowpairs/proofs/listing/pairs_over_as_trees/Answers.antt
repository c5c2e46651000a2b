-- Asked with the marks and links that were read. Assumes nothing.
use Rattle.paths.specs.Questions.{by_trees}
use Rattle.query.proofs.LetterLaws.{read_known}
use Rattle.rowpairs.proofs.listing.pairs_over_as_trees.Goals as goal

pub returns : goal.returns
returns c = λ r R. c.answer.ensures by_trees c.pairs_work.ensures r (λ b S. read_known R b S)
