-- each arm prints its own text, and the first words of the list are the pairs. Assumes nothing.
use mathlib.Core.Path.{ap}
use Rattle.report.specs.Report.{pairs_text, outcome_text}
use Rattle.answers.specs.WrittenLaws.{wrote_as}
use Rattle.session.specs.Listing.{listing}
use Rattle.session.proofs.turns.put_listing.Goals as goal

pub returns-in-Count : goal.returns-in-Count
unfolding outcome_text listing
returns-in-Count c =
    rw c.in-Count.is
    (wrote_as (ap (pairs_text c.in-Count.total) c.pairs_shown-count.ensures.1) c.put_pairs.ensures)

pub returns-in-Refused : goal.returns-in-Refused
unfolding outcome_text listing
returns-in-Refused c = rw c.in-Refused.is c.put_refused.ensures
