-- each arm prints its own text. Assumes nothing.
use Rattle.session.specs.Listing.{total_said}
use Rattle.session.proofs.turns.put_total.Goals as goal

pub returns-in-Count : goal.returns-in-Count
unfolding total_said
returns-in-Count c = rw c.in-Count.is c.put_total.ensures

pub returns-in-Refused : goal.returns-in-Refused
unfolding total_said
returns-in-Refused c = rw c.in-Refused.is c.put_refused.ensures
