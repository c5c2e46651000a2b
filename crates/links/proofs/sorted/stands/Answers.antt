-- `stands` is its test. Assumes nothing.
use borrow.Author.Tests.{le-ltb, lt-ltb}
use Rattle.links.specs.Ascending.{stands_at}
use Rattle.links.proofs.sorted.stands.Goals as goal

pub returns-then-at-count : goal.returns-then-at-count
unfolding stands_at
returns-then-at-count c = rw (lt-ltb _ _ c.if-at-count.true)

pub returns-else-at-count : goal.returns-else-at-count
unfolding stands_at
returns-else-at-count c = rw (le-ltb _ _ c.if-at-count.false)
