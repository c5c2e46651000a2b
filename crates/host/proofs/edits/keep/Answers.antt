-- `host::edits::keep` tells a refusal, and otherwise stores. Assumes nothing.
use mathlib.Core.Path.{refl}
use Rattle.book.specs.Causes.{number}
use Rattle.host.specs.Inner.{lost}
use Rattle.host.proofs.edits.keep.Goals as goal

pub returns-then-not-store : goal.returns-then-not-store
unfolding number
returns-then-not-store c = let q = c.store.ensures.refused c.if-not-store.true in lost c.in-Done.is refl q.0 q.1
