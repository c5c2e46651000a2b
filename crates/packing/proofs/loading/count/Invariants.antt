-- `count` sums the ones word by word. The loop's invariant is `CountLaws` `Counting`. Assumes nothing.
use Rattle.packing.proofs.CountLaws.{Counting}
use Rattle.packing.proofs.loading.count.Given as goal

abbrev pub invariant-loop-i : goal.invariant-loop-i
invariant-loop-i g l = Counting g.row.BLOCK l.tree l.initial.before l.before l.n l.i
