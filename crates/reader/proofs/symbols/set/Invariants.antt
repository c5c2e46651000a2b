-- What is left to read is what the descent has left, after the members read so far, whose labels the two sets have (Setting).
-- The measure is what is left of the text.
use Rattle.std.proofs.Common.{◌-◌, length}
use Rattle.reader.proofs.SymbolLaws.{Setting}
use Rattle.reader.proofs.symbols.set.Given as goal

abbrev pub invariant-loop-q : goal.invariant-loop-q
invariant-loop-q l = Setting l.s l.fn.at l.before

abbrev pub decreases-loop-q : goal.decreases-loop-q
decreases-loop-q l = length l.s - l.before.at
