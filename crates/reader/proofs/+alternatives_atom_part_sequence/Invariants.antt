-- The measure of a call: four for each byte left, and the reader's rank, so that a call at the same place is of a lower rank.
-- The loops' invariant is `Looped`; their measure is the bytes left.
use Rattle.std.proofs.Common.{◌+◌, ◌-◌, ◌*◌, length}
use Rattle.reader.specs.Progress.{of_alternatives, of_parts, bytes_left}
use Rattle.reader.proofs.JoinLaws.{Looped}
use Rattle.reader.proofs.+alternatives_atom_part_sequence.Given as goal

abbrev pub decreases-alternatives : goal.decreases-alternatives
decreases-alternatives l = 4 * (length l.s.now - l.at) + 4

abbrev pub decreases-sequence : goal.decreases-sequence
decreases-sequence l = 4 * (length l.s.now - l.at) + 3

abbrev pub decreases-part : goal.decreases-part
decreases-part l = 4 * (length l.s.now - l.at) + 2

abbrev pub decreases-atom : goal.decreases-atom
decreases-atom l = 4 * (length l.s.now - l.at) + 1

abbrev pub invariant-alternatives-loop-q : goal.invariant-alternatives-loop-q
invariant-alternatives-loop-q l = Looped of_alternatives l.s l.fn.at l.fn.n l.initial.first l.initial.code l.first l.code

abbrev pub decreases-alternatives-loop-q : goal.decreases-alternatives-loop-q
decreases-alternatives-loop-q l = bytes_left l.s l.first

abbrev pub invariant-sequence-loop-q : goal.invariant-sequence-loop-q
invariant-sequence-loop-q l = Looped of_parts l.s l.fn.at l.fn.n l.initial.first l.initial.code l.first l.code

abbrev pub decreases-sequence-loop-q : goal.decreases-sequence-loop-q
decreases-sequence-loop-q l = bytes_left l.s l.first
