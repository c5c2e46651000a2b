-- The bits are those of the records below i.
use Rattle.std.proofs.Common.{◌≡◌, ◌≤◌, length}
use Rattle.k2.specs.Bits.{bit_at}
use Rattle.query.specs.Evaluation.{used_below}
use Rattle.query.proofs.in_use.Given as goal

abbrev pub invariant-loop-i : goal.invariant-loop-i
invariant-loop-i l = (l.i ≤ l.n) × (length l.records ≡ 16) × (bit_at l.records ≡ used_below l.i l.marks)
