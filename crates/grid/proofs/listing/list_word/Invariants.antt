-- `list_word` goes over the ones of a word. The loop's invariant: those before the next are written, and s is the place after them. Assumes nothing.
use Rattle.std.proofs.Common.{◌+◌, ◌≤◌, min}
use Rattle.k2.specs.Bits.{digit}
use Rattle.answers.specs.Listing.{Grown}
use Rattle.grid.specs.Steps.{low, columns}
use Rattle.grid.proofs.OnesLaws.{Left}
use Rattle.grid.proofs.listing.list_word.Given as goal

abbrev pub invariant-loop-k : goal.invariant-loop-k
invariant-loop-k l =
    Left l.word 64 l.k-iterator × (l.s ≤ l.t + min (low l.k-iterator.left) 64)
    × Grown l.t l.s (columns (digit l.word) l.fn.at (min (low l.k-iterator.left) 64)) l.initial.out l.out
