use Prim.Native.Nat.{◌*◌, ◌≤◌}
use mathlib.Core.Path.{◌≡◌}
use mathlib.Core.List.{◌++◌}
use lib.ListN.{length, take, drop}
use Rattle.book.specs.Causes.{max_records}
use Rattle.book.specs.Book.{fresh, after, givens}
use Rattle.register.specs.Representation.{Represents}
use Rattle.register.specs.History.{word_answers, calls_of, closings, laid}
use Rattle.register.proofs.history.replay.Given as goal

-- the first i calls were made: the register is the book's, and what was told and given stands in the two lists
abbrev pub invariant-loop-i : goal.invariant-loop-i
invariant-loop-i l = record {
  inside : l.i ≤ length l.words;
  place : l.at ≡ max_records * closings (calls_of (take l.i l.words));
  book : Represents l.register (after (fresh l.n) (calls_of (take l.i l.words)));
  said : l.told ≡ word_answers (fresh l.n) (take l.i l.words) ++ drop l.i l.fn.told;
  given : l.numbers ≡ laid (givens (fresh l.n) (calls_of (take l.i l.words))) l.fn.numbers;
}
