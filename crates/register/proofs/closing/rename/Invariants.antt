use mathlib.Core.Path.{◌≡◌}
use mathlib.Core.List.{map, ◌++◌}
use Prim.Native.Nat.{◌≤◌}
use lib.ListN.{take, drop}
use Rattle.register.specs.Closing.{new_of, renamed_word}
use Rattle.register.proofs.closing.rename.Given as goal

-- the first i words are renamed, and then they are as they were
abbrev pub invariant-loop-i : goal.invariant-loop-i
invariant-loop-i l = record {
  inside : l.i ≤ l.count;
  stand : l.words ≡ map (renamed_word (new_of l.ranks)) (take l.i l.fn.words) ++ drop l.i l.fn.words;
}
