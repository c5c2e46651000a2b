-- `each_word` makes the words in turn. The loop's invariant: those before i are made, those from i on are as at the start. Assumes nothing.
use mathlib.Core.Path.{◌≡◌}
use Prim.Native.Nat.{ℕ, ◌≤◌, ◌<◌}
use lib.ListN.{get_or}
use Rattle.rows.proofs.each_word.Given as goal

abbrev pub invariant-loop-i : goal.invariant-loop-i
invariant-loop-i g l = record {
  done : (j : ℕ) → j < l.i → goal.F-post g l.made (get_or l.fn.a j 0) (get_or l.b j 0) (get_or l.a j 0);
  rest : (j : ℕ) → l.i ≤ j → get_or l.a j 0 ≡ get_or l.fn.a j 0;
}
