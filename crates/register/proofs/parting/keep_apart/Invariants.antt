use Prim.Native.Nat.{◌≤◌}
use lib.ListN.{take}
use Rattle.register.proofs.WithoutLaws.{Keeping}
use Rattle.register.proofs.parting.keep_apart.Given as goal

-- of the first i words those that stand apart are at the front, the words ahead are as they were, and the totals are those of both
abbrev pub invariant-loop-i : goal.invariant-loop-i
invariant-loop-i l = record {
  inside : l.i ≤ l.count;
  few : l.kept ≤ l.i;
  stand : Keeping l.«record» (take l.count l.fn.words) l.fn.totals l.left l.words l.kept l.i;
}
