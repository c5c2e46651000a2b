use Prim.Native.Nat.{◌≤◌}
use lib.ListN.{length, take}
use Rattle.register.specs.Inner.{register_of, AsLong, Reached}
use Rattle.register.proofs.Register.apply_all.Given as goal

-- the first i words were accepted, and led from the register as it was lent to the one that counters and arrays are
abbrev pub invariant-loop-i : goal.invariant-loop-i
invariant-loop-i l = record {
  inside : l.i ≤ length l.calls;
  long : AsLong l.links l.marks l.ring l.totals;
  reached : Reached l.self (take l.i l.calls) (register_of l.counters l.links l.marks l.ring l.totals);
}
