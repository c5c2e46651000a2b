-- `session::run` meets its contract. The loop's invariant: any run on from here is a run from the start (`Leads`), what was read and printed is within
-- input and out, and the lengths are as they were. The measure is what is left of the input. Assumes nothing.
use mathlib.Core.Path.{◌≡◌}
use Prim.Native.Nat.{◌-◌, ◌≤◌}
use lib.ListN.{length}
use Rattle.session.specs.RunsLaws.{Leads}
use Rattle.session.proofs.run.Given as goal

abbrev pub invariant-loop-ran : goal.invariant-loop-ran
invariant-loop-ran l = record {
  leads : Leads (length l.initial.work) l.initial.state l.input l.initial.list l.initial.out l.state l.list l.out l.read l.written;
  inside : l.read ≤ length l.input;
  within : l.written ≤ length l.out;
  same_work : length l.work ≡ length l.initial.work;
  same_list : length l.list ≡ length l.initial.list;
  same_out : length l.out ≡ length l.initial.out;
}

abbrev pub decreases-loop-ran : goal.decreases-loop-ran
decreases-loop-ran l = length l.input - l.read
