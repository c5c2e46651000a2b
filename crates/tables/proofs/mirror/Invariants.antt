-- The entries of the letters below c are turned round, and c is even. The measure is what is left of the letters.
use Rattle.std.proofs.Common.{◌≡◌, ◌-◌, ◌%◌, ◌≤◌, length}
use Rattle.tables.specs.Rows.{Turned}
use Rattle.tables.proofs.mirror.Given as goal

abbrev pub invariant-loop-c : goal.invariant-loop-c
invariant-loop-c l =
    record { inside : l.c ≤ 64; even : l.c % 2 ≡ 0; enter_long : length l.enter ≡ 64; turned : Turned l.initial.enter l.own l.c l.enter }

abbrev pub decreases-loop-c : goal.decreases-loop-c
decreases-loop-c l = 64 - l.c
