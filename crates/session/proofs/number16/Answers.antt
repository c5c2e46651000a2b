-- the low byte and 256 times the high one; past the end both are 0. Assumes nothing.
use Prim.Native.Nat.{◌+◌}
use native.Mathlib.Omega.{arith}
use lib.ListN.{get_or-eq_default}
use Rattle.session.specs.Program.{number16}
use Rattle.session.proofs.number16.Goals as goal

pub returns-then-s-p : goal.returns-then-s-p
unfolding number16
returns-then-s-p c =
    let p = c.args.p in
    rw (
      get_or-eq_default c.args.s.now 0 {n = p} (omega arith),
      get_or-eq_default c.args.s.now 0 {n = p + 1} (omega arith),
    )

pub returns : goal.returns
unfolding number16
returns c = rw (← c.byte_at.ensures.0, ← c.byte_at-2.ensures.0)
