-- `join` takes the old word only if the mask has it. Assumes nothing.
use Rattle.grid.proofs.RowLaws.{join_in, join_new}
use Rattle.k2.specs.Bits.{digit}
use native.Mathlib.Omega.{arith}
use Rattle.grid.proofs.words.join.Goals as goal

pub returns-then-mask-c-eq1 : goal.returns-then-mask-c-eq1
unfolding digit
returns-then-mask-c-eq1 c =
    let a = c.args in
    join_in a.mask a.c a.old a.v (omega arith)

pub returns : goal.returns
unfolding digit
returns c =
    let a = c.args in
    join_new a.mask a.c a.old a.v (omega arith)
