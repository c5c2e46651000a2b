-- `put_pair` puts a word of one bit (`pair_put`), unless the pair is not below n (`pair_outside`). Assumes nothing.
use mathlib.Core.Logic.{inl, inr}
use Prim.Native.Nat.{◌%◌}
use native.Mathlib.Omega.{arith}
use Rattle.k2.specs.DigitLaws.{one_shl}
use Rattle.grid.proofs.PairLaws.{pair_put, pair_outside}
use Rattle.grid.proofs.putting.put_pair.Goals as goal

pub returns-then-n-x : goal.returns-then-n-x
returns-then-n-x c = let a = c.args in pair_outside a.n a.x a.y _ (inl (omega arith))

pub returns-then-n-y : goal.returns-then-n-y
returns-then-n-y c = let a = c.args in pair_outside a.n a.x a.y _ (inr (omega arith))

pub returns : goal.returns
returns c =
    let after-put = c in
    let a = after-put.args in
    pair_put a.n a.w a.x a.y a.cells.now a.masks.now _ _ (omega arith) (omega arith) (omega arith)
    (rw (one_shl (a.y % 64) (omega arith)) at after-put.put.ensures)
