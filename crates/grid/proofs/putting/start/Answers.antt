-- `start` makes the masks 0. The loop's invariant: those below x are. The measure is the masks left. Assumes nothing.
use Rattle.grid.proofs.PairLaws.{none_left}
use native.Mathlib.Omega.{arith}
use Rattle.grid.proofs.putting.start.Goals as goal

pub returns : goal.returns
returns c =
    let a = c.args in
    let l = c.loop-x in
    λ w ws. none_left a.n w ws l.masks (λ k h. l.invariant.cleared k (omega arith))
