-- `pairs_below` looks at each pair. The loop's invariant: the ends of the pairs passed are below n. The measure is the pairs left. Assumes
-- nothing.
use mathlib.Core.Path.{◌≡◌, refl}
use native.Mathlib.Omega.{arith}
use lib.ListN.{length}
use Rattle.tree.proofs.CopyLaws.{below_all, below_at, false_absurd}
use Rattle.tree.proofs.calls.pairs_below.Goals as goal

pub returns-then-n-p : goal.returns-then-n-p
returns-then-n-p c =
    let a = c.args in
    let i = c.loop-i.i in
    (λ e. false_absurd e, λ b. absurd (omega (arith, (below_at a.n a.pairs.now b i (omega arith)).0)))

pub returns-then-n-p-2 : goal.returns-then-n-p-2
returns-then-n-p-2 c =
    let a = c.args in
    let i = c.loop-i.i in
    (λ e. false_absurd e, λ b. absurd (omega (arith, (below_at a.n a.pairs.now b i (omega arith)).1)))

pub returns : goal.returns
returns c =
    let a = c.args in
    let l = c.loop-i in
    let e : l.i ≡ length a.pairs.now = omega arith in
    (λ t. below_all a.n a.pairs.now (rw e at l.invariant.1), λ b. refl)
