-- no frame, one that is cut, or a whole one, by the law for each. Assumes nothing.
use mathlib.Core.Path.{ap, ◌∙◌}
use Prim.Native.Nat.{ℕ, ◌+◌}
use native.Mathlib.Omega.{arith}
use Rattle.session.specs.StepLaws.{following_most, whole_unframed, whole_cut, whole_is}
use Prim.Native.Nat.{ℕ}
use Rattle.session.proofs.front.Goals as goal

pub returns-then-n-eq0 : goal.returns-then-n-eq0
returns-then-n-eq0 c = whole_unframed c.args.input.now (omega (arith, c.following-n.ensures))

pub overflow_add-n : goal.overflow_add-n
overflow_add-n c = omega (arith, c.following-n.ensures, following_most c.args.input.now)

pub returns-then-input-n : goal.returns-then-input-n
returns-then-input-n c =
    let e = c.following-n.ensures in
    whole_cut c.args.input.now (omega (arith, e)) (omega (arith, e))

pub returns : goal.returns
returns c =
    let e = c.following-n.ensures in
    ap (λ (n : ℕ). n + 2) e ∙ whole_is c.args.input.now (omega (arith, e)) (omega (arith, e))
