-- What the passes that are left make of the distances is what all of them make of the first ones (`passes_again`). Assumes nothing.
use Rattle.std.proofs.Common.{arith, ◌≡◌, ◌-◌, ◌∙◌, sym, ap, ℕ, suc}
use Rattle.offsets.specs.Relax.{settled, left_after}
use Rattle.offsets.proofs.TurnLaws.{passes_again}
use Rattle.offsets.proofs.settle.Goals as goal

pub loop-left-preserved : goal.loop-left-preserved
loop-left-preserved c =
    let l = c.loop-left in
    let e : l.left ≡ suc (l.left - 1) = omega arith in
    ap (λ (j : ℕ). settled c.args.n j c.args.ties.now (c.pass-on.new.d, c.pass-on.result)) (c.left_after-left.ensures ∙ ap (left_after c.pass-on.result) e)
    ∙ passes_again c.args.n c.args.ties.now (l.left - 1) l.d c.pass-on.new.d l.on c.pass-on.result c.pass-on.ensures
    ∙ ap (λ (j : ℕ). settled c.args.n j c.args.ties.now (l.d, l.on)) (sym e) ∙ l.invariant

pub returns : goal.returns
unfolding settled
returns c =
    let l = c.loop-left in
    let z : 0 ≡ l.left = omega arith in
    ap (λ (j : ℕ). settled c.args.n j c.args.ties.now (l.d, l.on)) z ∙ l.invariant
