-- `register::Register::total` meets its contract, by whether the counters are in range and then by the label; what is kept at a label is the total of
-- every book that the register represents. Assumes nothing.
use mathlib.Core.Path.{refl}
use Rattle.book.specs.Causes.{number}
use Rattle.register.proofs.StepLaws.{outside, inside}
use Rattle.register.proofs.TotalLaws.{totals_refused, totals_given}
use Rattle.register.proofs.Register.total.Goals as goal

pub returns-then-not-ranged : goal.returns-then-not-ranged
unfolding number
returns-then-not-ranged c =
    let none = outside c.args.self _ c.ranged.ensures c.if-not-ranged.true in
    record { foreign = λ _. refl; refused = λ i _. absurd (none i); given = λ i _. absurd (none i); told = λ b h. absurd (none h.ranged) }

pub returns-then-label-ge-LABELS : goal.returns-then-label-ge-LABELS
unfolding number
returns-then-label-ge-LABELS c =
    totals_refused _ _ (inside c.args.self c.ranged.result c.ranged.ensures c.if-not-ranged.false) c.if-label-ge-LABELS.true

pub returns : goal.returns
returns c =
    totals_given _ _ (inside c.args.self c.ranged.result c.ranged.ensures c.if-not-ranged.false) c.if-label-ge-LABELS.false refl
