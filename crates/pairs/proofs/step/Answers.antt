-- `step` goes by the item: letters, `^`, an operator. Assumes nothing.
use mathlib.Core.Path.{◌≡◌, sym, ap, ◌∙◌, subst}
use Prim.Native.Nat.{◌<◌}
use native.Mathlib.Omega.{arith}
use Rattle.reader.specs.declared.items.Item.{Item}
use Rattle.reader.specs.declared.items.Item.TheVariants.{Letters, Inverse}
use Rattle.reader.specs.Running.{operands}
use Rattle.tree.specs.declared.operations.Operand.{Operand}
use Rattle.pairs.specs.declared.Stack.{Stack}
use Rattle.pairs.specs.Evaluation.{pushed}
use Rattle.pairs.specs.Steps.{Goes}
use Rattle.pairs.proofs.StepLaws.{goes_letters, goes_inverse}
use Rattle.pairs.proofs.step.Goals as goal

pub returns-in-Letters : goal.returns-in-Letters
returns-in-Letters c =
    let a = c.args in
    let v = c.in-Letters.is in
    let o : operands a.item ≡ 0 = ap operands v in
    let r = c.requires.1.room in
    let h : a.stack.count < 19 = omega arith in
    subst (λ (y : Item). Goes a.n a.links.now a.used.now y a.work.now a.work.now a.stack c.push.result)
    (sym v)
    (subst (λ (S : Stack). Goes a.n a.links.now a.used.now (Letters c.in-Letters.forward c.in-Letters.against) a.work.now a.work.now a.stack S)
    (sym (c.push.ensures ∙ ap (λ (o : Operand). pushed o a.stack.count a.stack.end a.stack) c.letters.ensures))
    (goes_letters a.n c.in-Letters.forward c.in-Letters.against a.links.now a.used.now a.work.now a.stack c.requires.2.slots h))

pub returns-in-Inverse : goal.returns-in-Inverse
returns-in-Inverse c =
    let a = c.args in
    let v = c.in-Inverse.is in
    let o : operands a.item ≡ 1 = ap operands v in
    let f = c.requires.1.found in
    subst (λ (y : Item). Goes a.n a.links.now a.used.now y a.work.now a.work.now a.stack c.inverse.result)
    (sym v)
    (subst (λ (S : Stack). Goes a.n a.links.now a.used.now Inverse a.work.now a.work.now a.stack S) (sym c.inverse.ensures)
    (goes_inverse a.n a.links.now a.used.now a.work.now a.stack (omega arith) c.requires.1.few c.requires.2.slots))
