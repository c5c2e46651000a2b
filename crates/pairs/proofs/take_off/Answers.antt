-- `take_off` goes by the item: how many operands it takes, and with which operation (`takes_letters`, `takes_inverse`, `takes_one`, `takes_two`). Assumes
-- nothing.
use mathlib.Core.Path.{sym, subst}
use Rattle.reader.specs.declared.items.Item.{Item}
use Rattle.tree.specs.declared.operations.Operation.TheVariants.{Union, Product, Closure, Optional, Star}
use Rattle.pairs.specs.EvaluationLaws.{Unary, of_star, of_plus, of_optional, Binary, of_alternative, of_sequence}
use Rattle.pairs.proofs.StepLaws.{takes_letters, takes_inverse, takes_one, takes_two}
use Rattle.pairs.proofs.take_off.Goals as goal

pub returns-in-Letters : goal.returns-in-Letters
returns-in-Letters c =
    λ d P. rw (c.no_operand.ensures, c.letters.ensures)
    (takes_letters P c.requires.0 _ _ c.in-Letters.is)

pub returns-in-Inverse : goal.returns-in-Inverse
returns-in-Inverse c =
    λ d P. rw (c.on_one.ensures, c.inverse.ensures)
    (takes_inverse P c.requires.0 c.in-Inverse.is)

pub returns-in-Star : goal.returns-in-Star
returns-in-Star c =
    let u : Unary c.args.item Star = subst (λ (y : Item). Unary y Star) (sym c.in-Star.is) of_star in
    λ d P. rw c.on_one-in-Star.ensures (takes_one P c.requires.0 u)

pub returns-in-Plus : goal.returns-in-Plus
returns-in-Plus c =
    let u : Unary c.args.item Closure = subst (λ (y : Item). Unary y Closure) (sym c.in-Plus.is) of_plus in
    λ d P. rw c.on_one-in-Plus.ensures (takes_one P c.requires.0 u)

pub returns-in-Optional : goal.returns-in-Optional
returns-in-Optional c =
    let u : Unary c.args.item Optional = subst (λ (y : Item). Unary y Optional) (sym c.in-Optional.is) of_optional in
    λ d P. rw c.on_one-in-Optional.ensures (takes_one P c.requires.0 u)

pub returns-in-Alternative : goal.returns-in-Alternative
returns-in-Alternative c =
    let u : Binary c.args.item Union = subst (λ (y : Item). Binary y Union) (sym c.in-Alternative.is) of_alternative in
    λ d P. rw c.on_two.ensures (takes_two P c.requires.0 u)

pub returns-in-Sequence : goal.returns-in-Sequence
returns-in-Sequence c =
    let u : Binary c.args.item Product = subst (λ (y : Item). Binary y Product) (sym c.in-Sequence.is) of_sequence in
    λ d P. rw c.on_two-in-Sequence.ensures (takes_two P c.requires.0 u)
