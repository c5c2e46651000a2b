-- `binary` hands over the first cause, or copies the trees to the front of work, one behind the other, and has the operation done there. Assumes
-- nothing.
use mathlib.Core.Path.{◌≡◌, refl, ap, ◌∙◌}
use mathlib.Core.List.{[], ◌∷◌}
use native.Mathlib.Omega.{arith}
use lib.ListN.{length}
use Rattle.bits.specs.BitSets.{none}
use Rattle.packing.specs.Senses.{sensed}
use Rattle.tree.specs.declared.operations.Operand.{Operand}
use Rattle.tree.specs.declared.operations.Term.{Term}
use Rattle.tree.specs.Inner.{outcome}
use Rattle.tree.specs.Calls.{tree_of_two}
use Rattle.tree.proofs.AnswerLaws.{refuse, accept, met, formed_most}
use Rattle.tree.proofs.CopyLaws.{copied_two}
use Rattle.tree.proofs.OperationLaws.{two_lent, two_set}
use Rattle.tree.proofs.calls.binary.Goals as goal

pub returns-then-cause-ne0 : goal.returns-then-cause-ne0
returns-then-cause-ne0 c =
    let a = c.args in
    refuse a.n [] (a.a.now ∷ a.b.now ∷ []) (length a.work.now)
    (tree_of_two (λ x y. outcome a.operation a.n none (sensed a.a_sense x) (sensed a.b_sense y)) a.n a.a.now a.b.now)
    a.out.now a.out.now _
    c.refusal-cause.ensures c.if-cause-ne0.true refl

pub copy_u64-requires : goal.copy_u64-requires
copy_u64-requires c =
    let a = c.args in
    let m = met a.n (length a.work.now) [] a.a.now a.b.now c.refusal-cause.ensures c.if-cause-ne0.false in
    omega (arith, formed_most m.3.0, m.4)

pub copy_u64-requires-2 : goal.copy_u64-requires-2
copy_u64-requires-2 c =
    let a = c.args in
    let m = met a.n (length a.work.now) [] a.a.now a.b.now c.refusal-cause.ensures c.if-cause-ne0.false in
    let k : length c.copy_u64.new.to ≡ length a.work.now = c.copy_u64.auto.to in
    omega (arith, k, formed_most m.3.0, formed_most m.3.1, m.4)

pub made-len-requires : goal.made-len-requires
made-len-requires c =
    let a = c.args in
    let m = met a.n (length a.work.now) [] a.a.now a.b.now c.refusal-cause.ensures c.if-cause-ne0.false in
    let k : length c.copy_u64.new.to ≡ length a.work.now = c.copy_u64.auto.to in
    let l : length c.copy_u64-2.new.to ≡ length c.copy_u64.new.to = c.copy_u64-2.auto.to in
    let f = ap (λ (o : Operand). o.size) c.tree_of.ensures in
    let s = ap (λ (o : Operand). o.size) c.tree_of-2.ensures in
    record { size = m.1; first = omega (arith, f, formed_most m.3.0); second = omega (arith, s, formed_most m.3.1); work = omega (arith, k, l, m.4) }

pub returns : goal.returns
returns c =
    let a = c.args in
    let m = met a.n (length a.work.now) [] a.a.now a.b.now c.refusal-cause.ensures c.if-cause-ne0.false in
    let v = m.3.0 in
    let w = m.3.1 in
    let p = c.tree_of.ensures in
    let q = c.tree_of-2.ensures in
    let t : Term = record { operation = a.operation; first = c.tree_of.result; second = c.tree_of-2.result } in
    let two = copied_two a.a.now a.b.now a.work.now _ _ c.copy_u64.ensures.contents c.copy_u64-2.ensures.contents in
    let l = two_lent t a.n [] _ a.a.now a.b.now (ap (λ (o : Operand). o.size) p) (ap (λ (o : Operand). o.size) q) two v w m.2 in
    accept a.n [] (a.a.now ∷ a.b.now ∷ []) (length a.work.now)
    (tree_of_two (λ x y. outcome a.operation a.n none (sensed a.a_sense x) (sensed a.b_sense y)) a.n a.a.now a.b.now) a.out.now _
    c.refusal-cause.ensures c.if-cause-ne0.false
    _ ((c.made-len.ensures.1 v.set w.set l).words ∙ two_set t a.n [] [] _ _ a.a_sense a.b_sense a.a.now a.b.now p q v w)
    c.settle.ensures
