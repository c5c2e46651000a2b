-- `unary` hands over the first cause, or copies the tree to the front of work and has the operation done there on nothing and it. Assumes nothing.
use mathlib.Core.Path.{◌≡◌, refl, sym, ap, ◌∙◌}
use mathlib.Core.List.{[], ◌∷◌}
use native.Mathlib.Omega.{arith}
use lib.ListN.{length}
use Rattle.k2.specs.PairSets.{Cells}
use Rattle.k2.specs.Trees.{tree_words}
use Rattle.k2.specs.TreeSets.{set_in}
use Rattle.k2.specs.TreeSetLaws.{formed_set}
use Rattle.bits.specs.BitSets.{none}
use Rattle.rows.specs.RowSets.{no_pairs}
use Rattle.packing.specs.Senses.{sensed}
use Rattle.tree.specs.declared.operations.Operand.{Operand}
use Rattle.tree.specs.declared.operations.Term.{Term}
use Rattle.tree.specs.Inner.{valued, outcome}
use Rattle.tree.specs.InnerLaws.{valued_alone}
use Rattle.tree.specs.CallLaws.{one_more}
use Rattle.tree.proofs.AnswerLaws.{as_good, refuse, accept, met, formed_most}
use Rattle.tree.proofs.CopyLaws.{copied_one}
use Rattle.tree.proofs.OperationLaws.{one_lent, one_set}
use Rattle.tree.proofs.calls.unary.Goals as goal

pub returns-then-cause-ne0 : goal.returns-then-cause-ne0
returns-then-cause-ne0 c =
    let a = c.args in
    refuse a.n [] (a.a.now ∷ []) (length a.work.now)
    (tree_words a.n (outcome a.operation a.n none no_pairs (sensed a.sense (set_in a.n a.a.now)))) a.out.now a.out.now _
    (c.refusal-cause.ensures ∙ as_good a.n [] _ _ (length a.work.now) (one_more a.n a.a.now)) c.if-cause-ne0.true refl

pub copy_u64-requires : goal.copy_u64-requires
copy_u64-requires c =
    let a = c.args in
    let m = met a.n (length a.work.now) [] a.a.now [] c.refusal-cause.ensures c.if-cause-ne0.false in
    omega (arith, formed_most m.3.0, m.4)

pub made-len-requires : goal.made-len-requires
made-len-requires c =
    let a = c.args in
    let m = met a.n (length a.work.now) [] a.a.now [] c.refusal-cause.ensures c.if-cause-ne0.false in
    let k : length c.copy_u64.new.to ≡ length a.work.now = c.copy_u64.auto.to in
    let f = ap (λ (o : Operand). o.size) c.no_operand.ensures in
    let s = ap (λ (o : Operand). o.size) c.tree_of.ensures in
    record { size = m.1; first = omega (arith, f); second = omega (arith, s, formed_most m.3.0); work = omega (arith, k, m.4) }

pub returns : goal.returns
returns c =
    let a = c.args in
    let m = met a.n (length a.work.now) [] a.a.now [] c.refusal-cause.ensures c.if-cause-ne0.false in
    let v = m.3.0 in
    let e = c.no_operand.ensures in
    let q = c.tree_of.ensures in
    let t : Term = record { operation = a.operation; first = c.no_operand.result; second = c.tree_of.result } in
    let l = one_lent t a.n [] c.copy_u64.new.to v.set e v.is_set
    (rw q (copied_one a.a.now a.work.now _ c.copy_u64.ensures.contents ∙ v.tree)) m.2 in
    let x : Cells = sensed a.sense (set_in a.n a.a.now) in
    let y : valued [] t.second v.set ≡ x =
    ap (λ (o : Operand). valued [] o v.set) q ∙ valued_alone [] (length a.a.now) a.sense v.set ∙ ap (sensed a.sense) (sym (formed_set v)) in
    accept a.n [] (a.a.now ∷ []) (length a.work.now)
    (tree_words a.n (outcome a.operation a.n none no_pairs (sensed a.sense (set_in a.n a.a.now)))) a.out.now _
    (c.refusal-cause.ensures ∙ as_good a.n [] _ _ (length a.work.now) (one_more a.n a.a.now)) c.if-cause-ne0.false
    _ ((c.made-len.ensures.1 no_pairs v.set l).words ∙ one_set t a.n [] [] v.set x e y) c.settle.ensures
