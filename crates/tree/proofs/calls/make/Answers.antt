-- `make` hands over the first cause, or has the tree made at the front of work: of nothing and the links of label 0, which the pairs are. Assumes nothing.
use mathlib.Core.Path.{refl, ap, ◌∙◌}
use mathlib.Core.List.{[]}
use native.Mathlib.Omega.{arith}
use lib.ListN.{length}
use Rattle.k2.specs.PairSets.{set_of, PairsBelow}
use Rattle.k2.specs.Trees.{tree_words}
use Rattle.rows.specs.RowSets.{no_pairs}
use Rattle.rows.specs.RowLaws.{none_set, none_tree, union_none, pair_links, crossed_pairs}
use Rattle.packing.specs.declared.loading.Sense.TheVariants.{Plain}
use Rattle.tree.specs.declared.operations.Operand.{Operand}
use Rattle.tree.specs.declared.operations.Operation.TheVariants.{Union}
use Rattle.tree.specs.declared.operations.Term.{Term}
use Rattle.tree.specs.Inner.{LinksBelow}
use Rattle.tree.specs.CallLaws.{none_more}
use Rattle.tree.proofs.AnswerLaws.{as_good, refuse, accept, met}
use Rattle.tree.proofs.OperationLaws.{one_lent, one_set}
use Rattle.tree.proofs.calls.make.Goals as goal

pub returns-then-cause-ne0 : goal.returns-then-cause-ne0
returns-then-cause-ne0 c =
    let a = c.args in
    refuse a.n a.pairs.now [] (length a.work.now) (tree_words a.n (set_of a.pairs.now)) a.out.now a.out.now _
    (c.refusal-cause.ensures ∙ as_good a.n a.pairs.now _ _ (length a.work.now) (none_more a.n)) c.if-cause-ne0.true refl

pub made-len-requires : goal.made-len-requires
made-len-requires c =
    let a = c.args in
    let m = met a.n (length a.work.now) a.pairs.now [] [] c.refusal-cause.ensures c.if-cause-ne0.false in
    let f = ap (λ (o : Operand). o.size) c.no_operand.ensures in
    record { size = m.1; first = omega (arith, f); second = omega arith; work = omega (arith, m.4) }

pub returns : goal.returns
returns c =
    let a = c.args in
    let m = met a.n (length a.work.now) a.pairs.now [] [] c.refusal-cause.ensures c.if-cause-ne0.false in
    let ps = a.pairs.now in
    let e = c.no_operand.ensures in
    let b : PairsBelow 1024 ps = λ w i. (omega (arith, (m.2 w i).0, m.1), omega arith) in
    let i : LinksBelow a.n ps = rw (pair_links ps b) m.2 in
    let t : Term =
    record { operation = Union; first = c.no_operand.result; second = record { size = 0; sense = Plain; forward = 1; against = 0 } } in
    let l = one_lent t a.n ps _ no_pairs e (none_set a.n) (none_tree a.n) i in
    let y = one_set t a.n ps [] no_pairs (set_of ps) e (union_none _ ∙ crossed_pairs ps b) ∙ ap (tree_words a.n) (union_none (set_of ps)) in
    accept a.n ps [] (length a.work.now) (tree_words a.n (set_of ps)) a.out.now _
    (c.refusal-cause.ensures ∙ as_good a.n ps _ _ (length a.work.now) (none_more a.n))
    c.if-cause-ne0.false
    _ ((c.made-len.ensures.1 no_pairs no_pairs l).words ∙ y) c.settle.ensures
