-- `list` hands over the first cause, or has the pairs written. Assumes nothing.
use mathlib.Core.Path.{refl, sym, ap, ◌∙◌}
use mathlib.Core.List.{[], ◌∷◌}
use native.Mathlib.Omega.{arith}
use lib.ListN.{length}
use Rattle.k2.specs.PairSets.{listed}
use Rattle.k2.specs.TreeSets.{set_in}
use Rattle.k2.specs.TreeSetLaws.{formed_set}
use Rattle.k2.specs.SizeLaws.{tree_unit_most}
use Rattle.tree.specs.CallLaws.{one_more}
use Rattle.tree.proofs.AnswerLaws.{as_good, refuse_list, accept_list, met, formed_most}
use Rattle.tree.proofs.calls.list.Goals as goal

pub returns-then-cause-ne0 : goal.returns-then-cause-ne0
returns-then-cause-ne0 c =
    let a = c.args in
    refuse_list a.n (a.a.now ∷ []) (length a.work.now) (listed a.n (set_in a.n a.a.now)) a.out.now a.out.now _
    (c.refusal-cause.ensures ∙ as_good a.n [] _ _ (length a.work.now) (one_more a.n a.a.now)) c.if-cause-ne0.true refl

pub list_pairs-requires : goal.list_pairs-requires
list_pairs-requires c =
    let a = c.args in
    let m = met a.n (length a.work.now) [] a.a.now [] c.refusal-cause.ensures c.if-cause-ne0.false in
    (m.1, omega (arith, formed_most m.3.0, tree_unit_most a.n m.1))

pub returns : goal.returns
returns c =
    let a = c.args in
    let m = met a.n (length a.work.now) [] a.a.now [] c.refusal-cause.ensures c.if-cause-ne0.false in
    let v = m.3.0 in
    accept_list a.n (a.a.now ∷ []) (length a.work.now) (listed a.n (set_in a.n a.a.now)) a.out.now _
    (c.refusal-cause.ensures ∙ as_good a.n [] _ _ (length a.work.now) (one_more a.n a.a.now)) c.if-cause-ne0.false
    _ (ap (listed a.n) (sym (formed_set v))) (c.list_pairs.ensures v.set v.is_set v.tree)
