-- `refusal` looks for the causes in their order; its tests of pairs and trees are those of the causes. Assumes nothing.
use mathlib.Core.Path.{◌≡◌, refl, sym, ◌∙◌}
use mathlib.Core.Bool.{true}
use native.Mathlib.Omega.{arith}
use borrow.Author.Tests.{lt-ltb, le-ltb}
use Rattle.book.specs.Causes.{max_records}
use Rattle.k2.specs.TreeSets.{formed}
use Rattle.tree.specs.Calls.{all_below}
use Rattle.tree.specs.CallLaws.{lent_size, lent_pairs, lent_trees, lent_work, lent_none}
use Rattle.tree.proofs.AnswerLaws.{below_test, formed_test, first_bad, second_bad, both_good}
use Rattle.tree.proofs.calls.refusal.Goals as goal

pub returns-then-n-lt1 : goal.returns-then-n-lt1
returns-then-n-lt1 c = let a = c.args in sym (lent_size a.n _ _ _ (rw (lt-ltb a.n 1 (omega arith)) refl))

pub returns-then-n-gt-MAX_RECORDS : goal.returns-then-n-gt-MAX_RECORDS
returns-then-n-gt-MAX_RECORDS c =
    let a = c.args in
    sym (lent_size a.n _ _ _ (rw (le-ltb a.n 1 (omega arith), lt-ltb max_records a.n (omega arith)) refl))

pub returns-then-not-pairs_below : goal.returns-then-not-pairs_below
returns-then-not-pairs_below c =
    let a = c.args in
    sym (lent_pairs a.n _ _ _ (omega arith) (omega arith) (sym (below_test _ _ _ c.pairs_below.ensures) ∙ c.if-not-pairs_below.true))

pub returns-then-not-well_formed : goal.returns-then-not-well_formed
returns-then-not-well_formed c =
    let a = c.args in
    let below : all_below a.n a.pairs.now ≡ true = sym (below_test _ _ _ c.pairs_below.ensures) ∙ c.if-not-pairs_below.false in
    sym (lent_trees a.n _ _ _ (omega arith) (omega arith) below
    (first_bad a.n a.a.now a.b.now (sym (formed_test _ _ _ c.well_formed-2.ensures) ∙ c.if-not-well_formed.true)))

pub returns-then-not-well_formed-2 : goal.returns-then-not-well_formed-2
returns-then-not-well_formed-2 c =
    let a = c.args in
    let below : all_below a.n a.pairs.now ≡ true = sym (below_test _ _ _ c.pairs_below.ensures) ∙ c.if-not-pairs_below.false in
    let first : formed a.n a.a.now ≡ true = sym (formed_test _ _ _ c.well_formed-2.ensures) ∙ c.if-not-well_formed.false in
    sym (lent_trees a.n _ _ _ (omega arith) (omega arith) below
    (second_bad a.n a.a.now a.b.now first (sym (formed_test _ _ _ c.well_formed-3.ensures) ∙ c.if-not-well_formed-2.true)))

pub returns-then-room-tree_unit : goal.returns-then-room-tree_unit
returns-then-room-tree_unit c =
    let a = c.args in
    let below : all_below a.n a.pairs.now ≡ true = sym (below_test _ _ _ c.pairs_below.ensures) ∙ c.if-not-pairs_below.false in
    let first : formed a.n a.a.now ≡ true = sym (formed_test _ _ _ c.well_formed-2.ensures) ∙ c.if-not-well_formed.false in
    let second : formed a.n a.b.now ≡ true = sym (formed_test _ _ _ c.well_formed-3.ensures) ∙ c.if-not-well_formed-2.false in
    sym (lent_work a.n _ _ _ (omega arith) (omega arith) below (both_good a.n a.a.now a.b.now first second)
    (omega (arith, c.tree_unit.ensures.0)))

pub returns : goal.returns
returns c =
    let a = c.args in
    let below : all_below a.n a.pairs.now ≡ true = sym (below_test _ _ _ c.pairs_below.ensures) ∙ c.if-not-pairs_below.false in
    let first : formed a.n a.a.now ≡ true = sym (formed_test _ _ _ c.well_formed-2.ensures) ∙ c.if-not-well_formed.false in
    let second : formed a.n a.b.now ≡ true = sym (formed_test _ _ _ c.well_formed-3.ensures) ∙ c.if-not-well_formed-2.false in
    sym (lent_none a.n _ _ _ (omega arith) (omega arith) below (both_good a.n a.a.now a.b.now first second)
    (omega (arith, c.tree_unit.ensures.0)))
