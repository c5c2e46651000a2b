-- `well_formed` loads the tree, and asks whether the rows are a set of pairs below n whose tree is the lent one. Assumes nothing.
use mathlib.Core.Path.{◌≡◌, refl, sym, ap, subst, ◌∙◌}
use native.Mathlib.Omega.{arith}
use lib.ListN.{length}
use Rattle.std.proofs.Common.{rules, tests}
use Rattle.std.proofs.lemmas.Bool.Decides.{Decides-eqb}
use Rattle.std.proofs.lemmas.Slice.Eq.{slice_eq-Decides}
use Rattle.k2.specs.Bits.{bit_at}
use Rattle.k2.specs.Trees.{WellFormed}
use Rattle.k2.specs.TreeLaws.{tree_none}
use Rattle.k2.specs.SizeLaws.{tree_words_most}
use Rattle.bits.specs.BitSetLaws.{bits_none}
use Rattle.rows.specs.Rows.{flat}
use Rattle.rows.specs.RowSets.{no_pairs}
use Rattle.rows.specs.RowLaws.{flat_none, union_none}
use Rattle.packing.proofs.StoreLaws.{false_absurd, nil_of}
use Rattle.packing.proofs.testing.well_formed.Goals as goal

pub returns-then-is_empty : goal.returns-then-is_empty
returns-then-is_empty c =
    let a = c.args in
    let z : length a.tree.now ≡ 0 = search (rules, tests) in
    (λ e. subst (WellFormed a.n) (sym (nil_of a.tree.now z)) (tree_none a.n), λ w. refl)

pub returns-then-tree_unit-tree : goal.returns-then-tree_unit-tree
returns-then-tree_unit-tree c =
    let n = c.args.n in
    (λ e. false_absurd e, λ w. absurd (let k = ap length w.tree in omega (arith, tree_words_most n w.set)))

pub returns-then-not-within : goal.returns-then-not-within
returns-then-not-within c =
    let loaded : (w : WellFormed c.args.n c.args.tree.now) → bit_at c.load.new.rows ≡ flat w.set =
    λ w. c.load.ensures w.set no_pairs w.is_set w.tree (bits_none 16384 ∙ sym flat_none) ∙ ap flat (union_none w.set) in
    let x = c.within in (
      λ e. false_absurd e,
      λ w. sym c.if-not-within.true
          ∙ x.ensures.1 (record { set = w.set; is_set = w.is_set; rows = loaded w }),
    )

pub returns : goal.returns
returns c =
    let loaded : (w : WellFormed c.args.n c.args.tree.now) → bit_at c.load.new.rows ≡ flat w.set =
    λ w. c.load.ensures w.set no_pairs w.is_set w.tree (bits_none 16384 ∙ sym flat_none) ∙ ap flat (union_none w.set) in
    let x = c.within in
    let r = x.ensures.0 c.if-not-within.false in
    let p = c.pack-len.ensures.1 in
    let same = slice_eq-Decides Decides-eqb _ _ _ c.eq.ensures in (
      λ e. record { set = r.set; is_set = r.is_set; tree = same.0 e ∙ (p r.set r.is_set r.rows).0 },
      λ w. same.1 (w.tree ∙ sym (p w.set w.is_set (loaded w)).0),
    )
