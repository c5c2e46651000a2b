-- Laws of the calls' causes: what each test says, the number of the first cause, and that the causes stand in the order of S6.8.
--   sense_other           a number that is not 0 stands for the inverted sense
--   all-below, below_all  pairs below n, as a fact and as a test
--   one_more, none_more   an empty tree more is no cause
--   one_formed, two_formed
--                         whether one or two lent trees are well formed
--   lent_size, lent_pairs, lent_trees, lent_work, lent_none
--                         the number of the first cause against what is lent
--   tree_causes            the causes of all: against what is lent, and that the answer is longer than its list
--   lent_met              what no cause leaves
--   tree_refused, tree_accepted
--                         the number of the first cause of all
--   causes_in_order       the causes are those of `tree_order`, in that order
-- Assumes nothing.
use Rattle.std.specs.Prelude.{◌≡◌, List, [], ◌∷◌, ◌++◌, Bool, true, false, ◌&&◌, ◌||◌, not, ℕ, zero, suc, ◌*◌, ◌/◌, ◌%◌, ◌≤◌, ◌<◌, ltb, length}
use Rattle.std.proofs.Math.Path.{refl}
use Rattle.std.proofs.Common.{arith}
use borrow.Author.Tests.{lt-ltb, le-ltb, ltb-true, ltb-false, not-false}
use Rattle.book.specs.Basics.{pick, In, here, there}
use Rattle.book.specs.Causes.{Cause, bad_size, no_record, bad_tree, short_work, short_list, number, first_number}
use Rattle.book.specs.CauseOrders.{tree_order, InOrder, none_left, same_cause}
use Rattle.book.specs.Causes.{max_records}
use Rattle.book.proofs.ListLaws.{in_none}
use Rattle.book.proofs.SetLaws.{and_both, or_neither}
use Rattle.k2.specs.PairSets.{PairsBelow}
use Rattle.k2.specs.Trees.{tree_unit, WellFormed}
use Rattle.k2.specs.TreeLaws.{tree_none}
use Rattle.k2.specs.TreeSets.{formed}
use Rattle.k2.specs.TreeSetLaws.{formed_tree, tree_formed}
use Rattle.packing.specs.declared.loading.Sense.TheVariants.{Inverted}
use Rattle.tree.specs.Calls.{sense_of, all_below, all_formed, lent_causes}

pub sense_other : (w : ℕ) → (w ≡ 0 → ⊥) → Inverted ≡ sense_of w
sense_other zero f = absurd (f refl)
sense_other (suc w) f = refl

-- ---- tests
pub all-below : (n : ℕ) (ps : List ℕ) → all_below n ps ≡ true → (w : ℕ) → In w ps → (w / 1024 < n) × (w % 1024 < n)
unfolding all_below
all-below n [] e w i = absurd (in_none i refl)
all-below n (p ∷ ps) e w here =
    let u = and_both (ltb (p / 1024) n) (ltb (p % 1024) n && all_below n ps) e in
    (ltb-true (p / 1024) n u.0, ltb-true (p % 1024) n (and_both (ltb (p % 1024) n) (all_below n ps) u.1).0)
all-below n (p ∷ ps) e w (there i) =
    let u = and_both (ltb (p / 1024) n) (ltb (p % 1024) n && all_below n ps) e in
    all-below n ps (and_both (ltb (p % 1024) n) (all_below n ps) u.1).1 w i

pub below_all : (n : ℕ) (ps : List ℕ) → PairsBelow n ps → all_below n ps ≡ true
unfolding all_below
below_all n [] b = refl
below_all n (p ∷ ps) b = let l = b p here in rw (lt-ltb (p / 1024) n l.0, lt-ltb (p % 1024) n l.1) (below_all n ps (λ w i. b w (there i)))

formed_none : (n : ℕ) → formed n [] ≡ true
formed_none n = tree_formed (tree_none n)

pub one_more : (n : ℕ) (t : List ℕ) → all_formed n (t ∷ [] ∷ []) ≡ all_formed n (t ∷ [])
unfolding all_formed
one_more n t = rw (formed_none n) refl

pub none_more : (n : ℕ) → all_formed n ([] ∷ [] ∷ []) ≡ all_formed n []
unfolding all_formed
none_more n = rw (formed_none n) refl

pub one_formed : (n : ℕ) (t : List ℕ) → WellFormed n t → all_formed n (t ∷ []) ≡ true
unfolding all_formed
one_formed n t w = rw (tree_formed w) refl

-- ---- the first cause against what is lent
module _ (n : ℕ) (ps : List ℕ) (ts : List (List ℕ)) (k : ℕ) where
  pub lent_size : (ltb n 1 || ltb max_records n) ≡ true → first_number (lent_causes n ps ts k) ≡ 1
  unfolding lent_causes first_number number
  lent_size e = rw e refl

  module _ (some : 1 ≤ n) (few : n ≤ max_records) where
    pub lent_pairs : all_below n ps ≡ false → first_number (lent_causes n ps ts k) ≡ 2
    unfolding lent_causes first_number number
    lent_pairs e = rw (le-ltb n 1 some, le-ltb max_records n few, e) refl

    pub lent_trees : all_below n ps ≡ true → all_formed n ts ≡ false → first_number (lent_causes n ps ts k) ≡ 11
    unfolding lent_causes first_number number
    lent_trees e f = rw (le-ltb n 1 some, le-ltb max_records n few, e, f) refl

    pub lent_work : all_below n ps ≡ true → all_formed n ts ≡ true → k < 32 * tree_unit n → first_number (lent_causes n ps ts k) ≡ 12
    unfolding lent_causes first_number number
    lent_work e f h = rw (le-ltb n 1 some, le-ltb max_records n few, e, f, lt-ltb k (32 * tree_unit n) h) refl

    pub lent_none : all_below n ps ≡ true → all_formed n ts ≡ true → 32 * tree_unit n ≤ k → first_number (lent_causes n ps ts k) ≡ 0
    unfolding lent_causes first_number number
    lent_none e f h = rw (le-ltb n 1 some, le-ltb max_records n few, e, f, le-ltb k (32 * tree_unit n) h) refl

-- four causes, and one more
abbrev four : Bool → Bool → Bool → Bool → List (Cause × Bool) → List (Cause × Bool)
four a b c d cs = (bad_size, a) ∷ (no_record, b) ∷ (bad_tree, c) ∷ (short_work, d) ∷ cs

first_on : (a b c d e : Bool) {m : ℕ} → first_number (four a b c d []) ≡ suc m → first_number (four a b c d ((short_list, e) ∷ [])) ≡ suc m
unfolding first_number number
first_on true b c d e q = q
first_on false true c d e q = q
first_on false false true d e q = q
first_on false false false true e q = q
first_on false false false false e q = absurd (omega arith)

first_off : (a b c d : Bool) → first_number (four a b c d []) ≡ 0 → (a ≡ false) × (b ≡ false) × (c ≡ false) × (d ≡ false)
unfolding first_number number
first_off true b c d q = absurd (omega arith)
first_off false true c d q = absurd (omega arith)
first_off false false true d q = absurd (omega arith)
first_off false false false true q = absurd (omega arith)
first_off false false false false q = (refl, refl, refl, refl)

abbrev pub tree_causes : ℕ → List ℕ → List (List ℕ) → ℕ → List ℕ → ℕ → List (Cause × Bool)
tree_causes n ps ts k xs room = lent_causes n ps ts k ++ ((short_list, ltb room (length xs)) ∷ [])

module _ (n : ℕ) (ps : List ℕ) (ts : List (List ℕ)) (k : ℕ) where
  abbrev sized : Bool
  sized = ltb n 1 || ltb max_records n

  abbrev short : Bool
  short = ltb k (32 * tree_unit n)

  lent_off : first_number (lent_causes n ps ts k) ≡ 0 → (sized ≡ false) × (not (all_below n ps) ≡ false) × (not (all_formed n ts) ≡ false) × (short ≡ false)
  unfolding lent_causes
  lent_off e = first_off sized (not (all_below n ps)) (not (all_formed n ts)) short e

  pub lent_met : first_number (lent_causes n ps ts k) ≡ 0
      → (1 ≤ n) × (n ≤ max_records) × (all_below n ps ≡ true) × (all_formed n ts ≡ true) × (32 * tree_unit n ≤ k)
  lent_met e =
      let o = lent_off e in
      let s = or_neither (ltb n 1) (ltb max_records n) o.0 in (
        ltb-false n 1 s.0,
        ltb-false max_records n s.1,
        not-false (all_below n ps) o.1,
        not-false (all_formed n ts) o.2,
        ltb-false k (32 * tree_unit n) o.3,
      )

  module _ (xs : List ℕ) (room : ℕ) where
    pub tree_refused : {m : ℕ} → first_number (lent_causes n ps ts k) ≡ suc m → first_number (tree_causes n ps ts k xs room) ≡ suc m
    unfolding lent_causes
    tree_refused e = first_on sized (not (all_below n ps)) (not (all_formed n ts)) short (ltb room (length xs)) e

    pub tree_accepted : first_number (lent_causes n ps ts k) ≡ 0
        → first_number (tree_causes n ps ts k xs room) ≡ pick (ltb room (length xs)) (number short_list) 0
    unfolding lent_causes first_number
    tree_accepted e = let o = lent_off e in rw (o.0, o.1, o.2, o.3) refl

    pub causes_in_order : InOrder (tree_causes n ps ts k xs room) tree_order
    unfolding lent_causes tree_order
    causes_in_order = same_cause (same_cause (same_cause (same_cause (same_cause none_left))))

-- what no cause leaves of two lent trees
pub two_formed : (n : ℕ) (t u : List ℕ) → all_formed n (t ∷ u ∷ []) ≡ true → WellFormed n t × WellFormed n u
unfolding all_formed
two_formed n t u e = let v = and_both (formed n t) (formed n u && true) e in (formed_tree v.0, formed_tree (and_both (formed n u) true v.1).0)
