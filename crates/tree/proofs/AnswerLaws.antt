-- Laws of the public calls: from the first cause found, or from the answer, to what a call promises.
--   below_test, formed_test
--                   a test of the pairs, or of a tree, is the one that is computed
--   first_bad, second_bad, both_good
--                   of two trees: the first, or the second, is not well formed; both are
--   as_good         causes are the same for trees that are formed alike
--   refuse, accept  a tree call: its first cause, and its answer where there is none
--   refuse_list, accept_list
--                   the same of a list of pairs
--   answer_as       an answer is that of an equal tree
--   met             where there is no cause, what the causes say is met
--   formed_most     a tree that is well formed has at most D words
-- Assumes nothing.
use mathlib.Core.Path.{◌≡◌, refl, sym, ap, subst, ◌∙◌}
use mathlib.Core.Bool.{Bool, true, false}
use mathlib.Core.List.{List, [], ◌∷◌}
use Prim.Native.Nat.{ℕ, zero, suc, ◌*◌, ◌≤◌}
use native.Mathlib.Omega.{arith}
use lib.ListN.{length, take}
use Rattle.book.specs.Causes.{first_number, max_records}
use Rattle.k2.specs.PairSets.{PairsBelow}
use Rattle.k2.specs.Trees.{tree_unit, WellFormed}
use Rattle.k2.specs.TreeSets.{formed}
use Rattle.k2.specs.TreeSetLaws.{formed_tree, tree_formed}
use Rattle.k2.specs.SizeLaws.{tree_words_most}
use Rattle.answers.specs.Answers.{answered, over_unless, Handed, Whole, FirstPart}
use Rattle.answers.specs.declared.Counted.{Counted}
use Rattle.answers.specs.declared.Counted.TheVariants.{Refused}
use Rattle.tree.specs.Calls.{all_below, all_formed, lent_causes, Answered, Listed}
use Rattle.tree.specs.CallLaws.{tree_causes, all-below, below_all, two_formed, lent_met, tree_refused, tree_accepted}

-- ---- the tests, which are those of the causes
same_test : {P : Type 0} (s t : Bool) → (s ≡ true → P) → (P → s ≡ true) → (t ≡ true → P) → (P → t ≡ true) → s ≡ t
same_test true t f g h k = sym (k (f refl))
same_test false true f g h k = g (h refl)
same_test false false f g h k = refl

pub below_test : (n : ℕ) (ps : List ℕ) (s : Bool) → (s ≡ true → PairsBelow n ps) × (PairsBelow n ps → s ≡ true) → s ≡ all_below n ps
below_test n ps s e = same_test {P = PairsBelow n ps} s (all_below n ps) e.0 e.1 (all-below n ps) (below_all n ps)

pub formed_test : (n : ℕ) (t : List ℕ) (s : Bool) → (s ≡ true → WellFormed n t) × (WellFormed n t → s ≡ true) → s ≡ formed n t
formed_test n t s e = same_test s (formed n t) e.0 e.1 formed_tree tree_formed

module _ (n : ℕ) (t u : List ℕ) where
  pub first_bad : formed n t ≡ false → all_formed n (t ∷ u ∷ []) ≡ false
  unfolding all_formed
  first_bad e = rw e refl

  pub second_bad : formed n t ≡ true → formed n u ≡ false → all_formed n (t ∷ u ∷ []) ≡ false
  unfolding all_formed
  second_bad e f = rw (e, f) refl

  pub both_good : formed n t ≡ true → formed n u ≡ true → all_formed n (t ∷ u ∷ []) ≡ true
  unfolding all_formed
  both_good e f = rw (e, f) refl

-- ---- answers
-- what is lent with as good trees has the same first cause
pub as_good : (n : ℕ) (ps : List ℕ) (ts us : List (List ℕ)) (k : ℕ) → all_formed n ts ≡ all_formed n us
    → first_number (lent_causes n ps ts k) ≡ first_number (lent_causes n ps us k)
unfolding lent_causes
as_good n ps ts us k e = rw e refl

module _ (n : ℕ) (ps : List ℕ) (ts : List (List ℕ)) (k : ℕ) (xs before after : List ℕ) where
  by_cause : {r : Counted} (c : ℕ) → first_number (tree_causes n ps ts k xs (length before)) ≡ c → r ≡ answered c (length xs) → after ≡ over_unless c xs before
      → Answered n ps ts k xs before after r
  by_cause {r} c e a l = record { handed = subst (λ (d : ℕ). Handed d xs xs before after r) (sym e) (record { answer = a; list = l }) }

  -- a cause before the answer
  pub refuse : (r : ℕ) → r ≡ first_number (lent_causes n ps ts k) → (r ≡ 0 → ⊥) → after ≡ before → Answered n ps ts k xs before after (Refused r)
  unfolding answered over_unless
  refuse zero e z q = absurd (z refl)
  refuse (suc c) e z q = by_cause (suc c) (tree_refused n ps ts k xs (length before) (sym e)) refl q

  settle : {v : Counted} → first_number (lent_causes n ps ts k) ≡ 0 → Whole xs before after v → Answered n ps ts k xs before after v
  unfolding first_number
  settle {v} e w = record { handed = subst (λ (c : ℕ). Handed c xs xs before after v) (sym (tree_accepted n ps ts k xs (length before) e)) w }

  -- none: the answer decides
  pub accept : {r : ℕ} {v : Counted} → r ≡ first_number (lent_causes n ps ts k) → r ≡ 0
      → (ys : List ℕ) → ys ≡ xs → Whole ys before after v → Answered n ps ts k xs before after v
  accept {v = v} e z ys q s = settle (sym e ∙ z) (subst (λ (l : List ℕ). Whole l before after v) q s)

-- a list of pairs: a cause before the answer, or none
module _ (n : ℕ) (ts : List (List ℕ)) (k : ℕ) (xs before after : List ℕ) where
  pub refuse_list : (r : ℕ) → r ≡ first_number (lent_causes n [] ts k) → (r ≡ 0 → ⊥) → after ≡ before → Listed n ts k xs before after (Refused r)
  unfolding answered over_unless
  refuse_list zero e z q = absurd (z refl)
  refuse_list (suc c) e z q = record { handed = record { answer = rw (← e) refl; list = rw (← e) q } }

  show : {v : Counted} → first_number (lent_causes n [] ts k) ≡ 0 → FirstPart xs before after v → Listed n ts k xs before after v
  show {v} e w = record { handed = subst (λ (c : ℕ). Handed c xs (take (length before) xs) before after v) (sym e) w }

  pub accept_list : {r : ℕ} {v : Counted} → r ≡ first_number (lent_causes n [] ts k) → r ≡ 0
      → (ys : List ℕ) → ys ≡ xs → FirstPart ys before after v → Listed n ts k xs before after v
  accept_list {v = v} e z ys q s = show (sym e ∙ z) (subst (λ (l : List ℕ). FirstPart l before after v) q s)

-- an equal answer
pub answer_as : {n k : ℕ} {ps xs ys before after : List ℕ} {ts : List (List ℕ)} {r : Counted} → xs ≡ ys → Answered n ps ts k xs before after r
    → Answered n ps ts k ys before after r
answer_as {n} {k} {ps} {before = before} {after} {ts} {r} e a = subst (λ (l : List ℕ). Answered n ps ts k l before after r) e a

-- ---- the facts that no cause leaves
pub met : (n k : ℕ) (ps t u : List ℕ) {r : ℕ} → r ≡ first_number (lent_causes n ps (t ∷ u ∷ []) k) → r ≡ 0
    → (1 ≤ n) × (n ≤ max_records) × PairsBelow n ps × (WellFormed n t × WellFormed n u) × (32 * tree_unit n ≤ k)
met n k ps t u e z = let m = lent_met n ps (t ∷ u ∷ []) k (sym e ∙ z) in (m.0, m.1, all-below n ps m.2, two_formed n t u m.3, m.4)

pub formed_most : {n : ℕ} {t : List ℕ} → WellFormed n t → length t ≤ tree_unit n
formed_most {n} w = omega (arith, ap length w.tree, tree_words_most n w.set)
