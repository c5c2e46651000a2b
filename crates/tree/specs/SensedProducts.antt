-- Product with senses, over what the calls promise: for every choice of senses it answers as product without senses does on the operands so transposed, with
-- the same number or the same words; and an operand that `transpose` refuses as no tree it refuses with the same number.
--   Transposed n t t' s
--                   the tree t' is t so transposed: t itself where the sense s is plain; where it is inverted, what `transpose` wrote of t
--   ProductSensed, DamagedRefused
--                   so it is for all that may be lent, from what the calls promise (SensedProductLaws `product_sensed`, `damaged_refused`)
-- Assumes nothing: these are definitions.
use Rattle.std.specs.Prelude.{◌≡◌, false, List, [], ◌∷◌, ℕ, ◌≤◌, take}
use Rattle.book.specs.Causes.{bad_tree, number, max_records}
use Rattle.k2.specs.PairSets.{transpose}
use Rattle.k2.specs.Trees.{tree_words}
use Rattle.k2.specs.TreeSets.{set_in}
use Rattle.packing.specs.declared.loading.Sense.{Sense}
use Rattle.packing.specs.declared.loading.Sense.TheVariants.{Plain, Inverted}
use Rattle.answers.specs.declared.Counted.{Counted}
use Rattle.answers.specs.declared.Counted.TheVariants.{Count, Refused}
use Rattle.tree.specs.Calls.{product_sensed, all_formed, Answered, tree_of_two}

pub data Transposed (n : ℕ) (t t' : List ℕ) : Sense → Type 0 where
  as_it_is : t' ≡ t → Transposed n t t' Plain
  written : {k m : ℕ} {out out' : List ℕ} → Answered n [] (t ∷ []) k (tree_words n (transpose (set_in n t))) out out' (Count m) → t' ≡ take m out'
      → Transposed n t t' Inverted

abbrev pub ProductSensed : Type 0
ProductSensed = (n k : ℕ) (t u t' u' out after after' : List ℕ) (s q : Sense) (r r' : Counted) → Transposed n t t' s → Transposed n u u' q
    → Answered n [] (t ∷ u ∷ []) k (tree_of_two (product_sensed n s q) n t u) out after r
    → Answered n [] (t' ∷ u' ∷ []) k (tree_of_two (product_sensed n Plain Plain) n t' u') out after' r' → (r ≡ r') × (after ≡ after')

-- words that are no tree, in any call and with any sense
abbrev pub DamagedRefused : Type 0
DamagedRefused = (n k : ℕ) (xs before after : List ℕ) (ts : List (List ℕ)) (r : Counted) → 1 ≤ n → n ≤ max_records → all_formed n ts ≡ false
    → Answered n [] ts k xs before after r → (r ≡ Refused (number bad_tree)) × (after ≡ before)
