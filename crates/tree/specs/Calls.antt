-- What the public calls promise, as equations: a call is refused with the number of the first cause, in the order of S6.8, and the list is as it was; with no
-- cause the answer's words stand at the list's front, and behind them it is as it was. A list of pairs may be shorter than the answer: it gets the first of
-- them, and the answer tells how many there are in all.
--   sense_of w             the sense that the number w stands for: 0 is plain, any other inverted
--   product_sensed n s t a b
--                         the product of the set a read with the sense s, and of b read with t
--   all_below n ps         whether both ends of each pair of ps are below n, as `PairsBelow` has it (CallLaws `all-below`, `below_all`)
--   all_formed n ts        whether each of the lent trees ts is well formed
--   lent_causes n ps ts k  the causes against what is lent: n, the pairs ps, the trees ts, and k words of work
--   Answered n ps ts k xs before after r
--                         the answer r of a call that was lent these and whose answer is xs, and its list, which held `before` and holds `after`: refused for
--                         what is lent, or because xs is longer than the list
--   Listed n ts k xs before after r
--                         the same of a call whose answer is the pairs xs: those that the list takes, and their number
--   tree_of_two op n t u    the tree of what op makes of the sets of the trees t and u
-- Assumes nothing: these are definitions.
use Rattle.std.specs.Prelude.{List, [], ◌∷◌, ◌++◌, Bool, true, ◌&&◌, ◌||◌, not, ℕ, zero, suc, ◌*◌, ◌/◌, ◌%◌, ltb, length, take}
use Rattle.book.specs.Causes.{Cause, bad_size, no_record, bad_tree, short_work, short_list, first_number, max_records}
use Rattle.k2.specs.PairSets.{Cells, product}
use Rattle.k2.specs.Trees.{tree_words, tree_unit}
use Rattle.k2.specs.TreeSets.{set_in, formed}
use Rattle.packing.specs.declared.loading.Sense.{Sense}
use Rattle.packing.specs.declared.loading.Sense.TheVariants.{Plain, Inverted}
use Rattle.packing.specs.Senses.{sensed}
use Rattle.answers.specs.Answers.{Handed}
use Rattle.answers.specs.declared.Counted.{Counted}

abbrev pub sense_of : ℕ → Sense
sense_of zero = Plain
sense_of (suc w) = Inverted

abbrev pub product_sensed : ℕ → Sense → Sense → Cells → Cells → Cells
product_sensed n s t a b = product n (sensed s a) (sensed t b)

unfoldable pub all_below : ℕ → List ℕ → Bool
all_below n [] = true
all_below n (p ∷ ps) = ltb (p / 1024) n && (ltb (p % 1024) n && all_below n ps)

unfoldable pub all_formed : ℕ → List (List ℕ) → Bool
all_formed n [] = true
all_formed n (t ∷ ts) = formed n t && all_formed n ts

unfoldable pub lent_causes : ℕ → List ℕ → List (List ℕ) → ℕ → List (Cause × Bool)
lent_causes n ps ts k =
    (bad_size, ltb n 1 || ltb max_records n) ∷
    (no_record, not (all_below n ps)) ∷
    (bad_tree, not (all_formed n ts)) ∷
    (short_work, ltb k (32 * tree_unit n)) ∷ []

pub record Answered (n : ℕ) (ps : List ℕ) (ts : List (List ℕ)) (k : ℕ) (xs before after : List ℕ) (r : Counted) : Type 0 where
  pub handed : Handed (first_number (lent_causes n ps ts k ++ ((short_list, ltb (length before) (length xs)) ∷ []))) xs xs before after r

pub record Listed (n : ℕ) (ts : List (List ℕ)) (k : ℕ) (xs before after : List ℕ) (r : Counted) : Type 0 where
  pub handed : Handed (first_number (lent_causes n [] ts k)) xs (take (length before) xs) before after r

abbrev pub tree_of_two : (Cells → Cells → Cells) → ℕ → List ℕ → List ℕ → List ℕ
tree_of_two op n t u = tree_words n (op (set_in n t) (set_in n u))
