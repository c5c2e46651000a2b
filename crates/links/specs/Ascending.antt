-- Ascending words in the front of an array: where a word goes, one put in, one cut out.
--   insert x l          x put in before the first number of l that is not below it
--   put_at i x l         x before what stands at the place i
--   cut_at i l           l without what stands at the place i
--   Seam x ws c i       i is a place for x among the first c words: the word before it is below x, and the word at it is not
--   stands_at ws c i x   whether i is one of the first c places and x stands there
-- Assumes nothing: these are definitions.
use Rattle.std.specs.Prelude.{◌≡◌, List, ◌∷◌, [], ◌++◌, Bool, ◌&&◌, ℕ, suc, ◌≤◌, ◌<◌, take, drop, get_or, ltb, eqb}
use Rattle.book.specs.Basics.{pick}

unfoldable pub insert : ℕ → List ℕ → List ℕ
insert x [] = x ∷ []
insert x (y ∷ ys) = pick (ltb y x) (y ∷ insert x ys) (x ∷ y ∷ ys)

unfoldable pub put_at : ℕ → ℕ → List ℕ → List ℕ
put_at i x l = take i l ++ (x ∷ drop i l)

unfoldable pub cut_at : ℕ → List ℕ → List ℕ
cut_at i l = take i l ++ drop (suc i) l

pub record Seam (x : ℕ) (ws : List ℕ) (c i : ℕ) : Type 0 where
  pub within : i ≤ c
  pub low : (j : ℕ) → suc j ≡ i → get_or ws j 0 < x
  pub high : i < c → x ≤ get_or ws i 0

unfoldable pub stands_at : List ℕ → ℕ → ℕ → ℕ → Bool
stands_at ws c i x = ltb i c && eqb (get_or ws i 0) x
