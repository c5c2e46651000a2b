-- Words that every definition uses.
--   pick b x y      x if b is true, else y
--   bit b           1 if b is true, else 0
--   In w l          w is a member of the list l
--   All P l         P holds of every member of the list l
--   has same x l    whether a member of l is the same as x, computed
--   without x l     the members of l that are not the same as x
--   tally t l       how many members of l pass the test t
--   over ws l       the list l with the words ws written over its front
--   Rises m l       the numbers of l ascend, each once, the first at least m
-- Assumes nothing: these are definitions.
use Rattle.std.specs.Prelude.{List, [], ◌∷◌, ◌++◌, Bool, true, false, ◌||◌, ℕ, suc, ◌+◌, ◌≤◌, length, drop}

abbrev pub pick {ℓ} : {A : Type ℓ} → Bool → A → A → A
pick true x y = x
pick false x y = y

abbrev pub bit : Bool → ℕ
bit b = pick b 1 0

pub data In {A : Type 0} (w : A) : List A → Type 0 where
  here : {l : List A} → In w (w ∷ l)
  there : {v : A} {l : List A} → In w l → In w (v ∷ l)

pub data All {A : Type 0} (P : A → Type 0) : List A → Type 0 where
  all_none : All P []
  all_more : {x : A} {l : List A} → P x → All P l → All P (x ∷ l)

module _ {A : Type 0} (same : A → A → Bool) where
  unfoldable pub has : A → List A → Bool
  has x [] = false
  has x (y ∷ ys) = same y x || has x ys

  unfoldable pub without : A → List A → List A
  without x [] = []
  without x (y ∷ ys) = pick (same y x) (without x ys) (y ∷ without x ys)

unfoldable pub tally : {A : Type 0} → (A → Bool) → List A → ℕ
tally t [] = 0
tally t (x ∷ xs) = bit (t x) + tally t xs

abbrev pub over : List ℕ → List ℕ → List ℕ
over ws l = ws ++ drop (length ws) l

pub data Rises : ℕ → List ℕ → Type 0 where
  ended : {m : ℕ} → Rises m []
  rises : {m w : ℕ} {l : List ℕ} → m ≤ w → Rises (suc w) l → Rises m (w ∷ l)
