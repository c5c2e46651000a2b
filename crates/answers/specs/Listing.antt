-- A list written word by word into another, as far as that takes it.
--   Shown l before after
--                   the list that held `before` holds of l what it takes, and then what was there
--   Grown t s ks before after
--                   a list that shows t words, and then ks, shows s words
-- Assumes nothing: these are definitions.
use Rattle.std.specs.Prelude.{◌≡◌, List, ◌++◌, ℕ, length, take, drop}

abbrev pub Shown : List ℕ → List ℕ → List ℕ → Type 0
Shown l before after = after ≡ take (length before) l ++ drop (length l) before

abbrev pub Grown : (t s : ℕ) → List ℕ → List ℕ → List ℕ → Type 0
Grown t s ks before after = (l e : List ℕ) → length l ≡ t → length e ≡ length before → Shown l e before
    → (s ≡ length (l ++ ks)) × Shown (l ++ ks) e after
