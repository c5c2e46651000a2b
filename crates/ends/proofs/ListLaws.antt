-- Laws of listing: the places of a function one by one.
--   set_none, set_some
--                   a number if a value is not 0
--   places_next     one place more
-- Assumes nothing.
use mathlib.Core.Path.{◌≡◌, refl}
use mathlib.Core.List.{[], ◌∷◌, ◌++◌}
use Prim.Native.Nat.{ℕ, zero, suc, ◌+◌, ◌<◌}
use native.Mathlib.Numerals.{add-one}
use native.Mathlib.Omega.{arith}
use Rattle.k2.specs.PairSets.{if_set}
use Rattle.rows.specs.Rows.{places}

-- ---- places
pub set_none : (v y : ℕ) → v ≡ 0 → if_set v y ≡ []
set_none zero y h = refl
set_none (suc v) y h = absurd (omega arith)

pub set_some : (v y : ℕ) → 0 < v → if_set v y ≡ y ∷ []
set_some zero y h = absurd (omega arith)
set_some (suc v) y h = refl

pub places_next : (f : ℕ → ℕ) (y : ℕ) → places f (y + 1) ≡ places f y ++ if_set (f y) y
unfolding places
places_next f y = rw (add-one y)
