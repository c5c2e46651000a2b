-- Laws of the ring: what is held after one more is, and after the latest is taken back. Assumes nothing.
use mathlib.Core.Path.{◌≡◌, refl, ap, ap₂, sym, ◌∙◌}
use mathlib.Core.List.{List, [], ◌∷◌}
use Prim.Native.Nat.{ℕ, zero, suc, ◌+◌, ◌-◌, ◌≤◌, ◌<◌}
use native.Mathlib.Omega.{arith}
use native.Mathlib.Numerals.{add-one}
use native.Mathlib.Nat.{le_of_suc-le-suc}
use lib.ListN.{length, take, get_or, set}
use lib.Seq.{get_or-set_same, get_or-set_other, take_all}
use Rattle.register.specs.Representation.{previous, latest}

module _ (ring : List ℕ) (top e : ℕ) where
  -- from a place above the written one
  latest_above : (h t : ℕ) → h + top < t → latest (set ring top e) t h ≡ latest ring t h
  unfolding latest
  latest_above zero t p = refl
  latest_above (suc h) zero p = absurd (omega arith)
  latest_above (suc h) (suc t) p =
      ap₂ (λ (x : ℕ) (l : List ℕ). x ∷ l) (get_or-set_other ring top t e 0 (omega arith)) (latest_above h t (omega arith))

  -- from the written place or one below it
  latest-below : (h t : ℕ) → t ≤ top → h + top < 256 + t → latest (set ring top e) t h ≡ latest ring t h
  unfolding latest
  latest-below zero t q p = refl
  latest-below (suc h) zero q p =
      ap₂ (λ (x : ℕ) (l : List ℕ). x ∷ l) (get_or-set_other ring top 255 e 0 (omega arith)) (latest_above h 255 (omega arith))
  latest-below (suc h) (suc t) q p =
      ap₂ (λ (x : ℕ) (l : List ℕ). x ∷ l) (get_or-set_other ring top t e 0 (omega arith)) (latest-below h t (omega arith) (omega arith))

  -- one more is held: the places that are walked over again are as they were
  pub latest_held : (t h : ℕ) → previous t ≡ top → top < length ring → h < 256 → latest (set ring top e) t (suc h) ≡ e ∷ latest ring top h
  unfolding latest
  latest_held t h p q k =
      rw p (ap₂ (λ (x : ℕ) (l : List ℕ). x ∷ l) (get_or-set_same ring top e 0 q) (latest-below h top (omega arith) (omega arith)))

pub latest_take : (ring : List ℕ) (k top h : ℕ) → k ≤ h → take k (latest ring top h) ≡ latest ring top k
unfolding latest
latest_take ring zero top h p = refl
latest_take ring (suc k) top zero p = absurd (omega arith)
latest_take ring (suc k) top (suc h) p = ap (λ (l : List ℕ). get_or ring (previous top) 0 ∷ l) (latest_take ring k (previous top) h (le_of_suc-le-suc p))

pub latest_length : (ring : List ℕ) (top h : ℕ) → length (latest ring top h) ≡ h
unfolding latest
latest_length ring top zero = refl
latest_length ring top (suc h) = ap suc (latest_length ring (previous top) h)

pub previous_next : (top : ℕ) → previous (top + 1) ≡ top
previous_next top = rw add-one refl

-- fewer than 256 were held, or 256 were
pub hold_more : (ring : List ℕ) (top e t h : ℕ) → previous t ≡ top → top < length ring
    → h < 256 → latest (set ring top e) t (h + 1) ≡ take 256 (e ∷ latest ring top h)
hold_more ring top e t h p q k =
    rw (add-one, latest_held ring top e t h p q k)
    (ap (λ (l : List ℕ). e ∷ l) (sym (take_all 255 (latest ring top h) (omega (arith, latest_length ring top h)))))

pub hold_full : (ring : List ℕ) (top e t h : ℕ) → previous t ≡ top → top < length ring
    → h ≡ 256 → latest (set ring top e) t h ≡ take 256 (e ∷ latest ring top h)
hold_full ring top e t h p q k =
    rw k (latest_held ring top e t 255 p q (omega arith) ∙ ap (λ (l : List ℕ). e ∷ l) (sym (latest_take ring 255 top 256 (omega arith))))

-- the latest, and the others
pub latest_step : (ring : List ℕ) (top h : ℕ) → (h ≡ 0 → ⊥) → latest ring top h ≡ get_or ring (previous top) 0 ∷ latest ring (previous top) (h - 1)
unfolding latest
latest_step ring top zero p = absurd (p refl)
latest_step ring top (suc h) p = let e : suc h - 1 ≡ h = omega arith in rw e

pub latest_none : (ring : List ℕ) (top h : ℕ) → h ≡ 0 → latest ring top h ≡ []
unfolding latest
latest_none ring top h p = rw p

pub previous_less : (top : ℕ) → (top ≡ 0 → ⊥) → previous top ≡ top - 1
previous_less zero p = absurd (p refl)
previous_less (suc t) p = omega arith
