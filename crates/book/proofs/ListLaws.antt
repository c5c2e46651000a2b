-- Laws of lists.
--   in_left, in_right, in_either, in_none, in_front, in_one
--                  membership in a joined list, in none, in one by its front
--   in_at, at_in   a member stands at a place, and what stands at a place is a member
--   map_in, length-map, in_map
--                  the members and the length of a mapped list
--   rises_least, rises_from, rises_map
--                  an ascending list: its least member, from a lower number on, mapped
--   rises_same     two with the same members are equal
--   rest_whole, rest_length
--                  the part of a list from a place on, as code cuts it
--   length_over    a list written over a front
-- Assumes nothing.
use Rattle.std.specs.Prelude.{◌≡◌, refl, ◌⊎◌, List, [], ◌∷◌, ◌++◌, map, ℕ, zero, suc, ◌-◌, ◌≤◌, ◌<◌, length, get_or, take, drop}
use Rattle.std.proofs.Common.{sym, ap, ap₂, subst, ◌∙◌, inl, inr, ⊎_elim, length-drop, length-append, take_all, arith}
use Rattle.book.specs.Basics.{In, here, there, Rises, ended, rises, over}

-- ---- membership
module _ {A : Type 0} where
  pub in_left : {w : A} {l : List A} (m : List A) → In w l → In w (l ++ m)
  in_left m here = here
  in_left m (there h) = there (in_left m h)

  pub in_right : {w : A} (l : List A) {m : List A} → In w m → In w (l ++ m)
  in_right [] h = h
  in_right (x ∷ l) h = there (in_right l h)

  pub in_either : {w : A} (l m : List A) → In w (l ++ m) → In w l ⊎ In w m
  in_either [] m h = inr h
  in_either (x ∷ l) m here = inl here
  in_either (x ∷ l) m (there h) = ⊎_elim (λ p. inl (there p)) (λ p. inr p) (in_either l m h)

  pub in_none : {w : A} {l : List A} → In w l → l ≡ [] → ⊥
  in_none here e = let z : ◌≡◌ {A = ℕ} 0 1 = cc in omega arith
  in_none (there h) e = let z : ◌≡◌ {A = ℕ} 0 1 = cc in omega arith

  pub in_front : {w v : A} {j t : List A} → In w t → t ≡ v ∷ j → (w ≡ v) ⊎ In w j
  in_front here e = inl (cc)
  in_front {w} {v} {j} (there {v = u} {l = i} h) e = let k : i ≡ j = cc in inr (subst (λ (t : List A). In w t) k h)

  pub in_one : {w p : A} {l : List A} → In w l → l ≡ p ∷ [] → w ≡ p
  in_one here e = cc
  in_one (there h) e = absurd (in_none h (cc))

  -- a member stands at a place, and what stands at a place is a member
  pub in_at : {w : A} {l : List A} (d : A) → In w l → (i : ℕ) × (i < length l) × (get_or l i d ≡ w)
  in_at d here = (0, omega arith, refl)
  in_at d (there h) = let r = in_at d h in (suc r.0, omega (arith, r.1), r.2)

  pub at_in : (l : List A) (i : ℕ) (d : A) → i < length l → In (get_or l i d) l
  at_in [] i d h = absurd (omega arith)
  at_in (x ∷ l) zero d h = here
  at_in (x ∷ l) (suc i) d h = there (at_in l i d (omega arith))

module _ {A B : Type 0} (f : A → B) where
  pub map_in : {w : A} {l : List A} → In w l → In (f w) (map f l)
  map_in here = here
  map_in (there h) = there (map_in h)

  pub length-map : (l : List A) → length (map f l) ≡ length l
  length-map [] = refl
  length-map (x ∷ l) = ap suc (length-map l)

  pub in_map : {v : B} (l : List A) → In v (map f l) → (w : A) × In w l × (v ≡ f w)
  in_map [] h = absurd (in_none h refl)
  in_map (x ∷ l) h = ⊎_elim (λ e. (x, here, e)) (λ i. let r = in_map l i in (r.0, there r.1, r.2)) (in_front h refl)

-- ---- ascending lists
pub rises_least : {m w : ℕ} {l : List ℕ} → Rises m l → In w l → m ≤ w
rises_least {w = w} (ended {m = m}) x4 = elim x4 [ ]
rises_least (rises h r) here = h
rises_least (rises h r) (there i) = omega (arith, rises_least r i)

pub rises_from : {m k : ℕ} {l : List ℕ} → k ≤ m → Rises m l → Rises k l
rises_from h ended = ended
rises_from {m} {k} h (rises {w = w} g r) = rises {m = k} {w = w} (omega arith) r

-- renamed so that the order stays
pub rises_map : (f : ℕ → ℕ) {m k : ℕ} (l : List ℕ) → Rises m l
    → ((w v : ℕ) → In w l → In v l → w < v → f w < f v) → ((w : ℕ) → In w l → k ≤ f w) → Rises k (map f l)
rises_map f [] ended g low = ended
rises_map f {m} {k} (w ∷ l) (rises h r) g low =
    rises {m = k} {w = f w} (low w here) (rises_map f l r (λ x y i j. g x y (there i) (there j)) (λ x i. g w x here (there i) (rises_least r i)))

pub rises_same : {m k : ℕ} (l j : List ℕ) → Rises m l → Rises k j → ((w : ℕ) → In w l → In w j) → ((w : ℕ) → In w j → In w l) → l ≡ j
rises_same [] [] r q f b = refl
rises_same [] (v ∷ j) r q f b = absurd (in_none (b v here) refl)
rises_same (w ∷ l) [] r q f b = absurd (in_none (f w here) refl)
rises_same (w ∷ l) (v ∷ j) (rises h r) (rises p q) f b = go (rises_same l j r q)
  where
    e : w ≡ v
    e =
        ⊎_elim (λ p. p)
        (λ i. ⊎_elim (λ p. sym p) (λ i'. absurd (omega (arith, rises_least q i, rises_least r i'))) (in_front (b v here) refl))
        (in_front (f w here) refl)

    go : (((u : ℕ) → In u l → In u j) → ((u : ℕ) → In u j → In u l) → l ≡ j) → w ∷ l ≡ v ∷ j
    go ih = ap₂ (λ (x : ℕ) (t : List ℕ). x ∷ t) e (ih
        (λ u i. ⊎_elim (λ p. absurd (omega (arith, rises_least r i, e))) (λ i'. i') (in_front (f u (there i)) refl))
        (λ u i. ⊎_elim (λ p. absurd (omega (arith, rises_least q i, e))) (λ i'. i') (in_front (b u (there i)) refl)))

-- ---- the part of a list from a place on, as code cuts it
pub rest_whole : (l : List ℕ) (at : ℕ) → take (length l - at) (drop at l) ≡ drop at l
rest_whole l at = take_all (length l - at) (drop at l) (omega (arith, length-drop at l))

pub rest_length : (l : List ℕ) (at : ℕ) → length (take (length l - at) (drop at l)) ≡ length l - at
rest_length l at = ap length (rest_whole l at) ∙ length-drop at l

-- a list written over a front
pub length_over : (g l : List ℕ) → length g ≤ length l → length (over g l) ≡ length l
length_over g l h = length-append g (drop (length g) l) ∙ omega (arith, length-drop (length g) l)
