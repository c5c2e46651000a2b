-- Laws of the loops over a list from a place on: a test of its members, their order, the numbers chosen so far. Assumes nothing.
use mathlib.Core.Path.{◌≡◌, refl, sym, ap, ◌∙◌}
use mathlib.Core.List.{List, [], ◌∷◌, ◌++◌, append-nil}
use mathlib.Core.Bool.{Bool, true, false, ◌||◌, ◌&&◌, true≢false}
use Prim.Native.Nat.{ℕ, suc, ◌+◌, ◌≤◌, ◌<◌}
use native.Mathlib.Numerals.{add-one}
use native.Mathlib.Decide.{dec_lt}
use native.Mathlib.Omega.{arith}
use lib.ListN.{length, take, drop, get_or, set, drop_of_length-le}
use lib.Seq.{get_or-set_same, get_or-set_other, drop-cons, take-suc-set}
use lib.Dec.{leb, eqb}
use borrow.Author.Tests.{le-leb, lt-leb, eq-eqb, eqb-true}
use Rattle.book.specs.Basics.{pick, In}
use Rattle.k2.specs.PairSets.{Cells}
use Rattle.rowpairs.specs.Evaluation.{JoinsSome}
use Rattle.support.specs.Support.{some, chosen, reaches, orderly}
use Rattle.support.proofs.SupportLaws.{some_in, in_some}

-- ---- some member
module _ (t : ℕ → Bool) (l : List ℕ) (i : ℕ) where
  pub some_found : i < length l → t (get_or l i 0) ≡ true → some t (drop i l) ≡ true
  unfolding some
  some_found h e = ap (some t) (drop-cons l i 0 h) ∙ ap (λ (u : Bool). u || some t (drop (suc i) l)) e

  pub some_next : i < length l → t (get_or l i 0) ≡ false → some t (drop i l) ≡ some t (drop (i + 1) l)
  unfolding some
  some_next h e = ap (some t) (drop-cons l i 0 h) ∙ ap (λ (u : Bool). u || some t (drop (suc i) l)) e ∙ ap (λ (j : ℕ). some t (drop j l)) (sym (add-one i))

  pub some_past : length l ≤ i → some t (drop i l) ≡ false
  unfolding some
  some_past h = ap (some t) (drop_of_length-le l {i = i} h)

-- ---- order
module _ (m : ℕ) (l : List ℕ) (i : ℕ) where
  pub order_broken : i < length l → get_or l i 0 < m → orderly m (drop i l) ≡ false
  unfolding orderly
  order_broken h g = ap (orderly m) (drop-cons l i 0 h) ∙ ap (λ (u : Bool). u && orderly (suc (get_or l i 0)) (drop (suc i) l)) (lt-leb m (get_or l i 0) g)

  pub order_next : i < length l → m ≤ get_or l i 0 → orderly m (drop i l) ≡ orderly (get_or l i 0 + 1) (drop (i + 1) l)
  unfolding orderly
  order_next h g =
      ap (orderly m) (drop-cons l i 0 h) ∙ ap (λ (u : Bool). u && orderly (suc (get_or l i 0)) (drop (suc i) l)) (le-leb m (get_or l i 0) g)
      ∙ ap (λ (k : ℕ). orderly k (drop (suc i) l)) (sym (add-one (get_or l i 0))) ∙ ap (λ (j : ℕ). orderly (get_or l i 0 + 1) (drop j l)) (sym (add-one i))

  pub order_past : length l ≤ i → orderly m (drop i l) ≡ true
  unfolding orderly
  order_past h = ap (orderly m) (drop_of_length-le l {i = i} h)

-- ---- the numbers chosen
module _ (t : ℕ → Bool) (words : List ℕ) (count x : ℕ) (e : take count words ≡ chosen t x) where
  pub chosen_more : count < length words → t x ≡ true → take (count + 1) (set words count x) ≡ chosen t (x + 1)
  unfolding chosen
  chosen_more h q =
      ap (λ (j : ℕ). take j (set words count x)) (add-one count) ∙ take-suc-set words count x h
      ∙ ap (λ (l : List ℕ). l ++ (x ∷ [])) e ∙ sym (ap (chosen t) (add-one x) ∙ ap (λ (u : Bool). chosen t x ++ pick u (x ∷ []) []) q)

  pub chosen_passed : t x ≡ false → take count words ≡ chosen t (x + 1)
  unfolding chosen
  chosen_passed q = e ∙ sym (append-nil (chosen t x)) ∙ sym (ap (chosen t) (add-one x) ∙ ap (λ (u : Bool). chosen t x ++ pick u (x ∷ []) []) q)

-- ---- the records marked
pub marked_more : (f : ℕ → Bool) (records : List Bool) (x : ℕ) (t : Bool) → x < length records → t ≡ f x → ((y : ℕ) → y < x → get_or records y false ≡ f y)
    → (y : ℕ) → y < x + 1 → get_or (set records x t) y false ≡ f y
marked_more f records x t l e r y h = go (dec_lt y x)
  where
    go : Dec (y < x) → get_or (set records x t) y false ≡ f y
    go (yes k) = get_or-set_other records x y t false (λ z. absurd (omega arith)) ∙ r y k
    go (no k) =
        let z : y ≡ x = omega arith in
        ap (λ (i : ℕ). get_or (set records x t) i false) z ∙ get_or-set_same records x t false l ∙ e ∙ ap f (sym z)

-- ---- a member that is joined
pub below_all : (n : ℕ) (l : List ℕ) → some (leb n) l ≡ false → (y : ℕ) → In y l → y < n
below_all n l e y h = go (dec_lt y n)
  where
    go : Dec (y < n) → y < n
    go (yes k) = k
    go (no k) = absurd (true≢false (sym (in_some (leb n) l h (le-leb n y (omega arith))) ∙ e))

pub reaches_joined : (c : Cells) (x : ℕ) (anchors : List ℕ) {t : Bool} → JoinsSome (c x) anchors t → t ≡ reaches c anchors x
unfolding reaches
reaches_joined c x anchors {t = true} J = let p = J.found refl in sym (in_some (λ y. eqb (c x y) 1) anchors p.1 (eq-eqb (c x p.0) 1 p.2))
reaches_joined c x anchors {t = false} J = go (some (λ y. eqb (c x y) 1) anchors) refl
  where
    go : (u : Bool) → some (λ y. eqb (c x y) 1) anchors ≡ u → false ≡ u
    go false q = refl
    go true q = let p = some_in (λ y. eqb (c x y) 1) anchors q in absurd (J.none refl p.0 p.1 (eqb-true _ _ p.2))
