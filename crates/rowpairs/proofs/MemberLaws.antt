-- Laws of records as a row of bits: none of them, one more, and a row of a relation that meets them. Assumes nothing.
use mathlib.Core.Path.{◌≡◌, refl, sym, ap, ◌∙◌, subst}
use mathlib.Core.Bool.{Bool}
use mathlib.Core.Logic.{⊎_elim}
use mathlib.Core.List.{List, [], ◌∷◌, ◌++◌}
use Prim.Native.Nat.{ℕ, ◌+◌, ◌*◌, ◌<◌, min}
use native.Mathlib.Numerals.{add-one}
use native.Mathlib.Decide.{ℕ_discrete}
use native.Mathlib.Omega.{arith}
use lib.ListN.{length, take, get_or}
use lib.Seq.{take-suc}
use Rattle.book.specs.Basics.{In, here}
use Rattle.book.proofs.ListLaws.{in_left, in_right, in_either, in_none, in_one}
use Rattle.bits.specs.BitSets.{none, put, both}
use Rattle.bits.specs.BitSetLaws.{put_at, put_off}
use Rattle.paths.specs.Questions.{row_width}
use Rattle.grid.specs.Grid.{row_of, first_rows}
use Rattle.grid.specs.GridLaws.{within_in, row_bit}
use Rattle.grid.specs.Steps.{Meets}
use Rattle.query.proofs.WorkLaws.{width_wide}
use Rattle.rowpairs.specs.Evaluation.{relation_in, Members, JoinsSome}

pub members_none : (f : ℕ → ℕ) → f ≡ none → Members [] f
unfolding none
members_none f e = record {
  bit = λ y. omega (arith, at y);
  sound = λ y h. absurd (omega (arith, at y));
  whole = λ y h. absurd (in_none h refl);
}
  where
    at : (y : ℕ) → f y ≡ 0
    at y = ap (λ (g : ℕ → ℕ). g y) e

pub members_more : (l : List ℕ) (i : ℕ) (f g : ℕ → ℕ) → i < length l → g ≡ put (get_or l i 0) 1 f → Members (take i l) f → Members (take (i + 1) l) g
members_more l i f g h e B = record {
  bit = λ y. go y (ℕ_discrete y x);
  sound = λ y q. subst (In y) (sym more) (from y (ℕ_discrete y x) q);
  whole = λ y m. ⊎_elim (λ k. old y (ℕ_discrete y x) (B.whole y k)) (λ k. ap g (in_one k refl) ∙ new) (in_either (take i l) (x ∷ []) (subst (In y) more m));
}
  where
    x : ℕ
    x = get_or l i 0

    more : take (i + 1) l ≡ take i l ++ (x ∷ [])
    more = ap (λ (j : ℕ). take j l) (add-one i) ∙ take-suc l i 0 h

    at : (y : ℕ) → g y ≡ put x 1 f y
    at y = ap (λ (k : ℕ → ℕ). k y) e

    new : g x ≡ 1
    new = at x ∙ put_at x 1 f

    off : (y : ℕ) → (y ≡ x → ⊥) → g y ≡ f y
    off y n = at y ∙ put_off x 1 f y n

    go : (y : ℕ) → Dec (y ≡ x) → g y < 2
    go y (yes z) = let q : g y ≡ 1 = ap g z ∙ new in omega arith
    go y (no z) = omega (arith, off y z, B.bit y)

    from : (y : ℕ) → Dec (y ≡ x) → g y ≡ 1 → In y (take i l ++ (x ∷ []))
    from y (yes z) q = in_right (take i l) (subst (λ (k : ℕ). In y (k ∷ [])) z here)
    from y (no z) q = in_left (x ∷ []) (B.sound y (sym (off y z) ∙ q))

    old : (y : ℕ) → Dec (y ≡ x) → f y ≡ 1 → g y ≡ 1
    old y (yes z) q = ap g z ∙ new
    old y (no z) q = off y z ∙ q

-- row x of a relation, which is a row of the words
pub meets_joined : (ws ms : List ℕ) (n x w : ℕ) (f : ℕ → ℕ) (l : List ℕ) {t : Bool} → w ≡ row_width n → x < n → Members l f → ((y : ℕ) → In y l → y < n)
    → Meets (both (row_of ws (x * w) (get_or ms x 0)) f) (w * 64) t → JoinsSome (relation_in ws ms n x) l t
unfolding both first_rows
meets_joined ws ms n x w f l {t} e h B below M = record {
  found = λ q.
      let p = N.found q in
      let y = p.0 in
      let m : min (g y) (f y) ≡ 1 = p.1 in
      let i : In y l = B.sound y (omega (arith, m, B.bit y)) in
      (y, i, same y (below y i) ∙ omega (arith, m, row_bit ws (x * row_width n) (get_or ms x 0) y));
  none = λ q y i r.
      let m : min (g y) (f y) ≡ 0 = N.none q y (omega arith) (omega (arith, below y i, width_wide n)) in
      absurd (omega (arith, m, sym (same y (below y i)) ∙ r, B.whole y i));
}
  where
    g : ℕ → ℕ
    g = row_of ws (x * row_width n) (get_or ms x 0)

    N : Meets (both g f) (row_width n * 64) t
    N = subst (λ (i : ℕ). Meets (both (row_of ws (x * i) (get_or ms x 0)) f) (i * 64) t) e M

    same : (y : ℕ) → y < n → relation_in ws ms n x y ≡ g y
    same y k = within_in n (first_rows (row_width n) ws ms) x y h k
