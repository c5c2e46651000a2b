-- Laws of lists taken as sets: what is in a list without a member, lists in which every member stands once, and lists renamed.
--   and_both, or_neither, or-true
--                      two tests that both pass, or neither
--   EqualityTest same  `same` is a test of equality
--   eqb_test, link_is, same_link_test
--                      so are those of numbers and of links; links with the same parts are the same
--   has_in, in_has     the computed test is membership
--   has_without, without_absent, without_self, without_other, absent_without
--                      a list without x: x and only x is taken out, and what is absent stays so
--   distinct_without, length_without
--                      members that stand once still do, and there is one fewer
--   has_map, map_has   the members of a list renamed are its members, renamed
--   distinct_map       a renaming that keeps the members apart keeps them apart in the list
-- Assumes nothing.
use Rattle.std.specs.Prelude.{◌≡◌, Bool, not, ◌||◌, ◌&&◌, eqb}
use Rattle.std.proofs.Math.Path.{refl, ap, subst}
use Rattle.std.proofs.Common.{sym, ◌∙◌, true≢false, eq-eqb, eqb-true}
use mathlib.Core.List.{List, [], ◌∷◌, map}
use Rattle.std.proofs.Math.Bool.{true, false}
use Rattle.std.proofs.lemmas.Bool.{false≢true}
use Prim.Native.Nat.{suc}
use Rattle.std.proofs.Math.ListN.{length}
use Rattle.book.specs.Basics.{pick, In, here, there, has, without}
use Rattle.book.specs.Book.{Link, same_link}
use Rattle.book.specs.Sheets.{Distinct}
use Rattle.book.proofs.ListLaws.{map_in, in_map}

pub and_both : (a b : Bool) → (a && b) ≡ true → (a ≡ true) × (b ≡ true)
and_both true b e = (refl, e)
and_both false b e = absurd (false≢true e)

pub or_neither : (a b : Bool) → (a || b) ≡ false → (a ≡ false) × (b ≡ false)
or_neither true b e = absurd (true≢false e)
or_neither false b e = (refl, e)

pub or_else : (b c : Bool) → (b || c) ≡ true → (P : Type 0) → (b ≡ true → P) → (c ≡ true → P) → P
or_else true c e P f g = f refl
or_else false c e P f g = g e

pub or-true : (a : Bool) → (a || true) ≡ true
or-true true = refl
or-true false = refl

-- same is a test of equality
pub record EqualityTest {A : Type 0} (same : A → A → Bool) : Type 0 where
  pub sound : (a b : A) → same a b ≡ true → a ≡ b
  pub reflexive : (a : A) → same a a ≡ true

pub eqb_test : EqualityTest eqb
eqb_test = record { sound = eqb-true; reflexive = λ a. eq-eqb a a refl }

pub link_is : (j k : Link) → j.from ≡ k.from → j.label ≡ k.label → j.to ≡ k.to → j ≡ k
link_is j k p q r = λ i. record { from = p i; label = q i; to = r i }

pub same_link_test : EqualityTest same_link
same_link_test = record {
  sound = λ j k e.
      let h = and_both (eqb j.from k.from) (eqb j.label k.label && eqb j.to k.to) e in
      let g = and_both (eqb j.label k.label) (eqb j.to k.to) h.1 in
      link_is j k (eqb-true _ _ h.0) (eqb-true _ _ g.0) (eqb-true _ _ g.1);
  reflexive = λ j. rw (eq-eqb j.from j.from refl, eq-eqb j.label j.label refl, eq-eqb j.to j.to refl);
}

module _ {A : Type 0} {same : A → A → Bool} (T : EqualityTest same) where
  -- the computed test is membership
  pub has_in : (x : A) (l : List A) → has same x l ≡ true → In x l
  unfolding has
  has_in x [] e = absurd (false≢true e)
  has_in x (y ∷ ys) e = go (same y x) refl e (has_in x ys)
    where
      go : (t : Bool) → same y x ≡ t → (t || has same x ys) ≡ true → (has same x ys ≡ true → In x ys) → In x (y ∷ ys)
      go true q e ih = subst (λ (v : A). In x (v ∷ ys)) (sym (T.sound y x q)) here
      go false q e ih = there (ih e)

  pub in_has : (x : A) (l : List A) → In x l → has same x l ≡ true
  unfolding has
  in_has x [] x'' = elim x'' [ ]
  in_has x (y ∷ ys) here = rw (T.reflexive x)
  in_has x (y ∷ ys) (there h) = rw (in_has x ys h) (or-true (same y x))

  -- x and only x is taken out
  pub has_without : (x y : A) (l : List A) → has same y (without same x l) ≡ (not (same x y) && has same y l)
  unfolding has without
  has_without x y [] = elim (same x y) as (λ (t : Bool). false ≡ (not t && false)) [ true ↦ refl | false ↦ refl ]
  has_without x y (z ∷ zs) = go (same z x) refl (same z y) refl (has_without x y zs)
    where
      go : (t : Bool) → same z x ≡ t → (u : Bool) → same z y ≡ u → has same y (without same x zs) ≡ (not (same x y) && has same y zs)
          → has same y (pick t (without same x zs) (z ∷ without same x zs)) ≡ (not (same x y) && (u || has same y zs))
      go true e true f ih = let s : same x y ≡ true = ap (λ (v : A). same v y) (sym (T.sound z x e)) ∙ f in ih ∙ rw s
      go true e false f ih = ih
      go false e true f ih = let s : same x y ≡ false = go2 (same x y) refl in rw (f, s)
        where
          go2 : (t : Bool) → same x y ≡ t → t ≡ false
          go2 false q = refl
          go2 true q =
              absurd (false≢true (sym e ∙ ap (λ (v : A). same v x) (T.sound z y f) ∙ ap (λ (v : A). same v x) (sym (T.sound x y q)) ∙ T.reflexive x))
      go false e false f ih = rw f ih

module _ {A : Type 0} {same : A → A → Bool} (T : EqualityTest same) where
  pub without_absent : (x : A) (l : List A) → has same x l ≡ false → without same x l ≡ l
  unfolding has without
  without_absent x [] e = refl
  without_absent x (y ∷ ys) e = let h = or_neither (same y x) (has same x ys) e in rw h.0 (ap (λ (l : List A). y ∷ l) (without_absent x ys h.1))

  pub without_self : (x : A) (l : List A) → has same x (without same x l) ≡ false
  without_self x l = has_without T x x l ∙ rw (T.reflexive x)

  pub without_other : (x y : A) (l : List A) → same x y ≡ false → has same y (without same x l) ≡ has same y l
  without_other x y l e = has_without T x y l ∙ rw e

  -- what is absent stays so
  pub absent_without : (x y : A) (l : List A) → has same y l ≡ false → has same y (without same x l) ≡ false
  absent_without x y l e = has_without T x y l ∙ rw e (nothing (not (same x y)))
    where
      nothing : (b : Bool) → (b && false) ≡ false
      nothing true = refl
      nothing false = refl

  pub distinct_without : (x : A) (l : List A) → Distinct same l → Distinct same (without same x l)
  unfolding Distinct without
  distinct_without x [] d = tt
  distinct_without x (y ∷ ys) d = go (same y x) (distinct_without x ys d.1)
    where
      go : (t : Bool) → Distinct same (without same x ys) → Distinct same (pick t (without same x ys) (y ∷ without same x ys))
      go true ih = ih
      go false ih = (absent_without x y ys d.0, ih)

  pub length_without : (x : A) (l : List A) → Distinct same l → has same x l ≡ true → suc (length (without same x l)) ≡ length l
  unfolding Distinct without has
  length_without x [] d e = absurd (false≢true e)
  length_without x (y ∷ ys) d e = go (same y x) refl e (length_without x ys d.1)
    where
      go : (t : Bool) → same y x ≡ t → (t || has same x ys) ≡ true → (has same x ys ≡ true → suc (length (without same x ys)) ≡ length ys)
          → suc (length (pick t (without same x ys) (y ∷ without same x ys))) ≡ suc (length ys)
      go true q e ih = ap (λ (l : List A). suc (length l)) (without_absent x ys (ap (λ (v : A). has same v ys) (sym (T.sound y x q)) ∙ d.0))
      go false q e ih = ap suc (ih e)

-- ---- a list with each member renamed
module _ {A : Type 0} {same : A → A → Bool} (T : EqualityTest same) (f : A → A) where
  pub has_map : (x : A) (l : List A) → has same x l ≡ true → has same (f x) (map f l) ≡ true
  has_map x l e = in_has T (f x) (map f l) (map_in f (has_in T x l e))

  pub map_has : (y : A) (l : List A) → has same y (map f l) ≡ true → (x : A) × (has same x l ≡ true) × (f x ≡ y)
  map_has y l e = let r = in_map f l (has_in T y (map f l) e) in (r.0, in_has T r.0 l r.1, sym r.2)

  -- of a renaming that keeps the members apart
  pub distinct_map : (l : List A) → Distinct same l → ((x y : A) → has same x l ≡ true → has same y l ≡ true → f x ≡ f y → x ≡ y) → Distinct same (map f l)
  unfolding Distinct has
  distinct_map [] d inj = tt
  distinct_map (x ∷ l) d inj = (go (has same (f x) (map f l)) refl, distinct_map l d.1 (λ a b p q. inj a b (later a p) (later b q)))
    where
      later : (a : A) → has same a l ≡ true → (same x a || has same a l) ≡ true
      later a p = rw p (or-true (same x a))

      go : (b : Bool) → has same (f x) (map f l) ≡ b → b ≡ false
      go false e = refl
      go true e =
          let r = map_has (f x) l e in
          let z : r.0 ≡ x = inj r.0 x (later r.0 r.1) (rw (T.reflexive x)) r.2 in
          absurd (true≢false (sym r.1 ∙ ap (λ (v : A). has same v l) z ∙ d.0))
