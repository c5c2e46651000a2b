-- The tables hold the fragments of the parts that wait, after an operator on two: they become one.
--   or_bit, and_bit    `|` and `&` of two bits
--   Side p, side       a position lies in the one or in the other
--   no_A, no_B         where the one has a position, the other has none
--   enters₂, own_or, or_own
--                      the letters that enter the two, and the positions that are theirs
--   joint              what both operators have in common: the masks and rows of one part in place of two
--   holds_alternative  either of the two
--   holds_sequence     the one followed by the other
-- Assumes nothing.
use mathlib.Core.Path.{◌≡◌, refl, sym, ap, ap₂, ◌∙◌, subst}
use mathlib.Core.Logic.{◌⊎◌, inl, inr}
use mathlib.Core.List.{List, ◌∷◌}
use Prim.Native.Nat.{ℕ, zero, suc, ◌+◌, ◌%◌, ◌≤◌, ◌<◌, min, max}
use native.Mathlib.Omega.{arith}
use native.Mathlib.Decide.{dec_lt}
use lib.Bits.{bit_and, bit_or, or_lt, and_lt}
use lib.ListN.{length, get_or, set}
use lib.Seq.{get_or-set_same, get_or-set_other}
use Rattle.k2.specs.Bits.{digit}
use Rattle.k2.specs.DigitLaws.{digit_lt, digit_zero, digit_none, digit_or, digit_and}
use Rattle.paths.specs.Expressions.{Letter}
use Rattle.automaton.specs.Automata.{On, Fragment, either, followed}
use Rattle.automaton.proofs.SetLaws.{on_max}
use Rattle.automaton.specs.Traces.{Between, Within}
use Rattle.automaton.specs.Masks.{letter_number}
use Rattle.tables.specs.Rows.{Joined}
use Rattle.tables.specs.Builds.{Build, Part, parts, Fit, Item, Holds}
use Rattle.tables.proofs.PartLaws.{zero_of, fit_either, fit_followed, Same, items_keep, Top, top_of, put_top, joins_off}

or_bit : (a b : ℕ) → a < 2 → b < 2 → bit_or a b ≡ max a b
or_bit a b h g =
    let l = or_lt 1 a b h g in
    let z : bit_or a b % 2 ≡ max (a % 2) (b % 2) = sym (digit_zero (bit_or a b)) ∙ digit_or a b 0 ∙ ap₂ max (digit_zero a) (digit_zero b) in
    omega arith

and_bit : (a b : ℕ) → a < 2 → b < 2 → bit_and a b ≡ min a b
and_bit a b h g =
    let l = and_lt 1 a b h g in
    let z : bit_and a b % 2 ≡ min (a % 2) (b % 2) = sym (digit_zero (bit_and a b)) ∙ digit_and a b 0 ∙ ap₂ min (digit_zero a) (digit_zero b) in
    omega arith

module _ {b : Build} {m : ℕ} {x y : Part} {st : List Part} (H : Holds b m (y ∷ x ∷ st)) where
  t₂ : Top b m b.top y (x ∷ st)
  t₂ = top_of H.items

  t₁ : Top b t₂.o t₂.j x st
  t₁ = top_of t₂.rest

  abbrev o₁ : ℕ
  o₁ = t₁.o

  abbrev mid : ℕ
  mid = t₁.o + x.letters

  abbrev hi : ℕ
  hi = t₁.o + (x.letters + y.letters)

  abbrev A : Fragment
  A = x.fragment t₁.o

  abbrev B : Fragment
  B = y.fragment (t₁.o + x.letters)

  abbrev i₁ : ℕ
  i₁ = t₁.j

  abbrev i₂ : ℕ
  i₂ = suc t₁.j

  T₁ : Item b i₁ o₁ mid A
  T₁ = t₁.this

  T₂ : Item b i₂ mid (mid + y.letters) B
  T₂ =
      subst (λ (j : ℕ). Item b j mid (mid + y.letters) B) t₁.at (subst (λ (o : ℕ). Item b t₂.j o (o + y.letters) (y.fragment o)) t₁.ends t₂.this)

  U : Within o₁ mid A
  U = t₁.fit.within o₁

  W : Within mid (mid + y.letters) B
  W = t₂.fit.within mid

  ends₂ : m ≡ hi
  ends₂ = let a = t₂.ends in let c = t₁.ends in omega arith

  top₂ : b.top ≡ suc i₂
  top₂ = t₂.at ∙ ap suc t₁.at

  -- a position lies in the one or in the other
  data Side (p : ℕ) : Type 0 where
    left : Between o₁ mid p → Side p
    right : Between mid (mid + y.letters) p → Side p

  side : (p : ℕ) → Between o₁ hi p → Side p
  side p h = go (dec_lt mid p)
    where
      go : Dec (mid < p) → Side p
      go (yes g) = right (omega arith, omega arith)
      go (no g) = left (omega arith, omega arith)

  no_A : (p q : ℕ) → Between mid (mid + y.letters) p → (A.follow p q ≡ 0) × (A.last p ≡ 0) × (A.follow q p ≡ 0) × (A.first p ≡ 0)
  no_A p q h = (
    zero_of _ (λ o. (let z = U.from p q o in omega arith)),
    zero_of _ (λ o. (let z = U.last p o in omega arith)),
    zero_of _ (λ o. (let z = U.to q p o in omega arith)),
    zero_of _ (λ o. (let z = U.first p o in omega arith)),
  )

  no_B : (p q : ℕ) → Between o₁ mid p → (B.follow p q ≡ 0) × (B.last p ≡ 0) × (B.follow q p ≡ 0) × (B.first p ≡ 0)
  no_B p q h = (
    zero_of _ (λ o. (let z = W.from p q o in omega arith)),
    zero_of _ (λ o. (let z = W.last p o in omega arith)),
    zero_of _ (λ o. (let z = W.to q p o in omega arith)),
    zero_of _ (λ o. (let z = W.first p o in omega arith)),
  )

  enters₂ : (q : ℕ) (a : Letter) → Between o₁ hi q → digit (get_or b.enter (letter_number a) 0) q ≡ max (A.enters q a) (B.enters q a)
  enters₂ q a h = go (side q h)
    where
      go : Side q → digit (get_or b.enter (letter_number a) 0) q ≡ max (A.enters q a) (B.enters q a)
      go (left g) = T₁.enters q a g ∙ (let z = zero_of (B.enters q a) (λ o. (let k = W.enters q a o in omega arith)) in omega arith)
      go (right g) = T₂.enters q a g ∙ (let z = zero_of (A.enters q a) (λ o. (let k = U.enters q a o in omega arith)) in omega arith)

  own_or : (q : ℕ) → On (digit (bit_or (get_or b.own i₁ 0) (get_or b.own i₂ 0)) q) → Between o₁ hi q
  own_or q o = go (on_max _ _ (rw digit_or at o))
    where
      go : On (digit (get_or b.own i₁ 0) q) ⊎ On (digit (get_or b.own i₂ 0) q) → Between o₁ hi q
      go (inl k) = let z = T₁.own_on q k in (omega arith, omega arith)
      go (inr k) = let z = T₂.own_on q k in (omega arith, omega arith)

  or_own : (q : ℕ) → Between o₁ hi q → On (digit (bit_or (get_or b.own i₁ 0) (get_or b.own i₂ 0)) q)
  or_own q h = rw digit_or (go (side q h))
    where
      go : Side q → On (max (digit (get_or b.own i₁ 0) q) (digit (get_or b.own i₂ 0) q))
      go (left g) = let z = T₁.own_all q g in omega arith
      go (right g) = let z = T₂.own_all q g in omega arith

  module _ (r : Build) (et : suc r.top ≡ b.top) (em : r.used ≡ b.used) (i j : ℕ) (ej : suc j ≡ b.top) (ei : suc i ≡ j) (f l n : ℕ)
      (lf : b.top ≤ length b.first) (ll : b.top ≤ length b.last) (lo : b.top ≤ length b.own) (ln : b.top ≤ length b.nullable)
      (ef : r.first ≡ set b.first i f) (el : r.last ≡ set b.last i l)
      (eo : r.own ≡ set b.own i (bit_or (get_or b.own i 0) (get_or b.own j 0))) (en : r.nullable ≡ set b.nullable i n)
      (ee : r.enter ≡ b.enter) where
    i_is : i ≡ i₁
    i_is = let z = top₂ in omega arith

    j_is : j ≡ i₂
    j_is = let z = top₂ in omega arith

    joint : (e : Part) (C : Fragment) → Fit e → e.letters ≡ x.letters + y.letters
        → e.fragment o₁ ≡ C → C.enters ≡ (λ q a. max (A.enters q a) (B.enters q a)) → n ≡ C.nullable
        → ((q : ℕ) → digit f q ≡ C.first q) → ((q : ℕ) → digit l q ≡ C.last q)
        → ((p q : ℕ) → Between o₁ hi p → digit (get_or r.follow p 0) q ≡ C.follow p q)
        → ((p q : ℕ) → Between o₁ hi q → digit (get_or r.pred q 0) p ≡ C.follow p q)
        → ((p q : ℕ) → (Between o₁ hi p → ⊥) → digit (get_or r.follow p 0) q ≡ digit (get_or b.follow p 0) q)
        → ((p q : ℕ) → (Between o₁ hi q → ⊥) → digit (get_or r.pred q 0) p ≡ digit (get_or b.pred q 0) p)
        → Holds r m (e ∷ st)
    joint e C F le fe ce nn ff fl rf rp of op =
        record {
          items = put_top e m r.top (let z = top₂ in omega arith) (ends₂ ∙ ap (λ (k : ℕ). o₁ + k) (sym le)) (items_keep sm t₁.rest) F (rw (le, fe) it);
          count = em ∙ H.count;
          few = H.few;
          blank = record {
            follow = λ p q k. of p q (λ h. k (omega arith, omega (arith, ends₂))) ∙ H.blank.follow p q k;
            pred = λ p q k. op p q (λ h. k (omega arith, omega (arith, ends₂))) ∙ H.blank.pred p q k;
            enter = λ c q k. rw ee (H.blank.enter c q k);
          };
        }
      where
        sm : Same b r o₁ i₁
        sm = record {
          nullable = λ k h. rw en (get_or-set_other b.nullable i k n 0 (λ z. omega (arith, i_is)));
          first = λ k h. rw ef (get_or-set_other b.first i k f 0 (λ z. omega (arith, i_is)));
          last = λ k h. rw el (get_or-set_other b.last i k l 0 (λ z. omega (arith, i_is)));
          own = λ k h. rw eo (get_or-set_other b.own i k (bit_or (get_or b.own i 0) (get_or b.own j 0)) 0 (λ z. omega (arith, i_is)));
          follow = λ p q h. of p q (λ g. omega arith);
          pred = λ p q h. op p q (λ g. omega arith);
          enter = λ c q h. rw ee;
        }

        own_is : get_or r.own i₁ 0 ≡ bit_or (get_or b.own i₁ 0) (get_or b.own i₂ 0)
        own_is =
            ap (λ (k : ℕ). get_or r.own k 0) (sym i_is)
            ∙ (ap (λ (s : List ℕ). get_or s i 0) eo ∙ get_or-set_same b.own i (bit_or (get_or b.own i 0) (get_or b.own j 0)) 0 (omega arith))
            ∙ ap₂ (λ (u v : ℕ). bit_or (get_or b.own u 0) (get_or b.own v 0)) i_is j_is

        it : Item r i₁ o₁ hi C
        it = record {
          nullable = rw (en, ← i_is) (get_or-set_same b.nullable i n 0 (omega arith) ∙ nn);
          first = λ q. rw (ef, ← i_is) (ap (λ (k : ℕ). digit k q) (get_or-set_same b.first i f 0 (omega arith)) ∙ ff q);
          last = λ q. rw (el, ← i_is) (ap (λ (k : ℕ). digit k q) (get_or-set_same b.last i l 0 (omega arith)) ∙ fl q);
          own_on = λ q h. own_or q (rw own_is at h);
          own_all = λ q h. rw own_is (or_own q h);
          follow = rf;
          pred = rp;
          enters = λ q a h. rw ee (enters₂ q a h ∙ ap (λ (g : ℕ → Letter → ℕ). g q a) (sym ce));
        }

    pub holds_alternative : r.follow ≡ b.follow → r.pred ≡ b.pred → f ≡ bit_or (get_or b.first i 0) (get_or b.first j 0)
        → l ≡ bit_or (get_or b.last i 0) (get_or b.last j 0) → n ≡ bit_or (get_or b.nullable i 0) (get_or b.nullable j 0) → Holds r m (parts.either x y ∷ st)
    unfolding parts either
    holds_alternative eh ep f-is l-is n_is =
        joint (parts.either x y) (either A B) (fit_either t₁.fit t₂.fit) refl refl refl
        (n_is ∙ rw (i_is, j_is, T₁.nullable, T₂.nullable) (or_bit A.nullable B.nullable (t₁.fit.nullable_lt o₁) (t₂.fit.nullable_lt mid)))
        (λ q. rw (f-is, i_is, j_is, digit_or) (ap₂ max (T₁.first q) (T₂.first q)))
        (λ q. rw (l-is, i_is, j_is, digit_or) (ap₂ max (T₁.last q) (T₂.last q)))
        (λ p q h. rw eh (fol p q (side p h))) (λ p q h. rw ep (prd p q (side q h))) (λ p q h. rw eh) (λ p q h. rw ep)
      where
        fol : (p q : ℕ) → Side p → digit (get_or b.follow p 0) q ≡ max (A.follow p q) (B.follow p q)
        fol p q (left g) = T₁.follow p q g ∙ (let z = no_B p q g in omega arith)
        fol p q (right g) = T₂.follow p q g ∙ (let z = no_A p q g in omega arith)

        prd : (p q : ℕ) → Side q → digit (get_or b.pred q 0) p ≡ max (A.follow p q) (B.follow p q)
        prd p q (left g) = T₁.pred p q g ∙ (let z = no_B q p g in omega arith)
        prd p q (right g) = T₂.pred p q g ∙ (let z = no_A q p g in omega arith)

    pub holds_sequence : (u v : ℕ) → Joined b.follow (digit (get_or b.last i 0)) (get_or b.first j 0) r.follow
        → Joined b.pred (digit (get_or b.first j 0)) (get_or b.last i 0) r.pred
        → (get_or b.nullable i 0 ≡ 0 → u ≡ 0) × (0 < get_or b.nullable i 0 → u ≡ get_or b.first j 0)
        → (get_or b.nullable j 0 ≡ 0 → v ≡ 0) × (0 < get_or b.nullable j 0 → v ≡ get_or b.last i 0)
        → f ≡ bit_or (get_or b.first i 0) u → l ≡ bit_or (get_or b.last j 0) v
        → n ≡ bit_and (get_or b.nullable i 0) (get_or b.nullable j 0) → Holds r m (parts.followed x y ∷ st)
    unfolding parts followed
    holds_sequence u v J K ou ov f-is l-is n_is =
        joint (parts.followed x y) (followed A B) (fit_followed t₁.fit t₂.fit) refl refl refl
        (n_is ∙ rw (i_is, j_is, T₁.nullable, T₂.nullable) (and_bit A.nullable B.nullable (t₁.fit.nullable_lt o₁) (t₂.fit.nullable_lt mid)))
        (λ q. rw (f-is, i_is, digit_or) (ap₂ max (T₁.first q) (u_is q)))
        (λ q. rw (l-is, j_is, digit_or) (ap₂ max (T₂.last q) (v_is q)))
        (λ p q h. J.at p q ∙ fol p q (side p h))
        (λ p q h. K.at q p ∙ prd p q (side q h))
        (λ p q h. joins_off J p q (la p ∙ zero_of _ (λ o. h (let z = U.last p o in (omega arith, omega arith)))))
        (λ p q h. joins_off K q p (fi q ∙ zero_of _ (λ o. h (let z = W.first q o in (omega arith, omega arith)))))
      where
        la : (p : ℕ) → digit (get_or b.last i 0) p ≡ A.last p
        la p = rw i_is (T₁.last p)

        fi : (p : ℕ) → digit (get_or b.first j 0) p ≡ B.first p
        fi p = rw j_is (T₂.first p)

        u_is : (q : ℕ) → digit u q ≡ min A.nullable (B.first q)
        u_is q = go (get_or b.nullable i 0) refl
          where
            nl : get_or b.nullable i 0 ≡ A.nullable
            nl = rw i_is T₁.nullable

            go : (k : ℕ) → get_or b.nullable i 0 ≡ k → digit u q ≡ min A.nullable (B.first q)
            go zero e = rw (ou.0 e) (digit_none q ∙ (let z : A.nullable ≡ 0 = sym nl ∙ e in omega arith))
            go (suc k) e =
                rw (ou.1 (omega arith)) (fi q ∙ (let z : A.nullable ≡ suc k = sym nl ∙ e in let a =
                t₁.fit.nullable_lt o₁ in let c = digit_lt (get_or b.first j 0) q in let d = fi q in omega arith))

        v_is : (q : ℕ) → digit v q ≡ min B.nullable (A.last q)
        v_is q = go (get_or b.nullable j 0) refl
          where
            nl : get_or b.nullable j 0 ≡ B.nullable
            nl = rw j_is T₂.nullable

            go : (k : ℕ) → get_or b.nullable j 0 ≡ k → digit v q ≡ min B.nullable (A.last q)
            go zero e = rw (ov.0 e) (digit_none q ∙ (let z : B.nullable ≡ 0 = sym nl ∙ e in omega arith))
            go (suc k) e =
                rw (ov.1 (omega arith)) (la q ∙ (let z : B.nullable ≡ suc k = sym nl ∙ e in let a =
                t₂.fit.nullable_lt mid in let c = digit_lt (get_or b.last i 0) q in let d = la q in omega arith))

        fol : (p q : ℕ) → Side p → max (digit (get_or b.follow p 0) q) (min (digit (get_or b.last i 0) p) (digit (get_or b.first j 0) q))
            ≡ max (max (A.follow p q) (B.follow p q)) (min (A.last p) (B.first q))
        fol p q (left g) = let a = T₁.follow p q g in let z = no_B p q g in let c = la p in let d = fi q in omega arith
        fol p q (right g) = let a = T₂.follow p q g in let z = no_A p q g in let c = la p in let d = fi q in omega arith

        prd : (p q : ℕ) → Side q → max (digit (get_or b.pred q 0) p) (min (digit (get_or b.first j 0) q) (digit (get_or b.last i 0) p))
            ≡ max (max (A.follow p q) (B.follow p q)) (min (A.last p) (B.first q))
        prd p q (left g) = let a = T₁.pred p q g in let z = no_B q p g in let c = la p in let d = fi q in omega arith
        prd p q (right g) = let a = T₂.pred p q g in let z = no_A q p g in let c = la p in let d = fi q in omega arith
