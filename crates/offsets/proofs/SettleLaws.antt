-- Passes settle: if a placing keeps all arcs, passes over a list of n distances change nothing after n of them, whatever the list began with. No walks and no
-- counting of different records: each pass makes one more record final. Of the records that are not yet final, take the known one that lies lowest above the
-- placing. Nothing in the pass can lower it: what comes from a final record is already as low as it can be, and what comes from another lies no lower. So after
-- the pass all arcs that leave it hold.
--   out, out_length, out_less, out_others
--                    a list without one of its members
--   Least k f os, search_least
--                    of the members that pass a test, the one with the least number; there is one, or none passes
--   gap p l x        how far the distance of x lies above the placing
--   Final            the arcs that leave x hold, and x lies no higher above the placing than the records that are not final
--   Open             the records that are not final, as a list
--   none_open        where no open record is known, all arcs hold
--   one_final        a pass takes one record out of it, or changes nothing
--   none_stays       where none is known, none becomes so
--   one_pass, passes  passes until one changes nothing, at most k of them
--   span, span_length, span_in, span_all
--                    the n numbers from o on
--   Left k l j       what is left of a part that no arc joins to another: at most k open records, or none of them is known
--   passes_settle    so passes over all arcs, as many as there are open records and one more, end with one that changes nothing
-- Assumes nothing.
use Rattle.std.specs.Prelude.{◌≡◌, refl, ◌⊎◌, List, [], ◌∷◌, Bool, true, false, ℕ, zero, suc, ◌+◌, ◌<◌, ◌≤◌, ℤ, ◌+ℤ◌, ◌-ℤ◌, length, set, ◌≤ℤ◌, ◌<ℤ◌}
use Rattle.std.proofs.Common.{sym, ap, ◌∙◌, subst, inl, inr, true≢false, not-suc-le-zero, arith, length-set}
use Rattle.std.proofs.Math.Decide.{dec_lt}
use Rattle.std.specs.Int.Signed.{le_z, ≤ℤ_refl, clash_ℤ, <ℤ-≤ℤ_trans}
use Rattle.book.specs.Basics.{In, here, there}
use Rattle.book.proofs.ListLaws.{in_none}
use Rattle.offsets.proofs.LinearLaws.{of_le, of_leb, of_not_leb, to_le, to_lt, of_add, of_sub, ≤ℤ-trans}
use Rattle.offsets.specs.Relax.{State, pick, known, dist}
use Rattle.offsets.specs.Offsets.{Placing}
use Rattle.offsets.proofs.ArcLaws.{Arc, Keeps, arc, run, Holds, lower_ind, set_ind, run_down, holds_quiet, lt-le}
use Rattle.offsets.proofs.PlacingLaws.{by_test}

-- ---- lists of records
-- a list without one of its members
abbrev pub out : (v : ℕ) (os : List ℕ) → In v os → List ℕ
out v [] x' = elim x' [ ]
out v (x ∷ os) here = os
out v (x ∷ os) (there h) = x ∷ out v os h

pub out_length : (v : ℕ) (os : List ℕ) (h : In v os) → suc (length (out v os h)) ≡ length os
out_length v [] h = elim h [ ]
out_length v (x ∷ os) here = refl
out_length v (x ∷ os) (there h) = ap suc (out_length v os h)

pub out_less : (v : ℕ) (os : List ℕ) (h : In v os) (x : ℕ) → In x (out v os h) → In x os
out_less v [] h x i = elim h [ ]
out_less v (y ∷ os) here x i = there i
out_less v (y ∷ os) (there h) x here = here
out_less v (y ∷ os) (there h) x (there i) = there (out_less v os h x i)

pub out_others : (v : ℕ) (os : List ℕ) (h : In v os) (x : ℕ) → In x os → (x ≡ v) ⊎ In x (out v os h)
out_others v [] h x _ = elim h [ ]
out_others v (y ∷ os) here x here = inl refl
out_others v (y ∷ os) here x (there i) = inr i
out_others v (y ∷ os) (there h) x here = inr here
out_others v (y ∷ os) (there h) x (there i) = go (out_others v os h x i)
  where
    go : (x ≡ v) ⊎ In x (out v os h) → (x ≡ v) ⊎ In x (y ∷ out v os h)
    go (inl e) = inl e
    go (inr j) = inr (there j)

-- of the members that pass a test, the one with the least number
pub record Least (k : ℕ → Bool) (f : ℕ → ℤ) (os : List ℕ) : Type 0 where
  pub v : ℕ
  pub member : In v os
  pub passes : k v ≡ true
  pub least : (y : ℕ) → In y os → k y ≡ true → f v ≤ℤ f y

abbrev Search : (k : ℕ → Bool) (f : ℕ → ℤ) (os : List ℕ) → Type 0
Search k f os = ((y : ℕ) → In y os → k y ≡ true → ⊥) ⊎ Least k f os

search_more : (k : ℕ → Bool) (f : ℕ → ℤ) (x : ℕ) (os : List ℕ) (t : Bool) → k x ≡ t → Search k f os → Search k f (x ∷ os)
search_more k f x os true e (inl none) = inr record { v = x; member = here; passes = e; least = go }
  where
    go : (y : ℕ) → In y (x ∷ os) → k y ≡ true → f x ≤ℤ f y
    go y here h = ≤ℤ_refl (f x)
    go y (there i) h = absurd (none y i h)
search_more k f x os false e (inl none) = inl go
  where
    go : (y : ℕ) → In y (x ∷ os) → k y ≡ true → ⊥
    go y here h = true≢false (sym h ∙ e)
    go y (there i) h = none y i h
search_more k f x os false e (inr m) = inr record { v = m.v; member = there m.member; passes = m.passes; least = go }
  where
    go : (y : ℕ) → In y (x ∷ os) → k y ≡ true → f m.v ≤ℤ f y
    go y here h = absurd (true≢false (sym h ∙ e))
    go y (there i) h = m.least y i h
search_more k f x os true e (inr m) = by_test (le_z (f x) (f m.v))
    (λ b. inr record { v = x; member = here; passes = e; least = new (to_le (of_leb (f x) (f m.v) b)) })
    (λ b. inr record { v = m.v; member = there m.member; passes = m.passes; least = old (lt-le (to_lt (of_not_leb (f x) (f m.v) b))) })
  where
    new : f x ≤ℤ f m.v → (y : ℕ) → In y (x ∷ os) → k y ≡ true → f x ≤ℤ f y
    new b y here h = ≤ℤ_refl (f x)
    new b y (there i) h = ≤ℤ-trans b (m.least y i h)

    old : f m.v ≤ℤ f x → (y : ℕ) → In y (x ∷ os) → k y ≡ true → f m.v ≤ℤ f y
    old b y here h = b
    old b y (there i) h = m.least y i h

pub search_least : (k : ℕ → Bool) (f : ℕ → ℤ) (os : List ℕ) → Search k f os
search_least k f [] = inl (λ y h _. in_none h refl)
search_least k f (x ∷ os) = search_more k f x os (k x) refl (search_least k f os)

-- ---- one pass
module _ (p : Placing) (cs : List Arc) (keeps : Keeps p cs) (D : ℕ → Type 0) (closed : (a : Arc) → In a cs → D a.to → D a.from) where
  abbrev pub gap : List ℤ → ℕ → ℤ
  gap l x = dist l x -ℤ p x

  pub record Final (l : List ℤ) (os : List ℕ) (x : ℕ) : Type 0 where
    pub is_known : known (dist l x) ≡ true
    pub leaves : (a : Arc) → In a cs → a.from ≡ x → a.to < length l → dist l a.to ≤ℤ (dist l x +ℤ a.rise)
    pub lowest : (y : ℕ) → In y os → known (dist l y) ≡ true → gap l x ≤ℤ gap l y

  pub record Open (l : List ℤ) (os : List ℕ) : Type 0 where
    pub inside : (y : ℕ) → In y os → (y < length l) × D y
    pub others : (x : ℕ) → x < length l → D x → In x os ⊎ Final l os x

  -- where no open record is known, all arcs hold
  pub none_open : (l : List ℤ) (os : List ℕ) → Open l os → ((y : ℕ) → In y os → known (dist l y) ≡ true → ⊥) → (a : Arc) → In a cs → D a.from → Holds a l
  none_open l os o none a i g f t k = go (o.others a.from f g)
    where
      go : In a.from os ⊎ Final l os a.from → dist l a.to ≤ℤ (dist l a.from +ℤ a.rise)
      go (inl j) = absurd (none a.from j k)
      go (inr d) = d.leaves a i refl t

  module _ (l : List ℤ) (os : List ℕ) (o : Open l os) (m : Least (λ x. known (dist l x)) (λ x. dist l x -ℤ p x) os) where
    -- what the pass has changed lies no lower above the placing than the lowest open record
    record Above (h : List ℤ) (x : ℕ) : Type 0 where
      above : gap l m.v ≤ℤ gap h x
      less : dist h x <ℤ dist l x

    record During (h : List ℤ) : Type 0 where
      long : length h ≡ length l
      each : (x : ℕ) → x < length l → D x → (dist h x ≡ dist l x) ⊎ Above h x

    no_more : (h : List ℤ) (x : ℕ) → (dist h x ≡ dist l x) ⊎ Above h x → dist h x ≤ℤ dist l x
    no_more h x (inl e) = subst (λ (z : ℤ). z ≤ℤ dist l x) (sym e) (≤ℤ_refl (dist l x))
    no_more h x (inr b) = lt-le b.less

    -- v - p lies at or above c, and q at most w above p: so v + w - q does too
    raise : (c v p q w : ℤ) → c ≤ℤ (v -ℤ p) → q ≤ℤ (p +ℤ w) → c ≤ℤ ((v +ℤ w) -ℤ q)
    raise c v p q w h k = to_le (omega (arith, of_le h, of_le k, of_sub v p, of_add p w, of_add v w, of_sub (v +ℤ w) q))

    lowered : (a : Arc) → In a cs → (h : List ℤ) → During h → D a.to → a.from < length l → a.to < length l → known (dist h a.from) ≡ true
        → (dist h a.from +ℤ a.rise) <ℤ dist h a.to → gap l m.v ≤ℤ gap h a.from
    lowered a i h d g f t k b = go (d.each a.from f (closed a i g))
      where
        go : (dist h a.from ≡ dist l a.from) ⊎ Above h a.from → gap l m.v ≤ℤ gap h a.from
        go (inr c) = c.above
        go (inl e) = by (o.others a.from f (closed a i g))
          where
            by : In a.from os ⊎ Final l os a.from → gap l m.v ≤ℤ gap h a.from
            by (inl j) = subst (λ (z : ℤ). gap l m.v ≤ℤ (z -ℤ p a.from)) (sym e) (m.least a.from j (subst (λ (z : ℤ). known z ≡ true) e k))
            by (inr c) =
                let over : dist l a.to ≤ℤ (dist h a.from +ℤ a.rise) =
                subst (λ (z : ℤ). dist l a.to ≤ℤ (z +ℤ a.rise)) (sym e) (c.leaves a i refl t) in
                clash_ℤ (<ℤ-≤ℤ_trans b (no_more h a.to (d.each a.to t g))) over

    during_arc : (a : Arc) → In a cs → (s : State) → During s.0 → During (arc a s).0
    during_arc a i s d = lower_ind a s (λ r. During r.0) (λ _. d) put
      where
        put : a.from < length s.0 → a.to < length s.0 → known (dist s.0 a.from) ≡ true → (dist s.0 a.from +ℤ a.rise) <ℤ dist s.0 a.to
            → During (set s.0 a.to (dist s.0 a.from +ℤ a.rise))
        put f t k b = record { long = length-set s.0 a.to (dist s.0 a.from +ℤ a.rise) ∙ d.long; each = each }
          where
            f' : a.from < length l
            f' = subst (λ (n : ℕ). a.from < n) d.long f

            t' : a.to < length l
            t' = subst (λ (n : ℕ). a.to < n) d.long t

            new : ℤ
            new = dist s.0 a.from +ℤ a.rise

            low : D a.to → gap l m.v ≤ℤ (new -ℤ p a.to)
            low g = raise (gap l m.v) (dist s.0 a.from) (p a.from) (p a.to) a.rise (lowered a i s.0 d g f' t' k b) (keeps a i)

            less : D a.to → new <ℤ dist l a.to
            less g = <ℤ-≤ℤ_trans b (no_more s.0 a.to (d.each a.to t' g))

            made : (x : ℕ) (z : ℤ) → gap l m.v ≤ℤ (z -ℤ p x) → z <ℤ dist l x → dist (set s.0 a.to new) x ≡ z → Above (set s.0 a.to new) x
            made x z h k e = record { above = subst (λ (y : ℤ). gap l m.v ≤ℤ (y -ℤ p x)) (sym e) h; less = subst (λ (y : ℤ). y <ℤ dist l x) (sym e) k }

            kept : (x : ℕ) → dist (set s.0 a.to new) x ≡ dist s.0 x → (dist s.0 x ≡ dist l x) ⊎ Above s.0 x
                → (dist (set s.0 a.to new) x ≡ dist l x) ⊎ Above (set s.0 a.to new) x
            kept x e (inl c) = inl (e ∙ c)
            kept x e (inr c) = inr (made x (dist s.0 x) c.above c.less e)

            each : (x : ℕ) → x < length l → D x → (dist (set s.0 a.to new) x ≡ dist l x) ⊎ Above (set s.0 a.to new) x
            each x g w =
                set_ind s.0 a.to new t x (λ z. dist (set s.0 a.to new) x ≡ z
                → (dist (set s.0 a.to new) x ≡ dist l x) ⊎ Above (set s.0 a.to new) x)
                (λ e q. inr (made x new (subst (λ (y : ℕ). gap l m.v ≤ℤ (new -ℤ p y)) (sym e) (low (subst D e w)))
                (subst (λ (y : ℕ). new <ℤ dist l y) (sym e) (less (subst D e w))) q))
                (λ _ q. kept x q (d.each x g w)) refl

    during_run : (bs : List Arc) → ((a : Arc) → In a bs → In a cs) → (s : State) → During s.0 → During (run bs s).0
    during_run [] sub s d = d
    during_run (a ∷ bs) sub s d = during_run bs (λ b i. sub b (there i)) (arc a s) (during_arc a (sub a here) s d)

    -- a record that lies no higher than the lowest open one is not changed
    low_stays : (h : List ℤ) (x : ℕ) → (dist h x ≡ dist l x) ⊎ Above h x → gap l x ≤ℤ gap l m.v → dist h x ≡ dist l x
    low_stays h x (inl e) c = e
    low_stays h x (inr b) c =
        let wrong : dist l x ≤ℤ dist h x = to_le (omega (arith, of_le b.above, of_le c, of_sub (dist l x) (p x), of_sub (dist h x) (p x))) in
        clash_ℤ b.less wrong

    -- so the arcs that leave it hold after the pass
    leaves_run : (bs : List Arc) → ((a : Arc) → In a bs → In a cs) → (s : State)
        → During s.0 → (a : Arc) → In a bs → D a.from → a.from < length l → a.to < length l
        → known (dist l a.from) ≡ true → gap l a.from ≤ℤ gap l m.v → dist (run bs s).0 a.to ≤ℤ (dist l a.from +ℤ a.rise)
    leaves_run [] sub s d a x8 g f t k c = elim x8 [ ]
    leaves_run (b ∷ bs) sub s d a (there i) g f t k c = leaves_run bs (λ e j. sub e (there j)) (arc b s) (during_arc b (sub b here) s d) a i g f t k c
    leaves_run (b ∷ bs) sub s d a here w f t k c = ≤ℤ-trans (run_down bs (arc a s) a.to) now
      where
        same : dist s.0 a.from ≡ dist l a.from
        same = low_stays s.0 a.from (d.each a.from f w) c

        now : dist (arc a s).0 a.to ≤ℤ (dist l a.from +ℤ a.rise)
        now = subst (λ (z : ℤ). dist (arc a s).0 a.to ≤ℤ (z +ℤ a.rise)) same
            (lower_ind a s (λ r. dist r.0 a.to ≤ℤ (dist s.0 a.from +ℤ a.rise))
            (λ h. h (subst (λ (n : ℕ). a.from < n) (sym d.long) f) (subst (λ (n : ℕ). a.to < n) (sym d.long) t)
            (subst (λ (z : ℤ). known z ≡ true) (sym same) k))
            (λ _ g _ _. set_ind s.0 a.to (dist s.0 a.from +ℤ a.rise) g a.to
            (λ z. z ≤ℤ (dist s.0 a.from +ℤ a.rise)) (λ _. ≤ℤ_refl (dist s.0 a.from +ℤ a.rise)) (λ n. absurd (n refl))))

    pub one_final : (c : Bool) → Open (run cs (l, c)).0 (out m.v os m.member)
    one_final c =
        record {
          inside = λ y i. let e = o.inside y (out_less m.v os m.member y i) in (subst (λ (n : ℕ). y < n) (sym d.long) e.0, e.1);
          others = λ x g. others x (subst (λ (n : ℕ). x < n) d.long g);
        }
      where
        end : List ℤ
        end = (run cs (l, c)).0

        d : During (run cs (l, c)).0
        d = during_run cs (λ a i. i) (l, c) (record { long = refl; each = λ x _ _. inl refl })

        rest : List ℕ
        rest = out m.v os m.member

        final : (x : ℕ) → x < length l → D x → known (dist l x) ≡ true → gap l x ≤ℤ gap l m.v → Final (run cs (l, c)).0 (out m.v os m.member) x
        final x g w k h = record { is_known = subst (λ (z : ℤ). known z ≡ true) (sym same) k; leaves = leaves; lowest = lowest }
          where
            same : dist (run cs (l, c)).0 x ≡ dist l x
            same = low_stays (run cs (l, c)).0 x (d.each x g w) h

            leaves : (a : Arc) → In a cs → a.from ≡ x → a.to < length (run cs (l, c)).0
                → dist (run cs (l, c)).0 a.to ≤ℤ (dist (run cs (l, c)).0 x +ℤ a.rise)
            leaves a i e t =
                subst (λ (z : ℤ). dist (run cs (l, c)).0 a.to ≤ℤ (z +ℤ a.rise)) (sym (same))
                (subst (λ (y : ℕ). dist (run cs (l, c)).0 a.to ≤ℤ (dist l y +ℤ a.rise)) e
                (leaves_run cs (λ a i. i) (l, c) (record { long = refl; each = λ x _ _. inl refl }) a i
                (subst D (sym e) w) (subst (λ (y : ℕ). y < length l) (sym e) g) (subst (λ (n : ℕ). a.to < n) d.long t)
                (subst (λ (y : ℕ). known (dist l y) ≡ true) (sym e) k) (subst (λ (y : ℕ). gap l y ≤ℤ gap l m.v) (sym e) h)))

            lowest : (y : ℕ) → In y (out m.v os m.member) → known (dist (run cs (l, c)).0 y) ≡ true
                → gap (run cs (l, c)).0 x ≤ℤ gap (run cs (l, c)).0 y
            lowest y i q =
                subst (λ (z : ℤ). (z -ℤ p x) ≤ℤ gap (run cs (l, c)).0 y) (sym same) (≤ℤ-trans h (go (d.each y (o.inside y j).0 (o.inside y j).1)))
              where
                j : In y os
                j = out_less m.v os m.member y i

                go : (dist (run cs (l, c)).0 y ≡ dist l y) ⊎ Above (run cs (l, c)).0 y → gap l m.v ≤ℤ gap (run cs (l, c)).0 y
                go (inr b) = b.above
                go (inl e) = subst (λ (z : ℤ). gap l m.v ≤ℤ (z -ℤ p y)) (sym e) (m.least y j (subst (λ (z : ℤ). known z ≡ true) e q))

        others : (x : ℕ) → x < length l → D x → In x (out m.v os m.member) ⊎ Final (run cs (l, c)).0 (out m.v os m.member) x
        others x g w = go (o.others x g w)
          where
            go : In x os ⊎ Final l os x → In x (out m.v os m.member) ⊎ Final (run cs (l, c)).0 (out m.v os m.member) x
            go (inr f) = inr (final x g w f.is_known (f.lowest m.v m.member m.passes))
            go (inl i) = by (out_others m.v os m.member x i)
              where
                by : (x ≡ m.v) ⊎ In x (out m.v os m.member) → In x (out m.v os m.member) ⊎ Final (run cs (l, c)).0 (out m.v os m.member) x
                by (inr j) = inl j
                by (inl e) =
                    inr (final x g w (subst (λ (y : ℕ). known (dist l y) ≡ true) (sym e) m.passes)
                    (subst (λ (y : ℕ). gap l y ≤ℤ gap l m.v) (sym e) (≤ℤ_refl (gap l m.v))))

  abbrev NoneKnown : List ℤ → List ℕ → Type 0
  NoneKnown l os = (y : ℕ) → In y os → known (dist l y) ≡ true → ⊥

  -- where no open record of these is known, a pass changes none of these
  module _ (l : List ℤ) (os : List ℕ) (o : Open l os) (none : NoneKnown l os) where
    abbrev Same : List ℤ → Type 0
    Same h = (length h ≡ length l) × ((x : ℕ) → x < length l → D x → dist h x ≡ dist l x)

    same_arc : (a : Arc) → In a cs → (s : State) → Same s.0 → Same (arc a s).0
    same_arc a i s e = lower_ind a s (λ r. Same r.0) (λ _. e) (λ f t k b. (
      length-set s.0 a.to (dist s.0 a.from +ℤ a.rise) ∙ e.0,
      λ x g w. set_ind s.0 a.to (dist s.0 a.from +ℤ a.rise) t x (λ z. z ≡ dist l x) (λ q. absurd (wrong f t k b (subst D q w))) (λ _. e.1 x g w),
    ))
      where
        wrong : a.from < length s.0 → a.to < length s.0 → known (dist s.0 a.from) ≡ true
            → (dist s.0 a.from +ℤ a.rise) <ℤ dist s.0 a.to → D a.to → ⊥
        wrong f t k b w =
            let f' = subst (λ (n : ℕ). a.from < n) e.0 f in
            let t' = subst (λ (n : ℕ). a.to < n) e.0 t in
            let ef = e.1 a.from f' (closed a i w) in
            let h = none_open l os o none a i (closed a i w) f' t' (subst (λ (z : ℤ). known z ≡ true) ef k) in
            clash_ℤ b (subst (λ (z : ℤ). z ≤ℤ (dist s.0 a.from +ℤ a.rise))
            (sym (e.1 a.to t' w)) (subst (λ (z : ℤ). dist l a.to ≤ℤ (z +ℤ a.rise)) (sym ef) h))

    same_run : (bs : List Arc) → ((a : Arc) → In a bs → In a cs) → (s : State) → Same s.0 → Same (run bs s).0
    same_run [] sub s e = e
    same_run (a ∷ bs) sub s e = same_run bs (λ b i. sub b (there i)) (arc a s) (same_arc a (sub a here) s e)

    pub none_stays : (c : Bool) → Open (run cs (l, c)).0 os × NoneKnown (run cs (l, c)).0 os
    none_stays c = (
      record {
        inside = λ y i. let h = o.inside y i in (subst (λ (n : ℕ). y < n) (sym e.0) h.0, h.1);
        others = λ x g. others x (subst (λ (n : ℕ). x < n) e.0 g);
      },
      still,
    )
      where
        e : Same (run cs (l, c)).0
        e = same_run cs (λ a i. i) (l, c) (refl, λ x _ _. refl)

        still : NoneKnown (run cs (l, c)).0 os
        still y i k = let h = o.inside y i in none y i (subst (λ (z : ℤ). known z ≡ true) (e.1 y h.0 h.1) k)

        others : (x : ℕ) → x < length l → D x → In x os ⊎ Final (run cs (l, c)).0 os x
        others x g w = go (o.others x g w)
          where
            go : In x os ⊎ Final l os x → In x os ⊎ Final (run cs (l, c)).0 os x
            go (inl i) = inl i
            go (inr f) = inr (record {
              is_known = subst (λ (z : ℤ). known z ≡ true) (sym (e.1 x g w)) f.is_known;
              leaves =
                  λ a i q t. subst (λ (z : ℤ). dist (run cs (l, c)).0 a.to ≤ℤ (z +ℤ a.rise)) (sym (e.1 x g w))
                  (≤ℤ-trans (run_down cs (l, c) a.to) (f.leaves a i q (subst (λ (n : ℕ). a.to < n) e.0 t)));
              lowest = λ y i k. absurd (still y i k);
            })

-- ---- passes until one changes nothing, at most k of them
abbrev pub one_pass : List Arc → State → State
one_pass cs s = run cs (s.0, false)

abbrev pub passes : ℕ → List Arc → State → State
passes zero cs s = s
passes (suc k) cs s = pick (one_pass cs s).1 (passes k cs (one_pass cs s)) (one_pass cs s)

-- the n numbers from o on
abbrev pub span : ℕ → ℕ → List ℕ
span o zero = []
span o (suc n) = (o + n) ∷ span o n

pub span_length : (o n : ℕ) → length (span o n) ≡ n
span_length o zero = refl
span_length o (suc n) = ap suc (span_length o n)

pub span_in : (o n x : ℕ) → In x (span o n) → (o ≤ x) × (x < o + n)
span_in o zero x h = absurd (in_none h refl)
span_in o (suc n) x here = (omega arith, omega arith)
span_in o (suc n) x (there h) = let k = span_in o n x h in (k.0, omega (arith, k.1))

pub span_all : (o n x : ℕ) → o ≤ x → x < o + n → In x (span o n)
span_all o zero x g h = absurd (let none : 1 ≤ 0 = omega (arith, g, h) in not-suc-le-zero none)
span_all o (suc n) x g h = go (dec_lt x (o + n)) (λ k. span_all o n x g k)
  where
    go : Dec (x < o + n) → (x < o + n → In x (span o n)) → In x ((o + n) ∷ span o n)
    go (yes k) f = there (f k)
    go (no k) f = let e : x ≡ o + n = omega (arith, h, k) in subst (λ (y : ℕ). In x (y ∷ span o n)) e here

-- ---- records in parts that no arc joins: each part makes one record final in each pass
module _ (p : Placing) (cs : List Arc) (keeps : Keeps p cs) (I : Type 0) (D : I → ℕ → Type 0)
    (closed : (j : I) (a : Arc) → In a cs → D j a.to → D j a.from) (part : (a : Arc) → In a cs → (j : I) × D j a.from) where
  abbrev OpenAt : I → List ℤ → List ℕ → Type 0
  OpenAt j l os = Open p cs keeps (D j) (closed j) l os

  abbrev None : List ℤ → List ℕ → Type 0
  None l os = (y : ℕ) → In y os → known (dist l y) ≡ true → ⊥

  -- what is left of a part: at most k open records, or none of them is known
  pub record Left (k : ℕ) (l : List ℤ) (j : I) : Type 0 where
    pub os : List ℕ
    pub opened : OpenAt j l os
    pub few : (length os ≤ k) ⊎ None l os

  no_member : (v : ℕ) (os : List ℕ) → In v os → length os ≤ 0 → ⊥
  no_member v os i h = let e = out_length v os i in let none : 1 ≤ 0 = omega (arith, e, h) in not-suc-le-zero none

  left_zero : (l : List ℤ) (j : I) (r : Left 0 l j) → None l r.os
  left_zero l j r = go r.few
    where
      go : (length r.os ≤ 0) ⊎ None l r.os → None l r.os
      go (inl h) = λ y i k. no_member y r.os i h
      go (inr n) = n

  left_less : (k : ℕ) (s : State) (j : I) → Left (suc k) s.0 j → Left k (run cs (s.0, false)).0 j
  left_less k s j r = go r.few
    where
      still : None s.0 r.os → Left k (run cs (s.0, false)).0 j
      still n = let q = none_stays p cs keeps (D j) (closed j) s.0 r.os r.opened n false in record { os = r.os; opened = q.0; few = inr q.1 }

      by : length r.os ≤ suc k → (None s.0 r.os) ⊎ Least (λ x. known (dist s.0 x)) (λ x. dist s.0 x -ℤ p x) r.os
          → Left k (run cs (s.0, false)).0 j
      by h (inl n) = still n
      by h (inr m) = record {
        os = out m.v r.os m.member;
        opened = one_final p cs keeps (D j) (closed j) s.0 r.os r.opened m false;
        few = inl (let e = out_length m.v r.os m.member in omega (arith, e, h));
      }

      go : (length r.os ≤ suc k) ⊎ None s.0 r.os → Left k (run cs (s.0, false)).0 j
      go (inr n) = still n
      go (inl h) = by h (search_least (λ x. known (dist s.0 x)) (λ x. dist s.0 x -ℤ p x) r.os)

  settles_case : (k : ℕ) (s : State) (b : Bool) → (one_pass cs s).1 ≡ b
      → (b ≡ true → (passes k cs (one_pass cs s)).1 ≡ false) → (pick b (passes k cs (one_pass cs s)) (one_pass cs s)).1 ≡ false
  settles_case k s true e f = f refl
  settles_case k s false e f = e

  pub passes_settle : (k : ℕ) (s : State) → ((j : I) → Left k s.0 j) → (passes (suc k) cs s).1 ≡ false
  passes_settle zero s r = settles_case zero s (one_pass cs s).1 refl (λ e.
      let q : (one_pass cs s).1 ≡ false = ap (λ (x : State). x.1) (holds_quiet cs (s.0, false) (λ a i. let g = part a i in
      none_open p cs keeps (D g.0) (closed g.0) s.0 (r g.0).os (r g.0).opened (left_zero s.0 g.0 (r g.0)) a i g.1)) in
      absurd (true≢false (sym e ∙ q)))
  passes_settle (suc k) s r = settles_case (suc k) s (one_pass cs s).1 refl (λ e. passes_settle k (one_pass cs s) (λ j. left_less k s j (r j)))
