-- The numbers against the base and the ties, on each way through the code. A signed number that the code reads from its bits is `to_z w32 (of_z w32 z)`.
--   sooner_none, sooner_alone, sooner_second, sooner_first
--                  the sooner of two numbers
--   three_record, three_withdrawn, three_tie, three_none
--                  the first of the causes 2, 18 and 19
--   base_record, base_withdrawn, base_many, base_none
--                  against the base and the number of ties: 2, 18, 19, none
--   no_first, no_second, first_withdrawn, second_withdrawn, too_low, too_high, crossed, no_cause
--                  against a tie: 2 or 18 for either record, 19 for its limits, none
--   tie_back       a tie whose limits were handed on as bits is the tie
-- Assumes nothing.
use mathlib.Core.Path.{◌≡◌, refl, sym, ap, subst, ◌∙◌}
use mathlib.Core.Bool.{Bool, true, false, ◌||◌}
use mathlib.Core.List.{List}
use Prim.Native.Nat.{ℕ, zero, suc, ◌≤◌, ◌<◌}
use native.Mathlib.Omega.{arith}
use lib.Dec.{leb, ltb}
use lib.IntN.{ℤ, pos, negsuc}
use lib.Signed.{lt_z}
use mir.Syntax.{w32}
use mir.Val.{SFits, to_z, of_z}
use borrow.Author.Tests.{le-leb, lt-leb, lt-ltb, le-ltb}
use Rattle.book.specs.Causes.{number, first_number}
use Rattle.book.specs.Basics.{pick}
use Rattle.offsets.specs.declared.Tie.{Tie}
use Rattle.offsets.specs.Answers.{max_ties, outside}
use Rattle.offsets.specs.Inner.{is_withdrawn_in, sooner, three, tie_number, base_number}
use Rattle.offsets.proofs.IntegerLaws.{bits_back}

-- ---- the sooner of two
pub sooner_none : (a b : ℕ) → a ≡ 0 → b ≡ sooner a b
unfolding sooner
sooner_none a b e = subst (λ (z : ℕ). b ≡ sooner z b) (sym e) refl

pub sooner_alone : (a b : ℕ) → (a ≡ 0 → ⊥) → b ≡ 0 → a ≡ sooner a b
unfolding sooner
sooner_alone zero b n e = absurd (n refl)
sooner_alone (suc a) b n e = subst (λ (z : ℕ). suc a ≡ sooner (suc a) z) (sym e) refl

pub sooner_second : (a b : ℕ) → (a ≡ 0 → ⊥) → (b ≡ 0 → ⊥) → b < a → b ≡ sooner a b
unfolding sooner
sooner_second zero b n m h = absurd (n refl)
sooner_second (suc a) zero n m h = absurd (m refl)
sooner_second (suc a) (suc b) n m h = sym (ap (λ (t : Bool). pick t (suc b) (suc a)) (lt-ltb b a (omega (arith, h))))

pub sooner_first : (a b : ℕ) → (a ≡ 0 → ⊥) → (b ≡ 0 → ⊥) → a ≤ b → a ≡ sooner a b
unfolding sooner
sooner_first zero b n m h = absurd (n refl)
sooner_first (suc a) zero n m h = absurd (m refl)
sooner_first (suc a) (suc b) n m h = sym (ap (λ (t : Bool). pick t (suc b) (suc a)) (le-ltb b a (omega (arith, h))))

-- ---- the first of the three
pub three_record : (a b c : Bool) → a ≡ true → 2 ≡ three a b c
unfolding three first_number number
three_record a b c e = sym (ap (λ (t : Bool). three t b c) e)

pub three_withdrawn : (a b c : Bool) → a ≡ false → b ≡ true → 18 ≡ three a b c
unfolding three first_number number
three_withdrawn a b c e f = sym (ap (λ (t : Bool). three t b c) e ∙ ap (λ (t : Bool). three false t c) f)

pub three_tie : (a b c : Bool) → a ≡ false → b ≡ false → c ≡ true → 19 ≡ three a b c
unfolding three first_number number
three_tie a b c e f g = sym (ap (λ (t : Bool). three t b c) e ∙ ap (λ (t : Bool). three false t c) f ∙ ap (λ (t : Bool). three false false t) g)

pub three_none : (a b c : Bool) → a ≡ false → b ≡ false → c ≡ false → 0 ≡ three a b c
unfolding three first_number number
three_none a b c e f g = sym (ap (λ (t : Bool). three t b c) e ∙ ap (λ (t : Bool). three false t c) f ∙ ap (λ (t : Bool). three false false t) g)

or_left : (a b : Bool) → a ≡ true → (a || b) ≡ true
or_left a b e = ap (λ (t : Bool). t || b) e

or_right : (a b : Bool) → a ≡ false → b ≡ true → (a || b) ≡ true
or_right a b e f = ap (λ (t : Bool). t || b) e ∙ f

or-none : (a b : Bool) → a ≡ false → b ≡ false → (a || b) ≡ false
or-none a b e f = ap (λ (t : Bool). t || b) e ∙ f

-- ---- against the base
module _ (n : ℕ) (ms : List ℕ) (base count : ℕ) where
  pub base_record : n ≤ base → 2 ≡ base_number n ms base count
  unfolding base_number
  base_record h = three_record (leb n base) (is_withdrawn_in ms base) (ltb max_ties count) (le-leb n base h)

  module _ (h : base < n) where
    pub base_withdrawn : is_withdrawn_in ms base ≡ true → 18 ≡ base_number n ms base count
    unfolding base_number
    base_withdrawn e = three_withdrawn (leb n base) (is_withdrawn_in ms base) (ltb max_ties count) (lt-leb n base h) e

    pub base_many : is_withdrawn_in ms base ≡ false → max_ties < count → 19 ≡ base_number n ms base count
    unfolding base_number
    base_many e m = three_tie (leb n base) (is_withdrawn_in ms base) (ltb max_ties count) (lt-leb n base h) e (lt-ltb max_ties count m)

    pub base_none : is_withdrawn_in ms base ≡ false → count ≤ max_ties → 0 ≡ base_number n ms base count
    unfolding base_number
    base_none e m = three_none (leb n base) (is_withdrawn_in ms base) (ltb max_ties count) (lt-leb n base h) e (le-ltb max_ties count m)

-- ---- against a tie
module _ (n : ℕ) (ms : List ℕ) (first second : ℕ) (least most : ℤ) where
  abbrev t : Tie
  t = record { first = first; second = second; least = least; most = most }

  -- the three tests
  abbrev R : Bool
  R = leb n first || leb n second

  abbrev M : Bool
  M = is_withdrawn_in ms first || is_withdrawn_in ms second

  abbrev low : Bool
  low = lt_z least (negsuc 19999)

  abbrev high : Bool
  high = lt_z (pos 20000) most

  abbrev cross : Bool
  cross = lt_z most least

  pub no_first : n ≤ first → 2 ≡ tie_number n ms t
  unfolding tie_number
  no_first h = three_record R M (outside t) (or_left (leb n first) (leb n second) (le-leb n first h))

  module _ (f : first < n) where
    pub no_second : n ≤ second → 2 ≡ tie_number n ms t
    unfolding tie_number
    no_second h = three_record R M (outside t) (or_right (leb n first) (leb n second) (lt-leb n first f) (le-leb n second h))

    module _ (s : second < n) where
      here : R ≡ false
      here = or-none (leb n first) (leb n second) (lt-leb n first f) (lt-leb n second s)

      pub first_withdrawn : is_withdrawn_in ms first ≡ true → 18 ≡ tie_number n ms t
      unfolding tie_number
      first_withdrawn e = three_withdrawn R M (outside t) here (or_left (is_withdrawn_in ms first) (is_withdrawn_in ms second) e)

      module _ (u : is_withdrawn_in ms first ≡ false) where
        pub second_withdrawn : is_withdrawn_in ms second ≡ true → 18 ≡ tie_number n ms t
        unfolding tie_number
        second_withdrawn e = three_withdrawn R M (outside t) here (or_right (is_withdrawn_in ms first) (is_withdrawn_in ms second) u e)

        module _ (v : is_withdrawn_in ms second ≡ false) (fl : SFits w32 least) (fm : SFits w32 most) where
          used : M ≡ false
          used = or-none (is_withdrawn_in ms first) (is_withdrawn_in ms second) u v

          low-is : (b : Bool) → lt_z (to_z w32 (of_z w32 least)) (negsuc 19999) ≡ b → low ≡ b
          low-is b e = ap (λ (z : ℤ). lt_z z (negsuc 19999)) (sym (bits_back w32 least fl.sfits)) ∙ e

          high_is : (b : Bool) → lt_z (pos 20000) (to_z w32 (of_z w32 most)) ≡ b → high ≡ b
          high_is b e = ap (λ (z : ℤ). lt_z (pos 20000) z) (sym (bits_back w32 most fm.sfits)) ∙ e

          cross_is : (b : Bool) → lt_z (to_z w32 (of_z w32 most)) (to_z w32 (of_z w32 least)) ≡ b → cross ≡ b
          cross_is b e =
              ap (λ (z : ℤ). lt_z z least) (sym (bits_back w32 most fm.sfits))
              ∙ ap (λ (z : ℤ). lt_z (to_z w32 (of_z w32 most)) z) (sym (bits_back w32 least fl.sfits)) ∙ e

          out : (b : Bool) → (low || (high || cross)) ≡ b → outside t ≡ b
          unfolding outside
          out b e = e

          pub too_low : lt_z (to_z w32 (of_z w32 least)) (negsuc 19999) ≡ true → 19 ≡ tie_number n ms t
          unfolding tie_number
          too_low e = three_tie R M (outside t) here used (out true (or_left low (high || cross) (low-is true e)))

          module _ (lo : lt_z (to_z w32 (of_z w32 least)) (negsuc 19999) ≡ false) where
            pub too_high : lt_z (pos 20000) (to_z w32 (of_z w32 most)) ≡ true → 19 ≡ tie_number n ms t
            unfolding tie_number
            too_high e = three_tie R M (outside t) here used (out true (or_right low (high || cross) (low-is false lo) (or_left high cross (high_is true e))))

            module _ (hi : lt_z (pos 20000) (to_z w32 (of_z w32 most)) ≡ false) where
              pub crossed : lt_z (to_z w32 (of_z w32 most)) (to_z w32 (of_z w32 least)) ≡ true → 19 ≡ tie_number n ms t
              unfolding tie_number
              crossed e =
                  three_tie R M (outside t) here used
                  (out true (or_right low (high || cross) (low-is false lo) (or_right high cross (high_is false hi) (cross_is true e))))

              pub no_cause : lt_z (to_z w32 (of_z w32 most)) (to_z w32 (of_z w32 least)) ≡ false → 0 ≡ tie_number n ms t
              unfolding tie_number
              no_cause e =
                  three_none R M (outside t) here used
                  (out false (or-none low (high || cross) (low-is false lo) (or-none high cross (high_is false hi) (cross_is false e))))

-- a tie whose limits were handed on as bits is the tie
pub tie_back : (n : ℕ) (ms : List ℕ) (first second : ℕ) (least most : ℤ) → SFits w32 least → SFits w32 most
    → tie_number n ms (record { first = first; second = second; least = to_z w32 (of_z w32 least); most = to_z w32 (of_z w32 most) })
    ≡ tie_number n ms (record { first = first; second = second; least = least; most = most })
tie_back n ms first second least most fl fm =
    ap (λ (z : ℤ). tie_number n ms (record { first = first; second = second; least = z; most = to_z w32 (of_z w32 most) })) (bits_back w32 least fl.sfits)
    ∙ ap (λ (z : ℤ). tie_number n ms (record { first = first; second = second; least = least; most = z })) (bits_back w32 most fm.sfits)
