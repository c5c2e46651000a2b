-- `lower` of `specs/Relax.antt` on each way through the code: where it stops, and where it stores.
-- A value that the code reads from its bits is `to_z w64 (of_z w64 z)`: each law takes the facts as the code's tests leave them.
--   no_from, no_to     a record past the end: nothing is done
--   too_low, too_high  a distance that is not known: nothing is done
--   sum_fits           the sum of a known distance and a limit fits 64 bits
--   stored, stayed     the sum is lower, and is stored; it is not, and nothing is done
--   pair, both         the two arcs of a tie, one after the other
--   all_three          the same in all three parts
-- Assumes nothing.
use mathlib.Core.Path.{◌≡◌, sym, ◌∙◌, ap, subst}
use Prim.Native.Nat.{ℕ, ◌+◌, ◌*◌, ◌≤◌, ◌<◌, ◌^◌}
use native.Mathlib.Omega.{arith}
use mathlib.Core.Bool.{Bool, true, false}
use mathlib.Core.List.{List}
use lib.IntN.{ℤ, pos, negsuc, ◌+ℤ◌}
use lib.ListN.{length, set}
use lib.Signed.{mag, lt_z, le_z}
use mir.Syntax.{w32, w64}
use mir.Val.{SFits, to_z, of_z}
use borrow.Author.Tests.{lt-ltb, le-ltb}
use Rattle.offsets.specs.Relax.{State, dist, lower, third, relaxed}
use Rattle.offsets.proofs.IntegerLaws.{bits_back, mag_add, within, under, over, wide, wide_is, minus, minus_is}

module _ (from to : ℕ) (w : ℤ) (l : List ℤ) (c : Bool) where
  -- the distance of `from`, as the code reads it
  abbrev a : ℤ
  a = to_z w64 (of_z w64 (dist l from))

  abbrev sum : ℤ
  sum = to_z w64 (of_z w64 (a +ℤ to_z w64 (of_z w64 w)))

  pub no_from : length l ≤ from → ◌≡◌ {A = State} (l, c) (lower from to w (l, c))
  unfolding lower
  no_from h = rw (le-ltb _ _ h)

  pub no_to : from < length l → length l ≤ to → ◌≡◌ {A = State} (l, c) (lower from to w (l, c))
  unfolding lower
  no_to f h = rw (lt-ltb _ _ f, le-ltb _ _ h)

  module _ (f : from < length l) (t : to < length l) (fa : mag (dist l from) < 2 ^ 63) where
    not_known : 2 ^ 62 ≤ mag (dist l from) → ◌≡◌ {A = State} (l, c) (lower from to w (l, c))
    unfolding lower
    not_known k = rw (lt-ltb _ _ f, lt-ltb _ _ t, le-ltb _ _ k)

    pub too_low : lt_z a (negsuc 4611686018427387903) ≡ true → ◌≡◌ {A = State} (l, c) (lower from to w (l, c))
    too_low e =
        not_known (under (dist l from) 4611686018427387903 (subst (λ (z : ℤ). lt_z z (negsuc 4611686018427387903) ≡ true) (bits_back w64 (dist l from) fa) e))

    pub too_high : le_z (pos 4611686018427387904) a ≡ true → ◌≡◌ {A = State} (l, c) (lower from to w (l, c))
    too_high e =
        not_known (over (dist l from) 4611686018427387904 (subst (λ (z : ℤ). le_z (pos 4611686018427387904) z ≡ true) (bits_back w64 (dist l from) fa) e))

    module _ (lo : lt_z a (negsuc 4611686018427387903) ≡ false) (hi : le_z (pos 4611686018427387904) a ≡ false) (fw : mag w ≤ 2 ^ 31) where
      is_known : mag (dist l from) < 2 ^ 62
      is_known = within (dist l from) 4611686018427387903
          (subst (λ (z : ℤ). lt_z z (negsuc 4611686018427387903) ≡ false) (bits_back w64 (dist l from) fa) lo)
          (subst (λ (z : ℤ). le_z (pos 4611686018427387904) z ≡ false) (bits_back w64 (dist l from) fa) hi)

      w_is : to_z w64 (of_z w64 w) ≡ w
      w_is = bits_back w64 w (omega (arith, fw))

      a_is : a ≡ dist l from
      a_is = bits_back w64 (dist l from) fa

      bound : mag (dist l from +ℤ w) < 2 ^ 63
      bound = omega (arith, mag_add (dist l from) w, is_known, fw)

      plain : a +ℤ to_z w64 (of_z w64 w) ≡ dist l from +ℤ w
      plain = ap (λ (z : ℤ). z +ℤ to_z w64 (of_z w64 w)) a_is ∙ ap (λ (z : ℤ). dist l from +ℤ z) w_is

      pub sum_fits : SFits w64 (a +ℤ to_z w64 (of_z w64 w))
      sum_fits = record { sfits = subst (λ (z : ℤ). mag z < 2 ^ 63) (sym plain) bound }

      sum_is : sum ≡ dist l from +ℤ w
      sum_is = bits_back w64 (a +ℤ to_z w64 (of_z w64 w)) sum_fits.sfits ∙ plain

      module _ (fb : mag (dist l to) < 2 ^ 63) where
        test_is : (u : Bool) → lt_z sum (to_z w64 (of_z w64 (dist l to))) ≡ u → lt_z (dist l from +ℤ w) (dist l to) ≡ u
        test_is u e =
            ap (λ (z : ℤ). lt_z (dist l from +ℤ w) z) (sym (bits_back w64 (dist l to) fb))
            ∙ ap (λ (z : ℤ). lt_z z (to_z w64 (of_z w64 (dist l to)))) (sym sum_is) ∙ e

        pub stored : lt_z sum (to_z w64 (of_z w64 (dist l to))) ≡ true → ◌≡◌ {A = State} (set l to sum, true) (lower from to w (l, c))
        unfolding lower
        stored e = rw (lt-ltb _ _ f, lt-ltb _ _ t, lt-ltb _ _ is_known, test_is true e, sum_is)

        pub stayed : lt_z sum (to_z w64 (of_z w64 (dist l to))) ≡ false → ◌≡◌ {A = State} (l, c) (lower from to w (l, c))
        unfolding lower
        stayed e = rw (lt-ltb _ _ f, lt-ltb _ _ t, lt-ltb _ _ is_known, test_is false e)

-- two calls of `lower`, one after the other
abbrev pub pair : ℕ → ℕ → ℕ → ℤ → ℤ → State → State
pair o a b u w s = lower (o + b) (o + a) w (lower (o + a) (o + b) u s)

pub both : (o a b : ℕ) (u w : ℤ) (s s₁ s₂ : State) → SFits w64 u → SFits w64 w
    → s₁ ≡ lower (o + a) (o + b) (to_z w64 (of_z w64 u)) s → s₂ ≡ lower (o + b) (o + a) (to_z w64 (of_z w64 w)) s₁ → s₂ ≡ pair o a b u w s
both o a b u w s s₁ s₂ fu fw e₁ e₂ =
    e₂ ∙ ap (λ (z : ℤ). lower (o + b) (o + a) z s₁) (bits_back w64 w fw.sfits)
    ∙ ap (lower (o + b) (o + a) w) (e₁ ∙ ap (λ (z : ℤ). lower (o + a) (o + b) z s) (bits_back w64 u fu.sfits))

-- three of these, at the numbers as the code has them, are `relaxed`
pub all_three : (n first second : ℕ) (least most : ℤ) (s s₁ s₂ s₃ : State)
    → SFits w32 least → SFits w32 most → s₁ ≡ pair 0 first second (wide most) (minus least) s
    → s₂ ≡ pair n first second (wide most) (minus least) s₁ → s₃ ≡ pair (n * 2) second first (wide most) (minus least) s₂
    → s₃ ≡ relaxed n first second least most s
unfolding relaxed third
all_three n first second least most s s₁ s₂ s₃ fl fm e₁ e₂ e₃ =
    e₃ ∙ ap (pair (n * 2) second first (wide most) (minus least)) (e₂ ∙ ap (pair n first second (wide most) (minus least)) e₁)
    ∙ ap (λ (u : ℤ). all u (minus least)) (wide_is most fm) ∙ ap (λ (w : ℤ). all most w) (minus_is least fl)
  where
    all : ℤ → ℤ → State
    all u w = pair (n * 2) second first u w (pair n first second u w (pair 0 first second u w s))
