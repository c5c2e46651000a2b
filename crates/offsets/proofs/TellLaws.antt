-- The two words of a record, on each way through the code. A value that the code reads from its bits is `to_z w64 (of_z w64 z)`: each law takes the facts as
-- the
-- code's tests leave them.
--   least_low, least_high, most_low, most_high
--                         a distance out of range is of a free record: its words are 1 and 0
--   most_narrowed         the most, from a distance in range
--   least_below, least_above, sub-fits, least_narrowed
--                         the least: out of range below or above, or the distance with its sign changed, which fits
--   narrow_low, narrow_high, narrow_fits, narrow_is
--                         a number that fits 32 bits is not cut
--   told_none, told_more  the words of no record, and of one more
--   past_same             the words past those of n records stay
-- Assumes nothing.
use mathlib.Core.Path.{◌≡◌, sym, ◌∙◌, ap, subst}
use Prim.Native.Nat.{ℕ, zero, suc, ◌+◌, ◌*◌, ◌≤◌, ◌<◌, ◌^◌}
use native.Mathlib.Nat.{not-suc-le-zero}
use native.Mathlib.Omega.{arith}
use mathlib.Core.Bool.{Bool, true, false}
use mathlib.Core.List.{List}
use lib.IntN.{ℤ, pos, negsuc, neg_ℤ, ◌-ℤ◌}
use lib.ListN.{length, set, drop, length-set}
use lib.Seq.{drop-set-lt}
use lib.Signed.{mag, lt_z, le_z}
use mir.Syntax.{w32, w64}
use mir.Val.{SFits, to_z, of_z}
use borrow.Author.Tests.{lt-ltb, le-ltb}
use Rattle.offsets.proofs.LinearLaws.{to_eq, of_sub, of_pos, of_neg_up, of_neg_down}
use Rattle.offsets.specs.Relax.{known, dist}
use Rattle.offsets.specs.Thirds.{choose}
use Rattle.offsets.proofs.ArcLaws.{set_ind}
use Rattle.offsets.specs.Finds.{least-word, most-word, Told, Fits}
use Rattle.offsets.proofs.IntegerLaws.{bits_back, mag-neg, within, under, over}

mag_of_neg : (z : ℤ) → mag z ≤ mag (neg_ℤ z) + 1
mag_of_neg (pos zero) = omega arith
mag_of_neg (pos (suc n)) = omega arith
mag_of_neg (negsuc n) = omega arith

minus_neg : (z : ℤ) → pos 0 -ℤ z ≡ neg_ℤ z
minus_neg z = let v = of_pos 0 in to_eq (pos 0 -ℤ z) (neg_ℤ z) (omega (arith, of_sub (pos 0) z, of_neg_up z, of_neg_down z, v.0, v.1))

module _ (n x : ℕ) (l : List ℤ) (fa : mag (dist l (n + x)) < 2 ^ 63) where
  abbrev a : ℤ
  a = to_z w64 (of_z w64 (dist l (n + x)))

  a_is : a ≡ dist l (n + x)
  a_is = bits_back w64 (dist l (n + x)) fa

  too_low : lt_z a (negsuc 4611686018427387903) ≡ true → known (dist l (n + x)) ≡ false
  too_low e =
      le-ltb (mag (dist l (n + x))) (2 ^ 62) (under (dist l (n + x)) 4611686018427387903 (subst (λ (z : ℤ). lt_z z (negsuc 4611686018427387903) ≡ true) a_is e))

  too_high : le_z (pos 4611686018427387904) a ≡ true → known (dist l (n + x)) ≡ false
  too_high e =
      le-ltb (mag (dist l (n + x))) (2 ^ 62) (over (dist l (n + x)) 4611686018427387904 (subst (λ (z : ℤ). le_z (pos 4611686018427387904) z ≡ true) a_is e))

  least_free : known (dist l (n + x)) ≡ false → pos 1 ≡ least-word n l x
  unfolding least-word
  least_free k = sym (ap (λ (b : Bool). choose b (neg_ℤ (dist l (n * 2 + x))) (pos 1)) k)

  most_free : known (dist l (n + x)) ≡ false → pos 0 ≡ most-word n l x
  unfolding most-word
  most_free k = sym (ap (λ (b : Bool). choose b (dist l (n + x)) (pos 0)) k)

  pub least_low : lt_z a (negsuc 4611686018427387903) ≡ true → pos 1 ≡ least-word n l x
  least_low e = least_free (too_low e)

  pub least_high : le_z (pos 4611686018427387904) a ≡ true → pos 1 ≡ least-word n l x
  least_high e = least_free (too_high e)

  pub most_low : lt_z a (negsuc 4611686018427387903) ≡ true → pos 0 ≡ most-word n l x
  most_low e = most_free (too_low e)

  pub most_high : le_z (pos 4611686018427387904) a ≡ true → pos 0 ≡ most-word n l x
  most_high e = most_free (too_high e)

  module _ (lo : lt_z a (negsuc 4611686018427387903) ≡ false) (hi : le_z (pos 4611686018427387904) a ≡ false) where
    is_known : known (dist l (n + x)) ≡ true
    is_known =
        lt-ltb (mag (dist l (n + x))) (2 ^ 62) (within (dist l (n + x)) 4611686018427387903
        (subst (λ (z : ℤ). lt_z z (negsuc 4611686018427387903) ≡ false) a_is lo) (subst (λ (z : ℤ). le_z (pos 4611686018427387904) z ≡ false) a_is hi))

    most_here : most-word n l x ≡ dist l (n + x)
    unfolding most-word
    most_here = ap (λ (b : Bool). choose b (dist l (n + x)) (pos 0)) is_known

    least_here : least-word n l x ≡ neg_ℤ (dist l (n * 2 + x))
    unfolding least-word
    least_here = ap (λ (b : Bool). choose b (neg_ℤ (dist l (n * 2 + x))) (pos 1)) is_known

    -- what `narrow` makes of the most
    pub most_narrowed : (r : ℤ) → (mag a < 2 ^ 31 → r ≡ a) → mag (most-word n l x) < 2 ^ 31 → to_z w32 (of_z w32 r) ≡ most-word n l x
    most_narrowed r f small =
        ap (λ (z : ℤ). to_z w32 (of_z w32 z)) (f (subst (λ (z : ℤ). mag z < 2 ^ 31) (most_here ∙ sym a_is) small) ∙ a_is ∙ sym most_here)
        ∙ bits_back w32 (most-word n l x) small

    module _ (fb : mag (dist l (n * 2 + x)) < 2 ^ 63) where
      abbrev b : ℤ
      b = to_z w64 (of_z w64 (dist l (n * 2 + x)))

      b_is : b ≡ dist l (n * 2 + x)
      b_is = bits_back w64 (dist l (n * 2 + x)) fb

      not_small : 2 ^ 62 ≤ mag (dist l (n * 2 + x)) → mag (least-word n l x) < 2 ^ 31 → pos 1 ≡ least-word n l x
      not_small h small =
          let k : mag (neg_ℤ (dist l (n * 2 + x))) < 2 ^ 31 = subst (λ (z : ℤ). mag z < 2 ^ 31) least_here small in
          absurd (let none : 1 ≤ 0 = omega (arith, h, k, mag_of_neg (dist l (n * 2 + x))) in not-suc-le-zero none)

      pub least_below : lt_z b (negsuc 4611686018427387903) ≡ true → mag (least-word n l x) < 2 ^ 31 → pos 1 ≡ least-word n l x
      least_below e = not_small (under (dist l (n * 2 + x)) 4611686018427387903 (subst (λ (z : ℤ). lt_z z (negsuc 4611686018427387903) ≡ true) b_is e))

      pub least_above : le_z (pos 4611686018427387904) b ≡ true → mag (least-word n l x) < 2 ^ 31 → pos 1 ≡ least-word n l x
      least_above e = not_small (over (dist l (n * 2 + x)) 4611686018427387904 (subst (λ (z : ℤ). le_z (pos 4611686018427387904) z ≡ true) b_is e))

      module _ (lo' : lt_z b (negsuc 4611686018427387903) ≡ false) (hi' : le_z (pos 4611686018427387904) b ≡ false) where
        b_known : mag (dist l (n * 2 + x)) < 2 ^ 62
        b_known =
            within (dist l (n * 2 + x)) 4611686018427387903 (subst (λ (z : ℤ). lt_z z (negsuc 4611686018427387903) ≡ false) b_is lo')
            (subst (λ (z : ℤ). le_z (pos 4611686018427387904) z ≡ false) b_is hi')

        minus_b : pos 0 -ℤ b ≡ least-word n l x
        minus_b = minus_neg b ∙ ap neg_ℤ b_is ∙ sym least_here

        pub sub-fits : SFits w64 (pos 0 -ℤ b)
        sub-fits =
            record { sfits = subst (λ (z : ℤ). mag z < 2 ^ 63) (sym (minus_neg b ∙ ap neg_ℤ b_is)) (omega (arith, b_known, mag-neg (dist l (n * 2 + x)))) }

        v_is : to_z w64 (of_z w64 (pos 0 -ℤ b)) ≡ least-word n l x
        v_is = bits_back w64 (pos 0 -ℤ b) sub-fits.sfits ∙ minus_b

        pub least_narrowed : (r : ℤ) → (mag (to_z w64 (of_z w64 (pos 0 -ℤ b))) < 2 ^ 31 → r ≡ to_z w64 (of_z w64 (pos 0 -ℤ b)))
            → mag (least-word n l x) < 2 ^ 31 → to_z w32 (of_z w32 r) ≡ least-word n l x
        least_narrowed r f small =
            ap (λ (z : ℤ). to_z w32 (of_z w32 z)) (f (subst (λ (z : ℤ). mag z < 2 ^ 31) (sym v_is) small) ∙ v_is) ∙ bits_back w32 (least-word n l x) small

-- ---- a number that fits 32 bits
module _ (v : ℤ) (fv : mag v < 2 ^ 63) where
  pub narrow_low : lt_z (to_z w64 (of_z w64 v)) (negsuc 2147483647) ≡ true → mag v < 2 ^ 31 → pos 0 ≡ v
  narrow_low e h =
      let k = under v 2147483647 (subst (λ (z : ℤ). lt_z z (negsuc 2147483647) ≡ true) (bits_back w64 v fv) e) in
      absurd (let none : 1 ≤ 0 = omega (arith, h, k) in not-suc-le-zero none)

  pub narrow_high : le_z (pos 2147483648) (to_z w64 (of_z w64 v)) ≡ true → mag v < 2 ^ 31 → pos 0 ≡ v
  narrow_high e h =
      let k = over v 2147483648 (subst (λ (z : ℤ). le_z (pos 2147483648) z ≡ true) (bits_back w64 v fv) e) in
      absurd (let none : 1 ≤ 0 = omega (arith, h, k) in not-suc-le-zero none)

  module _ (lo : lt_z (to_z w64 (of_z w64 v)) (negsuc 2147483647) ≡ false) (hi : le_z (pos 2147483648) (to_z w64 (of_z w64 v)) ≡ false) where
    pub narrow_fits : SFits w32 (to_z w64 (of_z w64 v))
    narrow_fits = record {
      sfits = subst (λ (z : ℤ). mag z < 2 ^ 31) (sym (bits_back w64 v fv)) (within v 2147483647
          (subst (λ (z : ℤ). lt_z z (negsuc 2147483647) ≡ false) (bits_back w64 v fv) lo)
          (subst (λ (z : ℤ). le_z (pos 2147483648) z ≡ false) (bits_back w64 v fv) hi));
    }

    pub narrow_is : to_z w32 (of_z w32 (to_z w64 (of_z w64 v))) ≡ v
    narrow_is = bits_back w32 (to_z w64 (of_z w64 v)) narrow_fits.sfits ∙ bits_back w64 v fv

-- ---- the words of one record more
pub told_none : (n : ℕ) (r ws : List ℤ) → Fits n r → Told n r 0 ws
told_none n r ws f y h = absurd (not-suc-le-zero h)

pub told_more : (n : ℕ) (r ws : List ℤ) (x : ℕ) (u v : ℤ) → x < n → x * 2 + 1 < length ws
    → (mag (least-word n r x) < 2 ^ 31 → u ≡ least-word n r x) → (mag (most-word n r x) < 2 ^ 31 → v ≡ most-word n r x)
    → (Fits n r → Told n r x ws) → Fits n r → Told n r (x + 1) (set (set ws (x * 2) (to_z w32 (of_z w32 u))) (x * 2 + 1) (to_z w32 (of_z w32 v)))
told_more n r ws x u v g₀ g eu ev t fits y h = (
  set_ind one (x * 2 + 1) v' g' (y * 2) (λ z. z ≡ least-word n r y) (λ q. absurd (let none : 1 ≤ 0 = omega (arith, q) in not-suc-le-zero none))
      (λ _. set_ind ws (x * 2) u' (omega (arith, g)) (y * 2) (λ z. z ≡ least-word n r y) (λ q. let e : y ≡ x =
      omega (arith, q) in u_is ∙ ap (least-word n r) (sym e)) (λ q. (t fits y (less q)).0)),
  set_ind one (x * 2 + 1) v' g' (y * 2 + 1) (λ z. z ≡ most-word n r y) (λ q. let e : y ≡ x = omega (arith, q) in v_is ∙ ap (most-word n r) (sym e))
      (λ p. set_ind ws (x * 2) u' (omega (arith, g)) (y * 2 + 1) (λ z. z ≡ most-word n r y) (λ q. absurd (let none : 1 ≤ 0 =
      omega (arith, q) in not-suc-le-zero none)) (λ _. (t fits y (less' p)).1)),
)
  where
    u' : ℤ
    u' = to_z w32 (of_z w32 u)

    v' : ℤ
    v' = to_z w32 (of_z w32 v)

    one : List ℤ
    one = set ws (x * 2) (to_z w32 (of_z w32 u))

    g' : x * 2 + 1 < length (set ws (x * 2) (to_z w32 (of_z w32 u)))
    g' = subst (λ (m : ℕ). x * 2 + 1 < m) (sym (length-set ws (x * 2) (to_z w32 (of_z w32 u)))) g

    u_is : to_z w32 (of_z w32 u) ≡ least-word n r x
    u_is = ap (λ (z : ℤ). to_z w32 (of_z w32 z)) (eu (fits x g₀).0) ∙ bits_back w32 (least-word n r x) (fits x g₀).0

    v_is : to_z w32 (of_z w32 v) ≡ most-word n r x
    v_is = ap (λ (z : ℤ). to_z w32 (of_z w32 z)) (ev (fits x g₀).1) ∙ bits_back w32 (most-word n r x) (fits x g₀).1

    less : (y * 2 ≡ x * 2 → ⊥) → y < x
    less q = omega (arith, h, q)

    less' : (y * 2 + 1 ≡ x * 2 + 1 → ⊥) → y < x
    less' q = omega (arith, h, q)

-- the words past those of n records stay
pub past_same : (k i j : ℕ) (u v : ℤ) (l l₀ : List ℤ) → i < k → j < k → drop k l ≡ drop k l₀ → drop k (set (set l i u) j v) ≡ drop k l₀
past_same k i j u v l l₀ g h e = drop-set-lt k (set l i u) j v h ∙ drop-set-lt k l i u g ∙ e
