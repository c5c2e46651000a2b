-- What a pass keeps: every placing that meets the limits lies at or under the distances.
--   Under p l      p is at or under each known distance of l
--   under_lower    one limit keeps that
-- Assumes nothing.
use Rattle.std.specs.Prelude.{◌≡◌, refl, ℕ, ◌<◌, Bool, true, false, List, ltb, eqb, ℤ, pos, ◌+ℤ◌, length, set, ◌≤ℤ◌}
use Rattle.std.proofs.Common.{sym, subst, arith, length-set, get_or-set_same, get_or-set_other, ltb-true, eqb-true}
use Rattle.std.specs.Int.Signed.{lt_z}
use Rattle.std.proofs.lemmas.Bool.{eqb-false}
use Rattle.offsets.proofs.LinearLaws.{of_le, to_le, of_add}
use Rattle.offsets.specs.Relax.{State, pick, known, dist, lower}

abbrev pub Placing : Type 0
Placing = ℕ → ℤ

abbrev pub Under : Placing → List ℤ → Type 0
Under p l = (i : ℕ) → i < length l → known (dist l i) ≡ true → p i ≤ℤ dist l i

pub pick_ind : (b : Bool) (x y : State) (Q : State → Type 0) → (b ≡ true → Q x) → (b ≡ false → Q y) → Q (pick b x y)
pick_ind true x y Q f g = f refl
pick_ind false x y Q f g = g refl

pub by_test : (b : Bool) {Q : Type 0} → (b ≡ true → Q) → (b ≡ false → Q) → Q
by_test true f g = f refl
by_test false f g = g refl

-- a number that p is under is put in
under_set : (p : Placing) (l : List ℤ) (to : ℕ) (v : ℤ) → to < length l → p to ≤ℤ v → Under p l → Under p (set l to v)
under_set p l to v t h u i small k = by_test (eqb i to)
    (λ e. let at : i ≡ to = eqb-true i to e in
    subst (λ (j : ℕ). p j ≤ℤ dist (set l to v) j) (sym at) (subst (λ (z : ℤ). p to ≤ℤ z) (sym (get_or-set_same l to v (pos 0) t)) h))
    (λ e. let same : dist (set l to v) i ≡ dist l i = get_or-set_other l to i v (pos 0) (eqb-false i to e) in
    subst (λ (z : ℤ). p i ≤ℤ z) (sym same) (u i (subst (λ (n : ℕ). i < n) (length-set l to v) small) (subst (λ (z : ℤ). known z ≡ true) same k)))

pub under_lower : (p : Placing) (from to : ℕ) (w : ℤ) (s : State) → p to ≤ℤ (p from +ℤ w) → Under p s.0 → Under p (lower from to w s).0
unfolding lower
under_lower p from to w s h u =
    pick_ind (ltb from (length s.0)) _ s (λ x. Under p x.0) (λ ef. pick_ind (ltb to (length s.0)) _ s (λ x. Under p x.0) (λ et.
    pick_ind (known (dist s.0 from)) _ s (λ x. Under p x.0) (λ ek. pick_ind (lt_z (dist s.0 from +ℤ w) (dist s.0 to)) _ s (λ x. Under p x.0)
    (λ _. under_set p s.0 to (dist s.0 from +ℤ w) (ltb-true to (length s.0) et)
    (to_le (omega (arith, of_le h, of_le (u from (ltb-true from (length s.0) ef) ek), of_add (p from) w, of_add (dist s.0 from) w))) u)
    (λ _. u)) (λ _. u)) (λ _. u)) (λ _. u)
