-- One third of the list, from the base: distances d that hold all arcs of ties, with 0 or less at the base, are the most that each record begins after it.
--   Allowed n t    a tie that is not refused: records below n, -20,000 ≤ least ≤ most ≤ 20,000
--   Ready n ts     ties that are not refused: at most 1,024 with records below n, which is at most 1,024
--   near_ends, near_neg, far_over
--                  numbers within 20,000; one that is not reached is above 0
--   ready_small, ready_inside, joined_arc
--                  the arcs of ties that are not refused are small and of records below n; an arc leads from joined to joined
--   joined_known   what ties join to the base is known
--   most_attained  there is a placing that has all known records exactly at their distances
-- Assumes nothing.
use Rattle.std.specs.Prelude.{◌≡◌, refl, ◌⊎◌, List, Bool, true, false, ℕ, ◌^◌, ◌<◌, ◌≤◌, ℤ, pos, negsuc, neg_ℤ, ◌+ℤ◌, ◌-ℤ◌, length, ◌≤ℤ◌}
use Rattle.std.proofs.Common.{sym, ◌∙◌, subst, inl, inr, true≢false, not-suc-le-zero, arith}
use Rattle.std.proofs.Math.Path.{ap}
use Rattle.book.specs.Basics.{In}
use Rattle.offsets.specs.Thirds.{far}
use Rattle.offsets.specs.declared.Tie.{Tie}
use Rattle.offsets.proofs.LinearLaws.{up, down, of_le, to_le, to_eq, of_sub, of_pos, of_neg_up, of_neg_down, ≤ℤ-trans, ≤ℤ-antisym}
use Rattle.offsets.specs.Relax.{known}
use Rattle.offsets.specs.Offsets.{Placing, Meets, Places, Joined, self, onward}
use Rattle.offsets.proofs.ArcLaws.{Arc, up_arc, down_arc, arcs, of_ties, in_up, in_down, sums_meet}
use Rattle.offsets.proofs.PassLaws.{Near, near_add, near_known, known_not_far, Small}

pub record Allowed (n : ℕ) (t : Tie) : Type 0 where
  pub first_in : t.first < n
  pub second_in : t.second < n
  pub least_in : neg_ℤ (pos 20000) ≤ℤ t.least
  pub ordered : t.least ≤ℤ t.most
  pub most_in : t.most ≤ℤ pos 20000

pub record Ready (n : ℕ) (ts : List Tie) : Type 0 where
  pub few_records : n ≤ 1024
  pub few_ties : length ts ≤ 1024
  pub allowed : (t : Tie) → In t ts → Allowed n t

pub near_ends : (z : ℤ) → neg_ℤ (pos 20000) ≤ℤ z → z ≤ℤ pos 20000 → Near 20000 z
unfolding up down
near_ends (pos k) h g = (omega (arith, of_le g), omega arith)
near_ends (negsuc k) h g = (omega arith, omega (arith, of_le h))

pub near_neg : (z : ℤ) → Near 20000 z → Near 20000 (neg_ℤ z)
near_neg z h = (omega (arith, of_neg_up z, h.1), omega (arith, of_neg_down z, h.0))

pub far_over : far ≤ℤ pos 0 → ⊥
far_over h =
    let u = of_le h in
    let v = of_pos (2 ^ 62) in
    let w = of_pos 0 in
    let none : 1 ≤ 0 = omega (arith, u, v.0, v.1, w.0, w.1) in
    not-suc-le-zero none

pub ready_small : (n : ℕ) (ts : List Tie) → Ready n ts → Small (arcs ts)
ready_small n ts ready = of_ties (λ a. Near 20000 a.rise) ts (λ t i. let a = ready.allowed t i in (
  near_ends t.most (≤ℤ-trans a.least_in a.ordered) a.most_in,
  near_neg t.least (near_ends t.least a.least_in (≤ℤ-trans a.ordered a.most_in)),
))

pub ready_inside : (n : ℕ) (ts : List Tie) → Ready n ts → (a : Arc) → In a (arcs ts) → (a.from < n) × (a.to < n)
ready_inside n ts ready =
    of_ties (λ a. (a.from < n) × (a.to < n)) ts (λ t i. let a = ready.allowed t i in ((a.first_in, a.second_in), (a.second_in, a.first_in)))

-- 125,952,000,000 = 1,025 × 6,144 × 20,000: the most that n + 1 passes over six arcs for each of 1,024 ties add to a distance
pub joined_arc : (ts : List Tie) (base : ℕ) (a : Arc) → In a (arcs ts) → Joined ts base a.from → Joined ts base a.to
joined_arc ts base =
    of_ties (λ a. Joined ts base a.from → Joined ts base a.to) ts (λ t i. (λ j. onward t j i (inl (refl, refl)), λ j. onward t j i (inr (refl, refl))))

module _ (n : ℕ) (us : List Tie) (ready : Ready n us) (base : ℕ) (base_in : base < n) (d : ℕ → ℤ)
    (hold : (a : Arc) → In a (arcs us) → known (d a.from) ≡ true → d a.to ≤ℤ (d a.from +ℤ a.rise))
    (near : (x : ℕ) → x < n → (d x ≡ far) ⊎ Near 125952000000 (d x)) (base-low : d base ≤ℤ pos 0) where
  near_is : (z : ℤ) → (z ≡ far) ⊎ Near 125952000000 z → (z ≡ far → ⊥) → known z ≡ true
  near_is z (inl e) f = absurd (f e)
  near_is z (inr k) f = near_known 125952000000 z (omega arith) k

  base_known : known (d base) ≡ true
  base_known = near_is (d base) (near base base_in) (λ e. far_over (subst (λ (z : ℤ). z ≤ℤ pos 0) e base-low))

  on : (a : Arc) → In a (arcs us) → known (d a.from) ≡ true → known (d a.to) ≡ true
  on a i k = let g = ready_inside n us ready a i in near_is (d a.to) (near a.to g.1) (λ e. go e (near a.from g.0))
    where
      go : d a.to ≡ far → (d a.from ≡ far) ⊎ Near 125952000000 (d a.from) → ⊥
      go e (inl q) = known_not_far (d a.from) k q
      go e (inr m) =
          let q : far ≤ℤ (d a.from +ℤ a.rise) = subst (λ (z : ℤ). z ≤ℤ (d a.from +ℤ a.rise)) e (hold a i k) in
          let s = near_add 125952000000 20000 (d a.from) a.rise m (ready_small n us ready a i) in
          let u = of_le q in let v = of_pos (2 ^ 62) in
          let none : 1 ≤ 0 = omega (arith, s.0, s.1, u, v.0, v.1) in not-suc-le-zero none

  pub joined_known : {x : ℕ} → Joined us base x → known (d x) ≡ true
  joined_known self = base_known
  joined_known (onward t j i (inl (e, g))) =
      subst (λ (z : ℕ). known (d z) ≡ true) g (on (up_arc t) (in_up us t i) (subst (λ (z : ℕ). known (d z) ≡ true) (sym e) (joined_known j)))
  joined_known (onward t j i (inr (e, g))) =
      subst (λ (z : ℕ). known (d z) ≡ true) g (on (down_arc t) (in_down us t i) (subst (λ (z : ℕ). known (d z) ≡ true) (sym e) (joined_known j)))

  module _ (under : (p : Placing) → Places p us → (x : ℕ) → x < n → known (d x) ≡ true → (p x -ℤ p base) ≤ℤ d x) (f : Placing) (places : Places f us) where
    base_zero : d base ≡ pos 0
    base_zero = ≤ℤ-antisym base-low (≤ℤ-trans (self_less (f base)) (under f places base base_in base_known))
      where
        self_less : (z : ℤ) → pos 0 ≤ℤ (z -ℤ z)
        self_less z = let v = of_pos 0 in to_le (omega (arith, of_sub z z, v.0, v.1))

    -- the known distances, and the given placing elsewhere
    abbrev choose : Bool → ℤ → ℤ → ℤ
    choose true y z = y
    choose false y z = z

    best : Placing
    best x = choose (known (d x)) (d x) (f x)

    best_at : (x : ℕ) (b : Bool) → known (d x) ≡ b → best x ≡ choose b (d x) (f x)
    unfolding best
    best_at x b e = ap (λ (c : Bool). choose c (d x) (f x)) e

    best_places : Places best us
    best_places t i = go (known (d t.first)) (known (d t.second)) refl refl
      where
        at : (b : Bool) → known (d t.first) ≡ b → known (d t.second) ≡ b
            → (t.least ≤ℤ (choose b (d t.second) (f t.second) -ℤ choose b (d t.first) (f t.first)))
            × ((choose b (d t.second) (f t.second) -ℤ choose b (d t.first) (f t.first)) ≤ℤ t.most)
            → Meets best t
        at b e g m = subst (λ (y : ℤ). (t.least ≤ℤ (y -ℤ best t.first)) × ((y -ℤ best t.first) ≤ℤ t.most)) (sym (best_at t.second b g))
            (subst (λ (x : ℤ). (t.least ≤ℤ (choose b (d t.second) (f t.second) -ℤ x)) × ((choose b (d t.second) (f t.second) -ℤ x) ≤ℤ t.most))
            (sym (best_at t.first b e)) m)

        go : (b c : Bool) → known (d t.first) ≡ b → known (d t.second) ≡ c → Meets best t
        go true true e g =
            at true e g (sums_meet (d t.first) (d t.second) t.least t.most
            (hold (up_arc t) (in_up us t i) e) (hold (down_arc t) (in_down us t i) g))
        go false false e g = at false e g (places t i)
        go true false e g = absurd (true≢false (sym (on (up_arc t) (in_up us t i) e) ∙ g))
        go false true e g = absurd (true≢false (sym (on (down_arc t) (in_down us t i) g) ∙ e))

    pub most_attained : (p : Placing) × (Places p us × ((x : ℕ) → known (d x) ≡ true → p x -ℤ p base ≡ d x))
    most_attained = (best, (best_places, at))
      where
        minus_zero : (y z w : ℤ) → y ≡ w → z ≡ pos 0 → y -ℤ z ≡ w
        minus_zero y z w e g =
            let q : y -ℤ pos 0 ≡ y = let v = of_pos 0 in
            to_eq (y -ℤ pos 0) y (omega (arith, of_sub y (pos 0), v.0, v.1)) in
            ap (λ (u : ℤ). y -ℤ u) g ∙ q ∙ e

        at : (x : ℕ) → known (d x) ≡ true → best x -ℤ best base ≡ d x
        at x k = minus_zero (best x) (best base) (d x) (best_at x true k) (best_at base true base_known ∙ base_zero)
