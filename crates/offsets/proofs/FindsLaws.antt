-- The answer that passes find is the answer of `Offsets`.
--   cannot_exactly        "cannot all hold" comes exactly if there is no placing
--   limits_hold, limits_attained
--                         no placing goes beyond the limits, and each is attained
--   limit_at              so each record below n has its two words
--   free_exactly          1 and 0 come exactly for a record that ties do not join to the base
--   offsets_are           the answer is the one that is asked for
--   cannot_are, told_are  the same as the code has it: by the flag, and a list that has the words
-- Assumes nothing.
use Rattle.std.specs.Prelude.{◌≡◌, List, Bool, ℕ, zero, suc, ◌+◌, ◌*◌, ◌<◌, ◌≤◌, ℤ, pos, neg_ℤ, ◌-ℤ◌, length, get_or, take, ◌≤ℤ◌}
use Rattle.std.proofs.Math.Path.{refl, ap, subst}
use Rattle.std.proofs.Common.{sym, ◌∙◌, inl, inr, not-suc-le-zero, get_or-take, length-take-le}
use Rattle.std.proofs.Math.Bool.{true, false, true≢false}
use native.Mathlib.Omega.{arith}
use Rattle.offsets.specs.declared.Tie.{Tie}
use Rattle.offsets.proofs.LinearLaws.{of_le, to_le, to_eq, of_sub, of_pos, of_neg_up, of_neg_down}
use Rattle.offsets.specs.Relax.{State, known, dist}
use Rattle.offsets.specs.Offsets.{Placing, Places, Joined, self, Limit, itself, joined, free, cannot, limits, OffsetsAre, none, some}
use Rattle.offsets.proofs.ArcLaws.{arcs3}
use Rattle.offsets.specs.TurnedTies.{turned}
use Rattle.offsets.proofs.PassLaws.{settled_is}
use Rattle.offsets.proofs.SettleLaws.{passes}
use Rattle.offsets.proofs.AnswerLaws.{limit_only}
use Rattle.offsets.proofs.ThirdLaws.{Ready, joined_known, most_attained}
use Rattle.offsets.specs.Thirds.{choose, Starts}
use Rattle.offsets.proofs.ThirdsLaws.{thirds_settle, near_at, base_at, known_joined, second_holds, third_holds, first_places, under_second}
use Rattle.offsets.proofs.ThirdsLaws.{under_third}
use Rattle.offsets.proofs.TurnedTieLaws.{neg, turned_places, places_turned, turned_joined, turned_ready}
use Rattle.offsets.specs.Finds.{ran, least-word, most-word, Told, words, answer, offsets}

-- ---- the list
words_length : (lo hi : ℕ → ℤ) (x k : ℕ) → length (words lo hi x k) ≡ k * 2
words_length lo hi x zero = refl
words_length lo hi x (suc k) = let e = words_length lo hi (suc x) k in omega (arith, e)

words-at : (lo hi : ℕ → ℤ) (x k i : ℕ) → i < k → (get_or (words lo hi x k) (i * 2) (pos 0) ≡ lo (x + i))
    × (get_or (words lo hi x k) (i * 2 + 1) (pos 0) ≡ hi (x + i))
words-at lo hi x zero i h = absurd (not-suc-le-zero h)
words-at lo hi x (suc k) zero h = let e : x ≡ x + 0 = omega arith in (ap lo e, ap hi e)
words-at lo hi x (suc k) (suc i) h =
    let r = words-at lo hi (suc x) k i (omega (arith, h)) in
    let e : suc i * 2 ≡ suc (suc (i * 2)) = omega arith in
    let f : suc i * 2 + 1 ≡ suc (suc (i * 2 + 1)) = omega arith in
    let g : suc x + i ≡ x + suc i = omega arith in
    (ap (λ (j : ℕ). get_or (words lo hi x (suc k)) j (pos 0)) e ∙ r.0 ∙ ap lo g, ap (λ (j : ℕ). get_or (words lo hi x (suc k)) j (pos 0)) f ∙ r.1 ∙ ap hi g)

-- ---- limits
-- a most over turned ties is a least, with the sign changed
turn_most : (x b m : ℤ) → (neg_ℤ x -ℤ neg_ℤ b) ≤ℤ m → neg_ℤ m ≤ℤ (x -ℤ b)
turn_most x b m h =
    to_le (omega (arith, of_le h, of_sub (neg_ℤ x) (neg_ℤ b), of_sub x b, of_neg_up x, of_neg_down x, of_neg_up b, of_neg_down b, of_neg_up m, of_neg_down m))

turn_is : (x b m : ℤ) → x -ℤ b ≡ m → neg_ℤ x -ℤ neg_ℤ b ≡ neg_ℤ m
turn_is x b m e = subst (λ (k : ℤ). neg_ℤ x -ℤ neg_ℤ b ≡ neg_ℤ k) e
    (to_eq (neg_ℤ x -ℤ neg_ℤ b) (neg_ℤ (x -ℤ b))
    (omega (arith, of_sub (neg_ℤ x) (neg_ℤ b), of_sub x b, of_neg_up x, of_neg_down x, of_neg_up b, of_neg_down b, of_neg_up (x -ℤ b), of_neg_down (x -ℤ b))))

-- 1 and 0 are no limits of a joined record: the least is at most the most
free_words : (ts : List Tie) (base x : ℕ) (lo hi : ℤ) → Limit ts base x lo hi → lo ≡ pos 1 → hi ≡ pos 0 → (x ≡ base → ⊥) × (Joined ts base x → ⊥)
free_words ts base x lo hi itself a b = absurd (ne01 a)
  where
    ne01 : pos 0 ≡ pos 1 → ⊥
    ne01 e = let z : ◌≡◌ {A = ℕ} 0 1 = cc in let none : 1 ≤ 0 = omega (arith, z) in not-suc-le-zero none
free_words ts base x lo hi (joined j w) a b =
    absurd (let c = of_le k in let u = of_pos 1 in let v = of_pos 0 in let none : 1 ≤ 0 = omega (arith, c, u.0, u.1, v.0, v.1) in not-suc-le-zero none)
  where
    k : pos 1 ≤ℤ pos 0
    k = subst (λ (z : ℤ). z ≤ℤ pos 0) (w.low.1.1 ∙ a) (subst (λ (z : ℤ). (w.low.0 x -ℤ w.low.0 base) ≤ℤ z) b (w.holds w.low.0 w.low.1.0).1)
free_words ts base x lo hi (free ne f) a b = (ne, f)

module _ (n base : ℕ) (ts : List Tie) (ready : Ready n ts) (base_in : base < n) (l : List ℤ) (starts : Starts n base l) where
  abbrev R : List ℤ
  R = (passes (suc n) (arcs3 n ts) (l, false)).0

  ran_is : ran n ts l ≡ passes (suc n) (arcs3 n ts) (l, false)
  unfolding ran
  ran_is = settled_is n (suc n) ts (l, false)

  pub cannot_exactly : ((ran n ts l).1 ≡ true → (p : Placing) → Places p ts → ⊥) × ((ran n ts l).1 ≡ false → (p : Placing) × Places p ts)
  cannot_exactly = (
    λ e p h. true≢false (sym e ∙ ap (λ (s : State). s.1) ran_is ∙ thirds_settle n ts ready p h l starts.0),
    λ e. (dist R, first_places n ts ready base base_in l starts (sym (ap (λ (s : State). s.1) ran_is) ∙ e)),
  )

  module _ (f : Placing) (places : Places f ts) where
    quiet_holds : (passes (suc n) (arcs3 n ts) (l, false)).1 ≡ false
    quiet_holds = thirds_settle n ts ready f places l starts.0

    most_known : {x : ℕ} → Joined ts base x → known (dist R (n + x)) ≡ true
    most_known j =
        joined_known n ts ready base base_in (λ x. dist R (n + x)) (second_holds n ts ready base base_in l starts quiet_holds)
        (near_at n ts ready base base_in l starts n (omega arith)) (base_at n ts ready base base_in l starts n (inl refl) (omega arith)) j

    least_known : {x : ℕ} → Joined ts base x → known (dist R (n * 2 + x)) ≡ true
    least_known j =
        joined_known n (turned ts) (turned_ready n ts ready) base base_in (λ x. dist R (n * 2 + x))
        (third_holds n ts ready base base_in l starts quiet_holds) (near_at n ts ready base base_in l starts (n * 2) (omega arith))
        (base_at n ts ready base base_in l starts (n * 2) (inr refl) (omega arith)) (turned_joined ts base j)

    pub limits_hold : (x : ℕ) → x < n → Joined ts base x → (p : Placing) → Places p ts
        → (neg_ℤ (dist R (n * 2 + x)) ≤ℤ (p x -ℤ p base)) × ((p x -ℤ p base) ≤ℤ dist R (n + x))
    limits_hold x g j p h = (
      turn_most (p x) (p base) (dist R (n * 2 + x))
          (under_third n ts ready base base_in l starts quiet_holds (neg p) (turned_places p ts h) x g (least_known j)),
      under_second n ts ready base base_in l starts quiet_holds p h x g (most_known j),
    )

    pub limits_attained : (x : ℕ) → Joined ts base x
        → ((p : Placing) × (Places p ts × (p x -ℤ p base ≡ neg_ℤ (dist R (n * 2 + x))))) × ((p : Placing) × (Places p ts × (p x -ℤ p base ≡ dist R (n + x))))
    limits_attained x j =
        let a = most_attained n ts ready base base_in (λ x. dist R (n + x)) (second_holds n ts ready base base_in l starts quiet_holds)
        (near_at n ts ready base base_in l starts n (omega arith)) (base_at n ts ready base base_in l starts n (inl refl) (omega arith))
        (under_second n ts ready base base_in l starts quiet_holds) f places in
        let b = most_attained n (turned ts) (turned_ready n ts ready) base base_in (λ x. dist R (n * 2 + x))
        (third_holds n ts ready base base_in l starts quiet_holds) (near_at n ts ready base base_in l starts (n * 2) (omega arith))
        (base_at n ts ready base base_in l starts (n * 2) (inr refl) (omega arith))
        (under_third n ts ready base base_in l starts quiet_holds) (neg f) (turned_places f ts places) in (
          (neg b.0, (places_turned b.0 ts b.1.0, turn_is (b.0 x) (b.0 base) (dist R (n * 2 + x)) (b.1.1 x (least_known j)))),
          (a.0, (a.1.0, a.1.1 x (most_known j))),
        )

    limit_R : (x : ℕ) → x < n → Limit ts base x (least-word n R x) (most-word n R x)
    unfolding least-word most-word
    limit_R x g = go (known (dist R (n + x))) refl
      where
        go : (b : Bool) → known (dist R (n + x)) ≡ b → Limit ts base x (choose b (neg_ℤ (dist R (n * 2 + x))) (pos 1)) (choose b (dist R (n + x)) (pos 0))
        go true k =
            let j = known_joined n ts ready base base_in l starts x g k in
            let a = limits_attained x j in
            joined j (record { holds = limits_hold x g j; low = a.0; high = a.1 })
        go false k = free (λ e. none_known (subst (λ (y : ℕ). Joined ts base y) (sym e) self)) none_known
          where
            none_known : Joined ts base x → ⊥
            none_known j = true≢false (sym (most_known j) ∙ k)

    pub limit_at : (x : ℕ) → x < n → Limit ts base x (least-word n (ran n ts l).0 x) (most-word n (ran n ts l).0 x)
    limit_at x g = subst (λ (s : State). Limit ts base x (least-word n s.0 x) (most-word n s.0 x)) (sym ran_is) (limit_R x g)

    pub free_exactly : (x : ℕ) → x < n
        → ((least-word n (ran n ts l).0 x ≡ pos 1) × (most-word n (ran n ts l).0 x ≡ pos 0) → (x ≡ base → ⊥) × (Joined ts base x → ⊥))
        × ((x ≡ base → ⊥) × (Joined ts base x → ⊥) → (least-word n (ran n ts l).0 x ≡ pos 1) × (most-word n (ran n ts l).0 x ≡ pos 0))
    free_exactly x g = (
      λ e. free_words ts base x (least-word n (ran n ts l).0 x) (most-word n (ran n ts l).0 x) (limit_at x g) e.0 e.1,
      λ e. limit_only ts base x (least-word n (ran n ts l).0 x) (most-word n (ran n ts l).0 x) (pos 1) (pos 0) (limit_at x g) (free e.0 e.1),
    )

  pub offsets_are : OffsetsAre n base ts (offsets n ts l)
  unfolding offsets
  offsets_are = go (ran n ts l).1 refl
    where
      go : (b : Bool) → (ran n ts l).1 ≡ b → OffsetsAre n base ts (answer b (words (least-word n (ran n ts l).0) (most-word n (ran n ts l).0) 0 n))
      go true e = none (cannot_exactly.0 e)
      go false e =
          let f = cannot_exactly.1 e in
          some f.0 f.1 (words_length (least-word n (ran n ts l).0) (most-word n (ran n ts l).0) 0 n) (λ x h.
          let r = words-at (least-word n (ran n ts l).0) (most-word n (ran n ts l).0) 0 n x h in
          let z : 0 + x ≡ x = omega arith in
          subst (λ (lo : ℤ). Limit ts base x lo (get_or (words (least-word n (ran n ts l).0) (most-word n (ran n ts l).0) 0 n) (x * 2 + 1) (pos 0)))
          (sym (r.0 ∙ ap (least-word n (ran n ts l).0) z))
          (subst (λ (hi : ℤ). Limit ts base x (least-word n (ran n ts l).0 x) hi)
          (sym (r.1 ∙ ap (most-word n (ran n ts l).0) z)) (limit_at f.0 f.1 x h)))

  -- as the code has it: the flag, and a list that has the words
  pub cannot_are : (ran n ts l).1 ≡ true → OffsetsAre n base ts cannot
  cannot_are e = none (cannot_exactly.0 e)

  pub told_are : (ran n ts l).1 ≡ false → (ws : List ℤ) → n * 2 ≤ length ws → Told n (ran n ts l).0 n ws → OffsetsAre n base ts (limits (take (n * 2) ws))
  told_are e ws h t =
      let f = cannot_exactly.1 e in
      some f.0 f.1 (length-take-le (n * 2) ws h) (λ x g.
      subst (λ (lo : ℤ). Limit ts base x lo (get_or (take (n * 2) ws) (x * 2 + 1) (pos 0)))
      (sym (get_or-take (n * 2) ws (x * 2) (pos 0) (omega (arith, g)) ∙ (t x g).0))
      (subst (λ (hi : ℤ). Limit ts base x (least-word n (ran n ts l).0 x) hi)
      (sym (get_or-take (n * 2) ws (x * 2 + 1) (pos 0) (omega (arith, g)) ∙ (t x g).1)) (limit_at f.0 f.1 x g)))
