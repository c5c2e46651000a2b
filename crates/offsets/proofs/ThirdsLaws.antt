-- The three thirds of `Thirds` settle together: no arc joins two of them, so each settles as if alone, in the same n + 1 passes.
--   firstly_ind, firstly_base
--                    which number stands in the list at first; 0 or less at the base
--   three n f p q    a placing of each third, as one of all
--   Part             the three thirds
--   thirds_settle    if there is a placing, n + 1 passes end with one that changes nothing
--   length_passed, near_at, base_at
--                    of the list after n + 1 passes: its length, how large its numbers are, 0 or less at the base
--   known_joined     what is known in the second third is joined to the base
--   second_holds, third_holds
--                    after a pass that changed nothing the arcs of the second and the third hold
--   first_places     if it did, the first third is a placing
--   under_second, under_third
--                    no placing goes beyond the second and the third
-- Assumes nothing.
use Rattle.std.specs.Prelude.{◌≡◌, refl, ◌⊎◌, List, Bool, true, false, ℕ, suc, ◌+◌, ◌-◌, ◌*◌, ◌<◌, ◌≤◌, ltb, eqb, ℤ, pos, ◌+ℤ◌, ◌-ℤ◌, length, ◌≤ℤ◌}
use Rattle.std.proofs.Common.{sym, ◌∙◌, inl, inr, mul-le-mul, not-suc-le-zero, ltb-true, ltb-false, lt-ltb, le-ltb, eqb-true}
use Rattle.std.proofs.Math.Path.{ap, subst}
use native.Mathlib.Omega.{arith}
use Rattle.std.specs.Int.Signed.{≤ℤ_refl}
use Rattle.std.proofs.lemmas.Bool.{eqb-false}
use Rattle.book.specs.Basics.{In}
use Rattle.offsets.specs.declared.Tie.{Tie}
use Rattle.offsets.proofs.LinearLaws.{up, down, of_le, to_le, of_add, of_sub, of_pos, ≤ℤ-trans}
use Rattle.offsets.specs.Relax.{known, dist}
use Rattle.offsets.proofs.PlacingLaws.{Under, under_lower}
use Rattle.offsets.specs.Offsets.{Placing, Places, Joined, self}
use Rattle.offsets.proofs.ArcLaws.{Arc, up_arc, down_arc, arcs, arcs3, at, of_thirds, arc_in_first, arc_in_second, arc_in_third, length_arcs3}
use Rattle.offsets.specs.TurnedTies.{turned}
use Rattle.offsets.proofs.ArcLaws.{in_up}
use Rattle.offsets.proofs.ArcLaws.{in_down, Keeps, keeps_places, sums_meet}
use Rattle.offsets.proofs.SettleLaws.{passes, passes_settle, span, span_length, span_in, span_all}
use Rattle.offsets.proofs.PassLaws.{passes_keep, passes_length, passes_hold, passes_down, Near, near_known, known_not_far, Small, passes_ranged}
use Rattle.offsets.proofs.PassLaws.{passes_reached}
use Rattle.offsets.proofs.ThirdLaws.{Ready, far_over, ready_small, ready_inside, joined_arc}
use Rattle.offsets.proofs.TurnedTieLaws.{neg, turned_places, places_turned, turned_ready}
use Rattle.offsets.specs.Thirds.{far, choose, firstly, Starts}

choose_ind : (b : Bool) (y z : ℤ) (Q : ℤ → Type 0) → (b ≡ true → Q y) → (b ≡ false → Q z) → Q (choose b y z)
choose_ind true y z Q f g = f refl
choose_ind false y z Q f g = g refl

pub firstly_ind : (n base i : ℕ) (Q : ℤ → Type 0) → (i < n → Q (pos 0)) → (i ≡ n + base → Q (pos 0))
    → (i ≡ n * 2 + base → Q (pos 0)) → (n ≤ i → Q far) → Q (firstly n base i)
unfolding firstly
firstly_ind n base i Q f g h k =
    choose_ind (ltb i n) (pos 0) (choose (eqb i (n + base)) (pos 0) (choose (eqb i (n * 2 + base)) (pos 0) far)) Q (λ e. f (ltb-true i n e)) (λ e.
    choose_ind (eqb i (n + base)) (pos 0) (choose (eqb i (n * 2 + base)) (pos 0) far) Q (λ d. g (eqb-true i (n + base) d)) (λ _.
    choose_ind (eqb i (n * 2 + base)) (pos 0) far Q (λ d. h (eqb-true i (n * 2 + base) d)) (λ _. k (ltb-false i n e))))

pub firstly_base : (n base : ℕ) → (o : ℕ) → (o ≡ n) ⊎ (o ≡ n * 2) → base < n → firstly n base (o + base) ≤ℤ pos 0
unfolding firstly
firstly_base n base o h l = go h
  where
    go : (o ≡ n) ⊎ (o ≡ n * 2) → choose (ltb (o + base) n) (pos 0)
        (choose (eqb (o + base) (n + base)) (pos 0) (choose (eqb (o + base) (n * 2 + base)) (pos 0) far)) ≤ℤ pos 0
    go (inl e) =
        choose_ind (ltb (o + base) n) (pos 0) _ (λ z. z ≤ℤ pos 0) (λ _. ≤ℤ_refl (pos 0))
        (λ _. choose_ind (eqb (o + base) (n + base)) (pos 0) _ (λ z. z ≤ℤ pos 0) (λ _. ≤ℤ_refl (pos 0))
        (λ d. absurd (eqb-false (o + base) (n + base) d (ap (λ (m : ℕ). m + base) e))))
    go (inr e) =
        choose_ind (ltb (o + base) n) (pos 0) _ (λ z. z ≤ℤ pos 0) (λ _. ≤ℤ_refl (pos 0))
        (λ _. choose_ind (eqb (o + base) (n + base)) (pos 0) _ (λ z. z ≤ℤ pos 0) (λ _. ≤ℤ_refl (pos 0))
        (λ _. choose_ind (eqb (o + base) (n * 2 + base)) (pos 0) far (λ z. z ≤ℤ pos 0) (λ _. ≤ℤ_refl (pos 0))
        (λ d. absurd (eqb-false (o + base) (n * 2 + base) d (ap (λ (m : ℕ). m + base) e)))))

-- ---- a placing of each third, as one
unfoldable pub three : ℕ → Placing → Placing → Placing → Placing
three n f p q x = choose (ltb x n) (f x) (choose (ltb x (n * 2)) (p (x - n)) (q (x - n * 2)))

module _ (n : ℕ) (f p q : Placing) where
  three_0 : (x : ℕ) → x < n → three n f p q (0 + x) ≡ f x
  unfolding three
  three_0 x h =
      let e : 0 + x ≡ x = omega arith in
      ap (λ (y : ℕ). choose (ltb y n) (f y) (choose (ltb y (n * 2)) (p (y - n)) (q (y - n * 2)))) e
      ∙ ap (λ (b : Bool). choose b (f x) (choose (ltb x (n * 2)) (p (x - n)) (q (x - n * 2)))) (lt-ltb x n h)

  three_1 : (x : ℕ) → x < n → three n f p q (n + x) ≡ p x
  unfolding three
  three_1 x h =
      let e : n + x - n ≡ x = omega arith in
      ap (λ (b : Bool). choose b (f (n + x)) (choose (ltb (n + x) (n * 2)) (p (n + x - n)) (q (n + x - n * 2))))
      (le-ltb (n + x) n (let z : n ≤ n + x = omega arith in z))
      ∙ ap (λ (b : Bool). choose b (p (n + x - n)) (q (n + x - n * 2))) (lt-ltb (n + x) (n * 2) (let z : n + x < n * 2 = omega (arith, h) in z)) ∙ ap p e

  three_2 : (x : ℕ) → x < n → three n f p q (n * 2 + x) ≡ q x
  unfolding three
  three_2 x h =
      let e : n * 2 + x - n * 2 ≡ x = omega arith in
      ap (λ (b : Bool). choose b (f (n * 2 + x)) (choose (ltb (n * 2 + x) (n * 2)) (p (n * 2 + x - n)) (q (n * 2 + x - n * 2))))
      (le-ltb (n * 2 + x) n (let z : n ≤ n * 2 + x = omega arith in z))
      ∙ ap (λ (b : Bool). choose b (p (n * 2 + x - n)) (q (n * 2 + x - n * 2))) (le-ltb (n * 2 + x) (n * 2) (let z : n * 2 ≤ n * 2 + x = omega arith in z))
      ∙ ap q e

  keeps_three : (ts : List Tie) → Ready n ts → Keeps f (arcs ts) → Keeps p (arcs ts) → Keeps q (arcs (turned ts)) → Keeps (three n f p q) (arcs3 n ts)
  keeps_three ts ready hf hp hq = of_thirds n (λ a. three n f p q a.to ≤ℤ (three n f p q a.from +ℤ a.rise)) ts
      (λ b i. let g = ready_inside n ts ready b i in both b.rise (three_0 b.to g.1) (three_0 b.from g.0) (hf b i))
      (λ b i. let g = ready_inside n ts ready b i in both b.rise (three_1 b.to g.1) (three_1 b.from g.0) (hp b i))
      (λ b i. let g = ready_inside n (turned ts) (turned_ready n ts ready) b i in both b.rise (three_2 b.to g.1) (three_2 b.from g.0) (hq b i))
    where
      both : {u v x y : ℤ} (w : ℤ) → u ≡ x → v ≡ y → x ≤ℤ (y +ℤ w) → u ≤ℤ (v +ℤ w)
      both {u} {v} {x} {y} w e d h = subst (λ (z : ℤ). z ≤ℤ (v +ℤ w)) (sym e) (subst (λ (z : ℤ). x ≤ℤ (z +ℤ w)) (sym d) h)

-- ---- the thirds are apart
data Part : Type 0 where
  one : Part
  two : Part
  three' : Part

abbrev off : ℕ → Part → ℕ
off n one = 0
off n two = n
off n three' = n * 2

abbrev Lies : ℕ → Part → ℕ → Type 0
Lies n j x = (off n j ≤ x) × (x < off n j + n)

moves : (n : ℕ) (j : Part) (o : ℕ) → (o ≡ 0) ⊎ ((o ≡ n) ⊎ (o ≡ n * 2)) → (x y : ℕ) → x < n → y < n → Lies n j (o + y) → Lies n j (o + x)
moves n one o (inl e) x y a b h = (omega arith, omega (arith, e, a, b, h.0, h.1))
moves n one o (inr (inl e)) x y a b h = (omega arith, omega (arith, e, a, b, h.0, h.1))
moves n one o (inr (inr e)) x y a b h = (omega arith, omega (arith, e, a, b, h.0, h.1))
moves n two o (inl e) x y a b h = (omega (arith, e, a, b, h.0, h.1), omega (arith, e, a, b, h.0, h.1))
moves n two o (inr (inl e)) x y a b h = (omega (arith, e, a, b, h.0, h.1), omega (arith, e, a, b, h.0, h.1))
moves n two o (inr (inr e)) x y a b h = (omega (arith, e, a, b, h.0, h.1), omega (arith, e, a, b, h.0, h.1))
moves n three' o (inl e) x y a b h = (omega (arith, e, a, b, h.0, h.1), omega (arith, e, a, b, h.0, h.1))
moves n three' o (inr (inl e)) x y a b h = (omega (arith, e, a, b, h.0, h.1), omega (arith, e, a, b, h.0, h.1))
moves n three' o (inr (inr e)) x y a b h = (omega (arith, e, a, b, h.0, h.1), omega (arith, e, a, b, h.0, h.1))

module _ (n : ℕ) (ts : List Tie) (ready : Ready n ts) where
  turned_r : Ready n (turned ts)
  turned_r = turned_ready n ts ready

  small3 : Small (arcs3 n ts)
  small3 = of_thirds n (λ a. Near 20000 a.rise) ts (ready_small n ts ready) (ready_small n ts ready) (ready_small n (turned ts) turned_r)

  closed3 : (j : Part) (a : Arc) → In a (arcs3 n ts) → Lies n j a.to → Lies n j a.from
  closed3 j = of_thirds n (λ a. Lies n j a.to → Lies n j a.from) ts
      (λ b i. let g = ready_inside n ts ready b i in moves n j 0 (inl refl) b.from b.to g.0 g.1)
      (λ b i. let g = ready_inside n ts ready b i in moves n j n (inr (inl refl)) b.from b.to g.0 g.1)
      (λ b i. let g = ready_inside n (turned ts) turned_r b i in moves n j (n * 2) (inr (inr refl)) b.from b.to g.0 g.1)

  part3 : (a : Arc) → In a (arcs3 n ts) → (j : Part) × Lies n j a.from
  part3 = of_thirds n (λ a. (j : Part) × Lies n j a.from) ts
      (λ b i. let g = ready_inside n ts ready b i in let h = g.0 in (one, (omega arith, omega (arith, h))))
      (λ b i. let g = ready_inside n ts ready b i in let h = g.0 in (two, (omega arith, omega (arith, h))))
      (λ b i. let g = ready_inside n (turned ts) turned_r b i in let h = g.0 in (three', (omega arith, omega (arith, h))))

  keeps3 : (p : Placing) → Places p ts → Keeps (three n p p (neg p)) (arcs3 n ts)
  keeps3 p h = keeps_three n p p (neg p) ts ready (keeps_places p ts h) (keeps_places p ts h) (keeps_places (neg p) (turned ts) (turned_places p ts h))

  pub thirds_settle : (p : Placing) → Places p ts → (l : List ℤ) → length l ≡ n * 3 → (passes (suc n) (arcs3 n ts) (l, false)).1 ≡ false
  thirds_settle p h l e = passes_settle (three n p p (neg p)) (arcs3 n ts) (keeps3 p h) Part (Lies n) closed3 part3 n (l, false) (λ j. record {
    os = span (off n j) n;
    opened = record { inside = inside j; others = λ x g w. inl (span_all (off n j) n x w.0 w.1) };
    few = inl (let q = span_length (off n j) n in omega (arith, q));
  })
    where
      inside : (j : Part) (y : ℕ) → In y (span (off n j) n) → (y < length l) × Lies n j y
      inside j y i = let g = span_in (off n j) n y i in (bound j g.1, g)
        where
          bound : (j : Part) → y < off n j + n → y < length l
          bound one h = omega (arith, e, h)
          bound two h = omega (arith, e, h)
          bound three' h = omega (arith, e, h)

  -- ---- the list after n + 1 passes
  module _ (base : ℕ) (base_in : base < n) (l : List ℤ) (starts : Starts n base l) where
    abbrev L : List ℤ
    L = (passes (suc n) (arcs3 n ts) (l, false)).0

    -- the distances of a third
    abbrev d : ℕ → ℕ → ℤ
    d o x = dist L (o + x)

    pub length_passed : length L ≡ n * 3
    length_passed = passes_length (suc n) (arcs3 n ts) (l, false) ∙ starts.0

    in_L : {i : ℕ} → i < n * 3 → i < length L
    in_L {i} h = subst (λ (m : ℕ). i < m) (sym length_passed) h

    in_l : {i : ℕ} → i < length l → i < n * 3
    in_l {i} h = subst (λ (m : ℕ). i < m) starts.0 h

    at_first : (i : ℕ) → i < n * 3 → (Q : ℤ → Type 0) → Q (firstly n base i) → Q (dist l i)
    at_first i h Q q = subst Q (sym (starts.1 i h)) q

    zero_near : Near 0 (pos 0)
    unfolding up down
    zero_near = (omega arith, omega arith)

    L-ranged : (i : ℕ) → i < n * 3 → (dist L i ≡ far) ⊎ Near 125952000000 (dist L i)
    L-ranged i g =
        let e = length_arcs3 n ts in
        let h : suc n * 122880000 ≤ 1025 * 122880000 =
        mul-le-mul (let k = ready.few_records in let z : suc n ≤ 1025 = omega (arith, k) in z) (let z : 122880000 ≤ 122880000 = omega arith in z) in
        let w : length (arcs3 n ts) * 20000 ≤ 122880000 = let k = ready.few_ties in omega (arith, e, k) in
        more h (passes_ranged (suc n) (arcs3 n ts) small3 122880000 w 0 (l, false)
        (λ j b. at_first j (in_l b) (λ z. (z ≡ far) ⊎ Near 0 z)
        (firstly_ind n base j (λ z. (z ≡ far) ⊎ Near 0 z) (λ _. inr zero_near) (λ _. inr zero_near) (λ _. inr zero_near) (λ _. inl refl))) i (in_L g))
      where
        more : suc n * 122880000 ≤ 1025 * 122880000 → (dist L i ≡ far) ⊎ Near (0 + suc n * 122880000) (dist L i)
            → (dist L i ≡ far) ⊎ Near 125952000000 (dist L i)
        more h (inl e) = inl e
        more h (inr k) = inr (omega (arith, h, k.0), omega (arith, h, k.1))

    down_first : (i : ℕ) → i < n * 3 → dist L i ≤ℤ firstly n base i
    down_first i h = subst (λ (z : ℤ). dist L i ≤ℤ z) (starts.1 i h) (passes_down (suc n) (arcs3 n ts) (l, false) i)

    first_low : (x : ℕ) → x < n → dist L x ≤ℤ pos 0
    unfolding firstly
    first_low x h =
        subst (λ (z : ℤ). dist L x ≤ℤ z)
        (ap (λ (b : Bool). choose b (pos 0) (choose (eqb x (n + base)) (pos 0) (choose (eqb x (n * 2 + base)) (pos 0) far))) (lt-ltb x n h))
        (down_first x (omega (arith, h)))

    first_known : (x : ℕ) → x < n → known (dist L x) ≡ true
    first_known x h = go (L-ranged x (omega (arith, h)))
      where
        go : (dist L x ≡ far) ⊎ Near 125952000000 (dist L x) → known (dist L x) ≡ true
        go (inr k) = near_known 125952000000 (dist L x) (omega arith) k
        go (inl e) = absurd (far_over (subst (λ (z : ℤ). z ≤ℤ pos 0) e (first_low x h)))

    pub near_at : (o : ℕ) → o ≤ n * 2 → (x : ℕ) → x < n → (d o x ≡ far) ⊎ Near 125952000000 (d o x)
    near_at o g x h = L-ranged (o + x) (omega (arith, g, h))

    pub base_at : (o : ℕ) → (o ≡ n) ⊎ (o ≡ n * 2) → o ≤ n * 2 → d o base ≤ℤ pos 0
    base_at o h g = ≤ℤ-trans (down_first (o + base) (omega (arith, g, base_in))) (firstly_base n base o h base_in)

    -- ---- what is known in the second third
    pub known_joined : (x : ℕ) → x < n → known (d n x) ≡ true → Joined ts base x
    known_joined x h k = passes_reached R (arcs3 n ts) onward3 (suc n) (l, false)
        (λ i g. at_first i (in_l g) (λ z. known z ≡ true → R i)
        (firstly_ind n base i (λ z. known z ≡ true → R i) (λ b _ y c e. absurd (no_way i y b e)) (λ b _ y c e. same y (sym b ∙ e))
        (λ b _ y c e. absurd (no_way2 i y c b e)) (λ _ q. absurd (known_not_far far q refl))))
        (n + x) (in_L (let z : n + x < n * 3 = omega (arith, h) in z)) k x h refl
      where
        R : ℕ → Type 0
        R i = (y : ℕ) → y < n → i ≡ n + y → Joined ts base y

        no_way : (i y : ℕ) → i < n → i ≡ n + y → ⊥
        no_way i y b e = let none : 1 ≤ 0 = omega (arith, b, e) in not-suc-le-zero none

        no_way2 : (i y : ℕ) → y < n → i ≡ n * 2 + base → i ≡ n + y → ⊥
        no_way2 i y c b e = let none : 1 ≤ 0 = omega (arith, b, c, e) in not-suc-le-zero none

        same : (y : ℕ) → n + base ≡ n + y → Joined ts base y
        same y e = let q : base ≡ y = omega (arith, e) in subst (λ (z : ℕ). Joined ts base z) q self

        onward3 : (a : Arc) → In a (arcs3 n ts) → R a.from → R a.to
        onward3 = of_thirds n (λ a. R a.from → R a.to) ts
            (λ b i r y c e. let g = (ready_inside n ts ready b i).1 in absurd (let none : 1 ≤ 0 = omega (arith, g, e) in not-suc-le-zero none))
            (λ b i r y c e. let q : b.to ≡ y = omega (arith, e) in
            subst (λ (z : ℕ). Joined ts base z) q (joined_arc ts base b i (r b.from (ready_inside n ts ready b i).0 refl)))
            (λ b i r y c e. absurd (let none : 1 ≤ 0 = omega (arith, c, e) in not-suc-le-zero none))

    -- ---- after a pass that changed nothing
    module _ (quiet_holds : (passes (suc n) (arcs3 n ts) (l, false)).1 ≡ false) where
      hold_at : (us : List Tie) → Ready n us → (o : ℕ) → o ≤ n * 2 → ((b : Arc) → In b (arcs us) → In (at o b) (arcs3 n ts))
          → (b : Arc) → In b (arcs us) → known (d o b.from) ≡ true → d o b.to ≤ℤ (d o b.from +ℤ b.rise)
      hold_at us r o g into b i k = let h = ready_inside n us r b i in let f = h.0 in let t = h.1 in
          passes_hold n (arcs3 n ts) (l, false) quiet_holds (at o b) (into b i)
          (in_L (let z : o + b.from < n * 3 = omega (arith, g, f) in z)) (in_L (let z : o + b.to < n * 3 = omega (arith, g, t) in z)) k

      pub second_holds : (b : Arc) → In b (arcs ts) → known (d n b.from) ≡ true → d n b.to ≤ℤ (d n b.from +ℤ b.rise)
      second_holds = hold_at ts ready n (omega arith) (arc_in_second n ts)

      pub third_holds : (b : Arc) → In b (arcs (turned ts)) → known (d (n * 2) b.from) ≡ true → d (n * 2) b.to ≤ℤ (d (n * 2) b.from +ℤ b.rise)
      third_holds = hold_at (turned ts) turned_r (n * 2) (omega arith) (arc_in_third n ts)

      plain : (x : ℕ) → dist L (0 + x) ≡ dist L x
      plain x = let e : 0 + x ≡ x = omega arith in ap (dist L) e

      first_hold : (b : Arc) → In b (arcs ts) → dist L b.to ≤ℤ (dist L b.from +ℤ b.rise)
      first_hold b i =
          subst (λ (z : ℤ). z ≤ℤ (dist L b.from +ℤ b.rise)) (plain b.to) (subst (λ (z : ℤ). dist L (0 + b.to) ≤ℤ (z +ℤ b.rise)) (plain b.from)
          (hold_at ts ready 0 (omega arith) (arc_in_first n ts) b i
          (subst (λ (z : ℤ). known z ≡ true) (sym (plain b.from)) (first_known b.from (ready_inside n ts ready b i).0))))

      pub first_places : Places (dist L) ts
      first_places t i =
          sums_meet (dist L t.first) (dist L t.second) t.least t.most
          (first_hold (up_arc t) (in_up ts t i)) (first_hold (down_arc t) (in_down ts t i))

      -- a placing, shifted so that the base begins at 0, is at or under the distances of its third
      abbrev shift : Placing → Placing
      shift p x = p x -ℤ p base

      shift_arc : (x y z w : ℤ) → y ≤ℤ (x +ℤ w) → (y -ℤ z) ≤ℤ ((x -ℤ z) +ℤ w)
      shift_arc x y z w h = to_le (omega (arith, of_le h, of_add x w, of_sub y z, of_sub x z, of_add (x -ℤ z) w))

      shift_keeps : (us : List Tie) (p : Placing) → Places p us → Keeps (shift p) (arcs us)
      shift_keeps us p h a i = shift_arc (p a.from) (p a.to) (p base) a.rise (keeps_places p us h a i)

      less_self : (z : ℤ) → (z -ℤ z) ≤ℤ pos 0
      less_self z = let v = of_pos 0 in to_le (omega (arith, of_sub z z, v.0, v.1))

      under_all : (p q : Placing) → Places p ts → Places q (turned ts) → Under (three n (dist L) (shift p) (shift q)) L
      under_all p q hp hq = passes_keep (Under T) (arcs3 n ts) (λ a i s u. under_lower T a.from a.to a.rise s
          (keeps_three n (dist L) (shift p) (shift q) ts ready (λ b j. first_hold b j) (shift_keeps ts p hp) (shift_keeps (turned ts) q hq) a i)
          u) (suc n) (l, false)
          (λ i g. at_first i (in_l g) (λ z. known z ≡ true → T i ≤ℤ z) (firstly_ind n base i (λ z. known z ≡ true → T i ≤ℤ z)
          (λ b _. subst (λ (z : ℤ). z ≤ℤ pos 0) (sym (let e : i ≡ 0 + i = omega arith in ap T e ∙ three_0 n (dist L) (shift p) (shift q) i b)) (first_low i b))
          (λ b _. subst (λ (z : ℤ). z ≤ℤ pos 0) (sym (ap T b ∙ three_1 n (dist L) (shift p) (shift q) base base_in)) (less_self (p base)))
          (λ b _. subst (λ (z : ℤ). z ≤ℤ pos 0) (sym (ap T b ∙ three_2 n (dist L) (shift p) (shift q) base base_in)) (less_self (q base)))
          (λ _ k. absurd (known_not_far far k refl))))
        where
          T : Placing
          T = three n (dist L) (shift p) (shift q)

      pub under_second : (p : Placing) → Places p ts → (x : ℕ) → x < n → known (d n x) ≡ true → (p x -ℤ p base) ≤ℤ d n x
      under_second p h x g k = subst (λ (z : ℤ). z ≤ℤ d n x) (three_1 n (dist L) (shift p) (shift (neg p)) x g)
          (under_all p (neg p) h (turned_places p ts h) (n + x) (in_L (let z : n + x < n * 3 = omega (arith, g) in z)) k)

      pub under_third : (q : Placing) → Places q (turned ts) → (x : ℕ) → x < n → known (d (n * 2) x) ≡ true → (q x -ℤ q base) ≤ℤ d (n * 2) x
      under_third q h x g k = subst (λ (z : ℤ). z ≤ℤ d (n * 2) x) (three_2 n (dist L) (shift (neg q)) (shift q) x g)
          (under_all (neg q) q (places_turned q ts h) h (n * 2 + x) (in_L (let z : n * 2 + x < n * 3 = omega (arith, g) in z)) k)
