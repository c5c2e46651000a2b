-- How far offsets reach: in every placing, a record that ties join to the base begins at most (n - 1) × 20,000 rings before or after it, so all words fit 32
-- bits. No path is made: as long as a tie joins a record within the bound to one beyond it, that one is taken out of the records not yet counted, and the bound
-- grows by 20,000.
--   Next c os      the record beyond the bound that a tie joins to one within
--   reach_near     the bound for any placing
--   words_near, words_fit
--                  so for the two words of a record
-- Assumes nothing.
use Rattle.std.specs.Prelude.{◌≡◌, refl, ◌⊎◌, List, [], ◌∷◌, Bool, true, false, ℕ, zero, suc, ◌+◌, ◌-◌, ◌*◌, ◌^◌, ◌<◌, ◌≤◌, leb, ℤ, pos, negsuc, neg_ℤ, ◌+ℤ◌}
use Rattle.std.specs.Prelude.{◌-ℤ◌, length}
use Rattle.std.proofs.Common.{sym, subst, inl, inr, true≢false, not-suc-le-zero, leb-true, leb-false, le-leb}
use Rattle.std.proofs.lemmas.Bool.{false≢true}
use native.Mathlib.Omega.{arith}
use Rattle.std.specs.Int.Signed.{mag}
use Rattle.book.specs.Basics.{In, here, there}
use Rattle.book.proofs.ListLaws.{in_none}
use Rattle.offsets.specs.declared.Tie.{Tie}
use Rattle.offsets.proofs.LinearLaws.{up, down, to_eq, of_add, of_sub, of_pos, of_neg_up, of_neg_down, ≤ℤ-trans}
use Rattle.offsets.specs.Offsets.{Placing, Places, Joined, self, onward, Limit, itself, joined, free}
use Rattle.offsets.proofs.SettleLaws.{out, out_length, out_others, span, span_length, span_all}
use Rattle.offsets.proofs.PassLaws.{Near, near_add, mag_parts}
use Rattle.offsets.proofs.ThirdLaws.{Allowed, Ready, near_ends, near_neg}
use Rattle.offsets.specs.Thirds.{Starts}
use Rattle.offsets.specs.Finds.{ran, least-word, most-word, Fits}
use Rattle.offsets.proofs.FindsLaws.{limit_at}

-- a tie that passes a test, or none
find : (f : Tie → Bool) (ts : List Tie) → ((t : Tie) → In t ts → f t ≡ false) ⊎ ((t : Tie) × (In t ts × (f t ≡ true)))
find f [] = inl (λ t h. absurd (in_none h refl))
find f (u ∷ ts) = go (f u) refl (find f ts)
  where
    go : (b : Bool) → f u ≡ b → ((t : Tie) → In t ts → f t ≡ false) ⊎ ((t : Tie) × (In t ts × (f t ≡ true)))
        → ((t : Tie) → In t (u ∷ ts) → f t ≡ false) ⊎ ((t : Tie) × (In t (u ∷ ts) × (f t ≡ true)))
    go true e r = inr (u, (here, e))
    go false e (inr (t, (i, k))) = inr (t, (there i, k))
    go false e (inl g) = inl both
      where
        both : (t : Tie) → In t (u ∷ ts) → f t ≡ false
        both t here = e
        both t (there i) = g t i

abbrev nearb : ℕ → ℤ → Bool
nearb c z = leb (up z + down z) c

abbrev differ : Bool → Bool → Bool
differ true true = false
differ true false = true
differ false true = true
differ false false = false

-- of the two parts of a number one is 0
parts : (z : ℤ) (c : ℕ) → Near c z → up z + down z ≤ c
unfolding up down
parts (pos n) c h = omega (arith, h.0)
parts (negsuc n) c h = omega (arith, h.1)

nearb_true : (c : ℕ) (z : ℤ) → nearb c z ≡ true → Near c z
nearb_true c z e = let h = leb-true (up z + down z) c e in (omega (arith, h), omega (arith, h))

nearb_false : (c : ℕ) (z : ℤ) → nearb c z ≡ false → Near c z → ⊥
nearb_false c z e k = let h = leb-false (up z + down z) c e in let p = parts z c k in let none : 1 ≤ 0 = omega (arith, h, p) in not-suc-le-zero none

near_more : (c d : ℕ) (z : ℤ) → c ≤ d → Near c z → Near d z
near_more c d z h k = (omega (arith, h, k.0), omega (arith, h, k.1))

module _ (n : ℕ) (ts : List Tie) (allowed : (t : Tie) → In t ts → Allowed n t) (base : ℕ) (base_in : base < n) (p : Placing) (places : Places p ts) where
  abbrev q : ℕ → ℤ
  q x = p x -ℤ p base

  -- across a tie, in either direction
  over : (t : Tie) → In t ts → (c : ℕ) → Near c (q t.first) → Near (c + 20000) (q t.second)
  over t i c h = subst (Near (c + 20000)) (joint (p t.first) (p t.second) (p base)) (near_add c 20000 (q t.first) (p t.second -ℤ p t.first) h
      (near_ends (p t.second -ℤ p t.first) (≤ℤ-trans (allowed t i).least_in (places t i).0) (≤ℤ-trans (places t i).1 (allowed t i).most_in)))
    where
      joint : (x y b : ℤ) → (x -ℤ b) +ℤ (y -ℤ x) ≡ y -ℤ b
      joint x y b = to_eq ((x -ℤ b) +ℤ (y -ℤ x)) (y -ℤ b) (omega (arith, of_add (x -ℤ b) (y -ℤ x), of_sub x b, of_sub y x, of_sub y b))

  back : (t : Tie) → In t ts → (c : ℕ) → Near c (q t.second) → Near (c + 20000) (q t.first)
  back t i c h =
      subst (Near (c + 20000)) (joint (p t.first) (p t.second) (p base)) (near_add c 20000 (q t.second) (neg_ℤ (p t.second -ℤ p t.first)) h
      (near_neg (p t.second -ℤ p t.first)
      (near_ends (p t.second -ℤ p t.first) (≤ℤ-trans (allowed t i).least_in (places t i).0) (≤ℤ-trans (places t i).1 (allowed t i).most_in))))
    where
      joint : (x y b : ℤ) → (y -ℤ b) +ℤ neg_ℤ (y -ℤ x) ≡ x -ℤ b
      joint x y b =
          to_eq ((y -ℤ b) +ℤ neg_ℤ (y -ℤ x)) (x -ℤ b)
          (omega (arith, of_add (y -ℤ b) (neg_ℤ (y -ℤ x)), of_neg_up (y -ℤ x), of_neg_down (y -ℤ x), of_sub x b, of_sub y x, of_sub y b))

  base_near : (c : ℕ) → Near c (q base)
  base_near c = let e : q base ≡ pos 0 = let v = of_pos 0 in to_eq (p base -ℤ p base) (pos 0) (omega (arith, of_sub (p base) (p base), v.0, v.1)) in
      subst (Near c) (sym e) (let v = of_pos 0 in (omega (arith, v.0), omega (arith, v.1)))

  abbrev crosses : ℕ → Tie → Bool
  crosses c t = differ (nearb c (q t.first)) (nearb c (q t.second))

  -- where no tie crosses the bound, all that is joined lies within
  within : (c : ℕ) → ((t : Tie) → In t ts → crosses c t ≡ false) → {x : ℕ} → Joined ts base x → nearb c (q x) ≡ true
  within c f self = le-leb (up (q base) + down (q base)) c (parts (q base) c (base_near c))
  within c f (onward t j i (inl (e, g))) =
      subst (λ (x : ℕ). nearb c (q x) ≡ true) g
      (step (nearb c (q t.first)) (nearb c (q t.second)) (subst (λ (x : ℕ). nearb c (q x) ≡ true) (sym e) (within c f j)) (f t i))
    where
      step : (a b : Bool) → a ≡ true → differ a b ≡ false → b ≡ true
      step true true h d = refl
      step true false h d = absurd (true≢false d)
      step false b h d = absurd (false≢true h)
  within c f (onward t j i (inr (e, g))) =
      subst (λ (x : ℕ). nearb c (q x) ≡ true) g
      (step (nearb c (q t.first)) (nearb c (q t.second)) (subst (λ (x : ℕ). nearb c (q x) ≡ true) (sym e) (within c f j)) (f t i))
    where
      step : (a b : Bool) → b ≡ true → differ a b ≡ false → a ≡ true
      step true true h d = refl
      step false true h d = absurd (true≢false d)
      step a false h d = absurd (false≢true h)

  abbrev Counted : ℕ → List ℕ → Type 0
  Counted c os = (x : ℕ) → x < n → In x os ⊎ Near c (q x)

  -- one record more
  count : (c : ℕ) (os : List ℕ) → Counted c os → (v : ℕ) (i : In v os) → Near (c + 20000) (q v) → Counted (c + 20000) (out v os i)
  count c os h v i k x g = go (h x g)
    where
      go : In x os ⊎ Near c (q x) → In x (out v os i) ⊎ Near (c + 20000) (q x)
      go (inr m) = inr (near_more c (c + 20000) (q x) (omega arith) m)
      go (inl j) = by (out_others v os i x j)
        where
          by : (x ≡ v) ⊎ In x (out v os i) → In x (out v os i) ⊎ Near (c + 20000) (q x)
          by (inl e) = inr (subst (λ (y : ℕ). Near (c + 20000) (q y)) (sym e) k)
          by (inr m) = inl m

  -- the record beyond the bound that a tie joins to one within
  record Next (c : ℕ) (os : List ℕ) : Type 0 where
    v : ℕ
    member : In v os
    near : Near (c + 20000) (q v)

  next : (c : ℕ) (os : List ℕ) → Counted c os → (t : Tie) → In t ts → crosses c t ≡ true → Next c os
  next c os h t i k = go (nearb c (q t.first)) (nearb c (q t.second)) refl refl k
    where
      beyond : (v : ℕ) → v < n → nearb c (q v) ≡ false → Near (c + 20000) (q v) → Next c os
      beyond v g e m = by (h v g)
        where
          by : In v os ⊎ Near c (q v) → Next c os
          by (inl j) = record { v = v; member = j; near = m }
          by (inr w) = absurd (nearb_false c (q v) e w)

      go : (a b : Bool) → nearb c (q t.first) ≡ a → nearb c (q t.second) ≡ b → differ a b ≡ true → Next c os
      go true true e g d = absurd (false≢true d)
      go false false e g d = absurd (false≢true d)
      go true false e g d = beyond t.second (allowed t i).second_in g (over t i c (nearb_true c (q t.first) e))
      go false true e g d = beyond t.first (allowed t i).first_in e (back t i c (nearb_true c (q t.second) g))

  grow_step : (k c : ℕ) (os : List ℕ) → Counted c os → (x : ℕ) → Joined ts base x → (Next c os → Near (c + k * 20000) (q x)) → Near (c + k * 20000) (q x)
  grow_step k c os h x j f = go (find (crosses c) ts)
    where
      go : ((t : Tie) → In t ts → crosses c t ≡ false) ⊎ ((t : Tie) × (In t ts × (crosses c t ≡ true))) → Near (c + k * 20000) (q x)
      go (inl none) = near_more c (c + k * 20000) (q x) (omega arith) (nearb_true c (q x) (within c none j))
      go (inr (t, (i, e))) = f (next c os h t i e)

  grow : (k c : ℕ) (os : List ℕ) → length os ≤ k → Counted c os → (x : ℕ) → Joined ts base x → Near (c + k * 20000) (q x)
  grow zero c os l h x j =
      grow_step zero c os h x j (λ m. absurd (let e = out_length m.v os m.member in let none : 1 ≤ 0 = omega (arith, e, l) in not-suc-le-zero none))
  grow (suc k) c os l h x j =
      grow_step (suc k) c os h x j (λ m. subst (λ (d : ℕ). Near d (q x)) (let z : c + 20000 + k * 20000 ≡ c + suc k * 20000 = omega arith in z)
      (grow k (c + 20000) (out m.v os m.member) (let e = out_length m.v os m.member in
      omega (arith, e, l)) (count c os h m.v m.member m.near) x j))

  all : (x : ℕ) → x < n → In x (span 0 n)
  all x h = span_all 0 n x (omega arith) (omega (arith, h))

  pub reach_near : {x : ℕ} → Joined ts base x → Near ((n - 1) * 20000) (p x -ℤ p base)
  reach_near {x} j = subst (λ (d : ℕ). Near d (q x)) (let z : 0 + (n - 1) * 20000 ≡ (n - 1) * 20000 = omega arith in z)
      (grow (n - 1) 0 (out base (span 0 n) at) (let e = out_length base (span 0 n) at in let g = span_length 0 n in omega (arith, e, g)) first x j)
    where
      at : In base (span 0 n)
      at = all base base_in

      first : Counted 0 (out base (span 0 n) (all base base_in))
      first y g = by (out_others base (span 0 n) (all base base_in) y (all y g))
        where
          by : (y ≡ base) ⊎ In y (out base (span 0 n) (all base base_in)) → In y (out base (span 0 n) (all base base_in)) ⊎ Near 0 (q y)
          by (inl e) = inr (subst (λ (z : ℕ). Near 0 (q z)) (sym e) (base_near 0))
          by (inr i) = inl i

-- so for all words, those of free records too
module _ (n base : ℕ) (ts : List Tie) (ready : Ready n ts) (base_in : base < n)
    (l : List ℤ) (starts : Starts n base l) (f : Placing) (places : Places f ts) where
  attained_near : (x : ℕ) (z : ℤ) → Joined ts base x → (p : Placing) × (Places p ts × (p x -ℤ p base ≡ z)) → Near 20460000 z
  attained_near x z j (p, (h, e)) = let r = reach_near n ts ready.allowed base base_in p h j in
      subst (Near 20460000) e (near_more ((n - 1) * 20000) 20460000 (p x -ℤ p base) (let k = ready.few_records in omega (arith, k)) r)

  pub words_near : (x : ℕ) → x < n → Near 20460000 (least-word n (ran n ts l).0 x) × Near 20460000 (most-word n (ran n ts l).0 x)
  unfolding up down
  words_near x g = go x (least-word n (ran n ts l).0 x) (most-word n (ran n ts l).0 x) (limit_at n base ts ready base_in l starts f places x g)
    where
      go : (y : ℕ) (lo hi : ℤ) → Limit ts base y lo hi → Near 20460000 lo × Near 20460000 hi
      go y lo hi itself = ((omega arith, omega arith), (omega arith, omega arith))
      go y lo hi (joined j w) = (attained_near y lo j w.low, attained_near y hi j w.high)
      go y lo hi (free ne g) = ((omega arith, omega arith), (omega arith, omega arith))

  -- so they fit 32 bits, as `tell` asks
  pub words_fit : Fits n (ran n ts l).0
  words_fit x g = let w = words_near x g in (fit (least-word n (ran n ts l).0 x) w.0, fit (most-word n (ran n ts l).0 x) w.1)
    where
      fit : (z : ℤ) → Near 20460000 z → mag z < 2 ^ 31
      fit z h = let m = mag_parts z in omega (arith, m, h.0, h.1)
