-- There is one answer only.
--   narrowest_only, limit_only, offsets_only
--                  there are no other narrowest limits, no other words of a record, and no other answer
-- Assumes nothing.
use Rattle.std.specs.Prelude.{◌≡◌, refl, ◌⊎◌, List, ℕ, zero, suc, ◌+◌, ◌*◌, ◌/◌, ◌%◌, ◌<◌, ℤ, pos, ◌-ℤ◌, length, get_or, ◌≤ℤ◌}
use Rattle.std.proofs.Common.{sym, ap, ◌∙◌, subst, inl, inr, arith, ext_get_or}
use Rattle.offsets.specs.declared.Tie.{Tie}
use Rattle.offsets.proofs.LinearLaws.{to_eq, of_sub, of_pos, ≤ℤ-antisym}
use Rattle.offsets.specs.Offsets.{Placing, Places, Narrowest, Limit, itself, joined, free, Answer, limits, OffsetsAre, none, some}

pub narrowest_only : (ts : List Tie) (base x : ℕ) (lo hi lo' hi' : ℤ) → Narrowest ts base x lo hi → Narrowest ts base x lo' hi' → (lo ≡ lo') × (hi ≡ hi')
narrowest_only ts base x lo hi lo' hi' a b = (
  ≤ℤ-antisym (low_under lo lo' hi a b.low) (low_under lo' lo hi' b a.low),
  ≤ℤ-antisym (high_over lo' hi hi' b a.high) (high_over lo hi' hi a b.high),
)
  where
    low_under : (l m h : ℤ) → Narrowest ts base x l h → (p : Placing) × (Places p ts × (p x -ℤ p base ≡ m)) → l ≤ℤ m
    low_under l m h a (p, (k, e)) = subst (λ (z : ℤ). l ≤ℤ z) e (a.holds p k).0

    high_over : (l m h : ℤ) → Narrowest ts base x l h → (p : Placing) × (Places p ts × (p x -ℤ p base ≡ m)) → m ≤ℤ h
    high_over l m h a (p, (k, e)) = subst (λ (z : ℤ). z ≤ℤ h) e (a.holds p k).1

itself_narrowest : (ts : List Tie) (base : ℕ) (lo hi : ℤ) → Narrowest ts base base lo hi → (lo ≡ pos 0) × (hi ≡ pos 0)
itself_narrowest ts base lo hi a = (zero_at lo a.low, zero_at hi a.high)
  where
    zero_at : (z : ℤ) → (p : Placing) × (Places p ts × (p base -ℤ p base ≡ z)) → z ≡ pos 0
    zero_at z (p, (k, e)) = sym e ∙ (let v = of_pos 0 in to_eq (p base -ℤ p base) (pos 0) (omega (arith, of_sub (p base) (p base), v.0, v.1)))

-- the limits of a record that is the base
limit_itself : (ts : List Tie) (base x : ℕ) (lo hi : ℤ) → x ≡ base → Limit ts base x lo hi → (pos 0 ≡ lo) × (pos 0 ≡ hi)
limit_itself ts base x lo hi e itself = (refl, refl)
limit_itself ts base x lo hi e (joined j b) =
    let r = itself_narrowest ts base lo hi (subst (λ (k : ℕ). Narrowest ts base k lo hi) e b) in (sym r.0, sym r.1)
limit_itself ts base x lo hi e (free ne f) = absurd (ne e)

pub limit_only : (ts : List Tie) (base x : ℕ) (lo hi lo' hi' : ℤ) → Limit ts base x lo hi → Limit ts base x lo' hi' → (lo ≡ lo') × (hi ≡ hi')
limit_only ts base x lo hi lo' hi' itself b = limit_itself ts base x lo' hi' refl b
limit_only ts base x lo hi lo' hi' (joined j a) itself = itself_narrowest ts base lo hi a
limit_only ts base x lo hi lo' hi' (joined j a) (joined k b) = narrowest_only ts base x lo hi lo' hi' a b
limit_only ts base x lo hi lo' hi' (joined j a) (free ne f) = absurd (f j)
limit_only ts base x lo hi lo' hi' (free ne f) itself = absurd (ne refl)
limit_only ts base x lo hi lo' hi' (free ne f) (joined j b) = absurd (f j)
limit_only ts base x lo hi lo' hi' (free ne f) (free ne' g) = (refl, refl)

-- a place in the list is one of the two words of a record
words_only : (n : ℕ) (v w : List ℤ) → length v ≡ n * 2 → length w ≡ n * 2
    → ((x : ℕ) → x < n → (get_or v (x * 2) (pos 0) ≡ get_or w (x * 2) (pos 0)) × (get_or v (x * 2 + 1) (pos 0) ≡ get_or w (x * 2 + 1) (pos 0))) → v ≡ w
words_only n v w a b f = ext_get_or (pos 0) v w (a ∙ sym b) (λ i h. by i (split i) (let z : i / 2 < n = omega (arith, h, a) in z))
  where
    split : (i : ℕ) → (i ≡ i / 2 * 2) ⊎ (i ≡ i / 2 * 2 + 1)
    split i = go (i % 2) refl
      where
        go : (r : ℕ) → i % 2 ≡ r → (i ≡ i / 2 * 2) ⊎ (i ≡ i / 2 * 2 + 1)
        go zero e = inl (omega (arith, e))
        go (suc r) e = inr (omega (arith, e))

    by : (i : ℕ) → (i ≡ i / 2 * 2) ⊎ (i ≡ i / 2 * 2 + 1) → i / 2 < n → get_or v i (pos 0) ≡ get_or w i (pos 0)
    by i (inl e) h = subst (λ (j : ℕ). get_or v j (pos 0) ≡ get_or w j (pos 0)) (sym e) (f (i / 2) h).0
    by i (inr e) h = subst (λ (j : ℕ). get_or v j (pos 0) ≡ get_or w j (pos 0)) (sym e) (f (i / 2) h).1

pub offsets_only : (n base : ℕ) (ts : List Tie) (a b : Answer) → OffsetsAre n base ts a → OffsetsAre n base ts b → a ≡ b
offsets_only n base ts a b (none f) (none g) = refl
offsets_only n base ts a b (none f) (some p h e w) = absurd (f p h)
offsets_only n base ts a b (some p h e w) (none f) = absurd (f p h)
offsets_only n base ts a b (some {ws = v} p h e f) (some {ws = w} q k d g) =
    ap limits (words_only n v w e d (λ x l. limit_only ts base x _ _ _ _ (f x l) (g x l)))
