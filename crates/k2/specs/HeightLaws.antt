-- Laws of `height` and `tree_unit`. Assumes nothing.
use Rattle.std.specs.Prelude.{◌≡◌, refl, Bool, true, false, ℕ, zero, suc, ◌+◌, ◌^◌, ◌≤◌, ◌<◌, leb}
use Rattle.std.proofs.Common.{pow-suc, arith, leb-true, leb-false}
use Rattle.std.proofs.Math.Decide.{dec_lt}
use Rattle.book.specs.Basics.{pick}
use Rattle.k2.specs.Trees.{rise, height, tree_unit}

-- below what `rise` finds no power of two is enough
rise_least : (f h n : ℕ) → ((k : ℕ) → 1 ≤ k → k < h → 2 ^ k < n) → (k : ℕ) → 1 ≤ k → k < rise f h n → 2 ^ k < n
unfolding rise
rise_least zero h n b k l m = b k l m
rise_least (suc f) h n b k l m = go (leb n (2 ^ h)) refl m (rise_least f (suc h) n)
  where
    go : (t : Bool) → leb n (2 ^ h) ≡ t → k < pick t h (rise f (suc h) n)
        → (((k : ℕ) → 1 ≤ k → k < suc h → 2 ^ k < n) → (k : ℕ) → 1 ≤ k → k < rise f (suc h) n → 2 ^ k < n) → 2 ^ k < n
    go true q m ih = b k l m
    go false q m ih = ih (λ j i c. next j i c (dec_lt j h)) k l m
      where
        next : (j : ℕ) → 1 ≤ j → j < suc h → Dec (j < h) → 2 ^ j < n
        next j i c (yes d) = b j i d
        next j i c (no d) = let z : j ≡ h = omega arith in rw z (leb-false n (2 ^ h) q)

rise_enough : (f h n : ℕ) → n ≤ 2 ^ (h + f) → n ≤ 2 ^ rise f h n
unfolding rise
rise_enough zero h n b = let z : h + 0 ≡ h = omega arith in rw z at b
rise_enough (suc f) h n b = go (leb n (2 ^ h)) refl (rise_enough f (suc h) n (let z : suc h + f ≡ h + suc f = omega arith in rw z b))
  where
    go : (t : Bool) → leb n (2 ^ h) ≡ t → n ≤ 2 ^ rise f (suc h) n → n ≤ 2 ^ pick t h (rise f (suc h) n)
    go true q ih = leb-true n (2 ^ h) q
    go false q ih = ih

rise_above : (f h n : ℕ) → h ≤ rise f h n
unfolding rise
rise_above zero h n = omega arith
rise_above (suc f) h n = go (leb n (2 ^ h)) (rise_above f (suc h) n)
  where
    go : (t : Bool) → suc h ≤ rise f (suc h) n → h ≤ pick t h (rise f (suc h) n)
    go true ih = omega arith
    go false ih = omega arith

power_above : (n : ℕ) → suc n ≤ 2 ^ n
power_above zero = omega arith
power_above (suc n) = omega (arith, power_above n, pow-suc 2 n)

-- the side is the smallest power of two that is at least n, and at least 2
pub height_is : (n : ℕ) → (1 ≤ height n) × (n ≤ 2 ^ height n) × ((h : ℕ) → 1 ≤ h → n ≤ 2 ^ h → height n ≤ h)
unfolding height
height_is n = (rise_above n 1 n, rise_enough n 1 n enough, λ h l m. go h l m (dec_lt h (rise n 1 n)))
  where
    enough : n ≤ 2 ^ (1 + n)
    enough = let z : 1 + n ≡ suc n = omega arith in rw z (omega (arith, power_above (suc n)))

    go : (h : ℕ) → 1 ≤ h → n ≤ 2 ^ h → Dec (h < rise n 1 n) → rise n 1 n ≤ h
    go h l m (yes d) = absurd (let k = rise_least n 1 n (λ j i c. absurd (omega arith)) h l d in omega arith)
    go h l m (no d) = omega arith

pub height_most : (n : ℕ) → n ≤ 1024 → height n ≤ 10
height_most n l = (height_is n).2 10 (omega arith) l

-- the sizes that S5.9 names
pub units : (tree_unit 1024 ≡ 21846) × (tree_unit 64 ≡ 86)
unfolding tree_unit height rise
units = (refl, refl)
