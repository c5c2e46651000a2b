-- Laws of ranks: the rank grows with the record, tells the records apart that pass the test, and every number below the count is the rank of one of them.
--   nth u n i       of the records below n that pass the test u, the one whose rank is i
-- Assumes nothing.
use Rattle.std.specs.Prelude.{◌≡◌, Bool}
use Rattle.std.proofs.Math.Path.{refl, ap}
use Rattle.std.proofs.Common.{sym, ap₂, ◌∙◌, true≢false}
use Rattle.std.proofs.Math.Bool.{true, false}
use Prim.Native.Nat.{ℕ, zero, suc, ◌≤◌, ◌<◌}
use native.Mathlib.Omega.{arith}
use Rattle.std.proofs.Math.Decide.{dec_lt}
use Rattle.std.proofs.Math.Dec.{eqb}
use borrow.Author.Tests.{eqb-true, eqb-false, eq-eqb, ne_eqb}
use Rattle.book.specs.Basics.{pick}
use Rattle.book.specs.Book.{rank}

module _ (u : ℕ → Bool) where
  pub rank_passed : (x : ℕ) → u x ≡ true → rank u (suc x) ≡ suc (rank u x)
  unfolding rank
  rank_passed x e = rw e

  pub rank_failed : (x : ℕ) → u x ≡ false → rank u (suc x) ≡ rank u x
  unfolding rank
  rank_failed x e = rw e

  rank_up : (x : ℕ) → rank u x ≤ rank u (suc x)
  unfolding rank
  rank_up x = go (u x)
    where
      go : (b : Bool) → rank u x ≤ pick b (suc (rank u x)) (rank u x)
      go true = omega arith
      go false = omega arith

  pub rank_mono : (x y : ℕ) → x ≤ y → rank u x ≤ rank u y
  rank_mono x zero h = let e : x ≡ 0 = omega arith in rw e (omega arith)
  rank_mono x (suc y) h = go (dec_lt y x) (rank_mono x y)
    where
      go : Dec (y < x) → (x ≤ y → rank u x ≤ rank u y) → rank u x ≤ rank u (suc y)
      go (yes l) ih = let e : x ≡ suc y = omega arith in rw e (omega arith)
      go (no l) ih = omega (arith, ih (omega arith), rank_up y)

  pub rank_less : (x y : ℕ) → u x ≡ true → x < y → rank u x < rank u y
  rank_less x y e h = omega (arith, rank_mono (suc x) y h, rank_passed x e)

  pub rank_le : (n : ℕ) → rank u n ≤ n
  unfolding rank
  rank_le zero = omega arith
  rank_le (suc n) = go (u n) (rank_le n)
    where
      go : (b : Bool) → rank u n ≤ n → pick b (suc (rank u n)) (rank u n) ≤ suc n
      go true ih = omega arith
      go false ih = omega arith

  unfoldable pub nth : ℕ → ℕ → ℕ
  nth zero i = 0
  nth (suc n) i = pick (u n) (pick (eqb (rank u n) i) n (nth n i)) (nth n i)

  pub nth_rank : (n x : ℕ) → u x ≡ true → x < n → nth n (rank u x) ≡ x
  unfolding nth
  nth_rank zero x e h = absurd (omega arith)
  nth_rank (suc n) x e h = go (dec_lt x n) (u n) refl (nth_rank n x e)
    where
      go : Dec (x < n) → (b : Bool) → u n ≡ b → (x < n → nth n (rank u x) ≡ x)
          → pick b (pick (eqb (rank u n) (rank u x)) n (nth n (rank u x))) (nth n (rank u x)) ≡ x
      go (yes l) true q ih = rw (ne_eqb (rank u n) (rank u x) (λ z. let k = rank_less x n e l in omega arith)) (ih l)
      go (yes l) false q ih = ih l
      go (no l) true q ih = let z : x ≡ n = omega arith in rw (z, eq-eqb (rank u n) (rank u n) refl)
      go (no l) false q ih = let z : x ≡ n = omega arith in absurd (true≢false (sym e ∙ ap u z ∙ q))

  pub nth_is : (n i : ℕ) → i < rank u n → (u (nth n i) ≡ true) × (nth n i < n) × (rank u (nth n i) ≡ i)
  unfolding nth rank
  nth_is zero i h = absurd (omega arith)
  nth_is (suc n) i h = go (u n) refl h (eqb (rank u n) i) refl (nth_is n i)
    where
      go : (b : Bool) → u n ≡ b → i < pick b (suc (rank u n)) (rank u n) → (t : Bool) → eqb (rank u n) i ≡ t
          → (i < rank u n → (u (nth n i) ≡ true) × (nth n i < n) × (rank u (nth n i) ≡ i))
          → (u (pick b (pick t n (nth n i)) (nth n i)) ≡ true) × (pick b (pick t n (nth n i)) (nth n i) < suc n)
          × (rank u (pick b (pick t n (nth n i)) (nth n i)) ≡ i)
      go true q h true r ih = (q, omega arith, eqb-true (rank u n) i r)
      go true q h false r ih = let d = ih (omega (arith, eqb-false (rank u n) i r)) in (d.0, omega (arith, d.1), d.2)
      go false q h t r ih = let d = ih h in (d.0, omega (arith, d.1), d.2)

  -- two records that pass the test have two ranks
  pub rank_apart : (n x y : ℕ) → u x ≡ true → u y ≡ true → x < n → y < n → rank u x ≡ rank u y → x ≡ y
  rank_apart n x y p q h l e = sym (nth_rank n x p h) ∙ ap (nth n) e ∙ nth_rank n y q l

-- the rank is of the tests below
pub rank_same : (u v : ℕ → Bool) (n : ℕ) → ((x : ℕ) → x < n → u x ≡ v x) → (x : ℕ) → x ≤ n → rank u x ≡ rank v x
unfolding rank
rank_same u v n h zero l = refl
rank_same u v n h (suc x) l = ap₂ (λ (t : Bool) (k : ℕ). pick t (suc k) k) (h x (omega arith)) (rank_same u v n h x (omega arith))
