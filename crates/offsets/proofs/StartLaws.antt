-- The list before the first pass, written in turn.
--   Begun n base i l  the first i numbers are as they are to be
-- Assumes nothing.
use mathlib.Core.Path.{◌≡◌, sym, ap, ◌∙◌}
use Prim.Native.Nat.{ℕ, ◌+◌, ◌*◌, ◌<◌, ◌≤◌, ◌^◌}
use native.Mathlib.Nat.{not-suc-le-zero}
use native.Mathlib.Omega.{arith}
use mathlib.Core.List.{List}
use lib.IntN.{ℤ, pos}
use lib.ListN.{length, set}
use lib.Signed.{mag}
use mir.Syntax.{w64}
use mir.Val.{to_z, of_z}
use borrow.Author.Tests.{lt-ltb, le-ltb, eq-eqb, ne_eqb}
use Rattle.offsets.specs.Relax.{dist}
use Rattle.offsets.proofs.ArcLaws.{set_ind}
use Rattle.offsets.specs.Thirds.{firstly, Starts}
use Rattle.offsets.proofs.ThirdsLaws.{firstly_ind}
use Rattle.offsets.proofs.IntegerLaws.{bits_back}

abbrev pub Begun : ℕ → ℕ → ℕ → List ℤ → Type 0
Begun n base i l = (k : ℕ) → k < i → dist l k ≡ firstly n base k

pub begun_none : (n base : ℕ) (l : List ℤ) → Begun n base 0 l
begun_none n base l k h = absurd (not-suc-le-zero h)

firstly_fits : (n base i : ℕ) → mag (firstly n base i) < 2 ^ 63
firstly_fits n base i = firstly_ind n base i (λ z. mag z < 2 ^ 63) (λ _. omega arith) (λ _. omega arith) (λ _. omega arith) (λ _. omega arith)

pub begun_more : (n base i : ℕ) (l : List ℤ) (v : ℤ) → i < length l → v ≡ firstly n base i
    → Begun n base i l → Begun n base (i + 1) (set l i (to_z w64 (of_z w64 v)))
begun_more n base i l v g e b k h =
    set_ind l i (to_z w64 (of_z w64 v)) g k (λ z. z ≡ firstly n base k)
    (λ q. ap (λ (z : ℤ). to_z w64 (of_z w64 z)) e ∙ bits_back w64 (firstly n base i) (firstly_fits n base i) ∙ ap (firstly n base) (sym q))
    (λ q. b k (omega (arith, h, q)))

pub begun_all : (n base i m : ℕ) (l : List ℤ) → length l ≡ m → m ≡ n * 3 → m ≤ i → Begun n base i l → Starts n base l
begun_all n base i m l e d g b = (e ∙ d, λ k h. b k (omega (arith, d, g, h)))

-- the four ways through `first_number`
module _ (n base i : ℕ) where
  pub at_zero : i < n → pos 0 ≡ firstly n base i
  unfolding firstly
  at_zero h = rw (lt-ltb _ _ h)

  pub at_most : n ≤ i → i ≡ n + base → pos 0 ≡ firstly n base i
  unfolding firstly
  at_most h e = rw (le-ltb _ _ h, eq-eqb _ _ e)

  pub at_least : n ≤ i → (i ≡ n + base → ⊥) → i ≡ n * 2 + base → pos 0 ≡ firstly n base i
  unfolding firstly
  at_least h d e = rw (le-ltb _ _ h, ne_eqb _ _ d, eq-eqb _ _ e)

  pub at_far : n ≤ i → (i ≡ n + base → ⊥) → (i ≡ n * 2 + base → ⊥) → pos (2 ^ 62) ≡ firstly n base i
  unfolding firstly
  at_far h d e = rw (le-ltb _ _ h, ne_eqb _ _ d, ne_eqb _ _ e)
