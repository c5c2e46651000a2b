-- Laws of totals: how many members of a list pass a test, without one of them too, and what each edit does to a sheet's totals. Assumes nothing.
use Rattle.std.specs.Prelude.{◌≡◌, Bool, ◌||◌, ℕ, ◌+◌, ◌≤◌, ◌<◌, length, eqb}
use Rattle.std.proofs.Math.Path.{refl, ap₂}
use Rattle.std.proofs.Common.{sym, ap, ◌∙◌, le-leb}
use mathlib.Core.List.{List, [], ◌∷◌, map}
use Rattle.std.proofs.Math.Bool.{true, false}
use Rattle.std.proofs.lemmas.Bool.{false≢true, lt-leb}
use native.Mathlib.Omega.{arith}
use Rattle.book.specs.Basics.{pick, bit, In, here, there, has, without, tally}
use Rattle.book.specs.Causes.{bad_label, number, first_number, labels}
use Rattle.book.specs.Book.{Link, same_link, Sheet, add, remove, lock, unlock, withdraw, reinstate, present, edited, total, total_number}
use Rattle.book.specs.Sheets.{Distinct}
use Rattle.book.proofs.SetLaws.{EqualityTest, same_link_test, without_absent}

bit_le : (b : Bool) → bit b ≤ 1
bit_le true = omega arith
bit_le false = omega arith

-- ---- members that pass a test
module _ {A : Type 0} (t : A → Bool) where
  pub tally_le : (l : List A) → tally t l ≤ length l
  unfolding tally
  tally_le [] = omega arith
  tally_le (x ∷ xs) = omega (arith, bit_le (t x), tally_le xs)

  -- renamed so that each passes as before
  pub tally_map : (f : A → A) (l : List A) → ((x : A) → In x l → t (f x) ≡ t x) → tally t (map f l) ≡ tally t l
  unfolding tally
  tally_map f [] h = refl
  tally_map f (x ∷ l) h = ap₂ (λ (p : Bool) (k : ℕ). bit p + k) (h x here) (tally_map f l (λ y i. h y (there i)))

  -- a member that stands once counts once
  pub tally_without : {same : A → A → Bool} → EqualityTest same → (x : A) (l : List A) → Distinct same l → has same x l ≡ true
      → tally t l ≡ bit (t x) + tally t (without same x l)
  unfolding tally Distinct without has
  tally_without T x [] d e = absurd (false≢true e)
  tally_without {same} T x (y ∷ ys) d e = go (same y x) refl e (tally_without T x ys d.1)
    where
      go : (u : Bool) → same y x ≡ u → (u || has same x ys) ≡ true → (has same x ys ≡ true → tally t ys ≡ bit (t x) + tally t (without same x ys))
          → bit (t y) + tally t ys ≡ bit (t x) + tally t (pick u (without same x ys) (y ∷ without same x ys))
      go true q e ih =
          let z : y ≡ x = T.sound y x q in
          let absent : without same x ys ≡ ys = without_absent T x ys (ap (λ (v : A). has same v ys) (sym z) ∙ d.0) in
          rw (absent, z)
      go false q e ih = omega (arith, ih e)

-- ---- totals

pub total-add : (k : Link) (s : Sheet) (l : ℕ) → total (edited (add k) s) l ≡ bit (eqb k.label l) + total s l
unfolding total edited tally
total-add k s l = refl

pub total_remove : (k : Link) (s : Sheet) (l : ℕ) → Distinct same_link s.links
    → present s k ≡ true → total s l ≡ bit (eqb k.label l) + total (edited (remove k) s) l
unfolding total edited
total_remove k s l d e = tally_without (λ j. eqb j.label l) same_link_test k s.links d e

-- a lock moves no total, and neither does a withdrawn record
pub total_lock : (r : ℕ) (s : Sheet) (l : ℕ) → total (edited (lock r) s) l ≡ total s l
unfolding total edited
total_lock r s l = refl

pub total_unlock : (r : ℕ) (s : Sheet) (l : ℕ) → total (edited (unlock r) s) l ≡ total s l
unfolding total edited
total_unlock r s l = refl

pub total_withdraw : (r : ℕ) (s : Sheet) (l : ℕ) → total (edited (withdraw r) s) l ≡ total s l
unfolding total edited
total_withdraw r s l = refl

pub total_reinstate : (r : ℕ) (s : Sheet) (l : ℕ) → total (edited (reinstate r) s) l ≡ total s l
unfolding total edited
total_reinstate r s l = refl

-- ---- the answer
pub total_told : (l : ℕ) → l < labels → total_number l ≡ 0
unfolding total_number first_number
total_told l h = rw (lt-leb labels l h)

pub total_refused : (l : ℕ) → labels ≤ l → total_number l ≡ number bad_label
unfolding total_number first_number
total_refused l h = rw (le-leb labels l h)
