-- What `begin` makes of the numbers, on each way through it, and what `hand_over` makes of a number.
-- Assumes nothing.
use mathlib.Core.Path.{◌≡◌, refl, sym, ap, ◌∙◌}
use mathlib.Core.List.{List, [], ◌∷◌, ◌++◌}
use mathlib.Core.Bool.{Bool, true, false}
use Prim.Native.Nat.{ℕ, zero, suc, ◌+◌, ◌*◌, ◌≤◌, ◌<◌}
use native.Mathlib.Numerals.{add-one}
use native.Mathlib.Omega.{arith}
use lib.Dec.{ltb}
use lib.IntN.{ℤ}
use lib.ListN.{length}
use borrow.Author.Tests.{leb-false, lt-ltb, le-ltb}
use Rattle.book.specs.Basics.{pick}
use Rattle.book.specs.Causes.{no_record, short_work, first_number, number}
use Rattle.book.proofs.BookLaws.{first-none}
use Rattle.answers.specs.Answers.{refusal}
use Rattle.offsets.specs.Answers.{Refused, offsets_work}
use Rattle.offsets.specs.Thirds.{Starts}
use Rattle.offsets.specs.Inner.{Records, sooner, three, base_number, or_else, rounds_of, Plans, TellsOver, refused}

or_some : (a b : ℕ) → (a ≡ 0 → ⊥) → a ≡ or_else a b
or_some zero b z = absurd (z refl)
or_some (suc a) b z = refl

or_other : (a b : ℕ) → a ≡ 0 → b ≡ or_else a b
or_other a b e = sym (ap (λ (k : ℕ). or_else k b) e)

sooner_zero : (a b : ℕ) → sooner a b ≡ 0 → a ≡ 0
unfolding sooner
sooner_zero zero b e = refl
sooner_zero (suc a) zero e = e
sooner_zero (suc a) (suc b) e = go (ltb b a) e
  where
    go : (t : Bool) → pick t (suc b) (suc a) ≡ 0 → suc a ≡ 0
    go true q = absurd (let z : suc b ≡ 0 = q in omega (arith, z))
    go false q = q

module _ (g : Records) (base found count : ℕ) (l : List ℤ) where
  abbrev own : ℕ
  own = base_number g.n g.marks base count

  abbrev work : ℕ
  work = first_number ((short_work, ltb (length l) (offsets_work g.n)) ∷ [])

  pub plan_refused : (g.refused ≡ 0 → ⊥) → Plans g base found count l l (record { cause = g.refused; rounds = rounds_of g.refused g.n })
  plan_refused z = record { cause = or_some g.refused (or_else (sooner own found) work) z; filled = λ e. absurd (z e) }

  module _ (zero-refused : g.refused ≡ 0) (first : ℕ) (is : first ≡ sooner own found) where
    pub plan_judged : (first ≡ 0 → ⊥) → Plans g base found count l l (record { cause = first; rounds = rounds_of first g.n })
    plan_judged z = record {
      cause = or_some first work z ∙ ap (λ (k : ℕ). or_else k work) is ∙ or_other g.refused (or_else (sooner own found) work) zero-refused;
      filled = λ e. absurd (z e);
    }

    module _ (none : first ≡ 0) where
      work_is : work ≡ or_else g.refused (or_else (sooner own found) work)
      work_is = or_other (sooner own found) work (sym is ∙ none) ∙ or_other g.refused (or_else (sooner own found) work) zero-refused

      pub base_in : base < g.n
      unfolding base_number three
      base_in = leb-false g.n base (first-none no_record _ _ (sooner_zero own found (sym is ∙ none))).0

      short_is : length l < g.n * 64 → 12 ≡ work
      unfolding first_number number
      short_is h = sym (ap (λ (t : Bool). first_number ((short_work, t) ∷ [])) (lt-ltb (length l) (offsets_work g.n) h))

      long_is : g.n * 64 ≤ length l → 0 ≡ work
      unfolding first_number number
      long_is h = sym (ap (λ (t : Bool). first_number ((short_work, t) ∷ [])) (le-ltb (length l) (offsets_work g.n) h))

      pub plan_short : length l < g.n * 64 → Plans g base found count l l (record { cause = 12; rounds = 0 })
      plan_short h = record { cause = short_is h ∙ work_is; filled = λ e. absurd (let z : ◌≡◌ {A = ℕ} 12 0 = e in omega (arith, z)) }

      pub plan_made : g.n * 64 ≤ length l → (x y : List ℤ) → Starts g.n base x
          → Plans g base found count l (x ++ y) (record { cause = 0; rounds = suc g.n })
      plan_made h x y s = record { cause = long_is h ∙ work_is; filled = λ _. ((x, (y, (refl, s))), refl) }

-- ---- a number that is handed over
pub hand_refused : (cause n : ℕ) (on : Bool) (work l : List ℤ) {k : ℕ} → (cause ≡ 0 → ⊥) → k ≡ refusal cause → TellsOver cause n on work l l k
hand_refused zero n on work l z e = absurd (z refl)
hand_refused (suc j) n on work l z e = (Refused (suc j), (refused refl refl, e))

-- ---- how many passes
pub rounds_none : (cause n : ℕ) → (cause ≡ 0 → ⊥) → 0 ≡ rounds_of cause n
rounds_none zero n z = absurd (z refl)
rounds_none (suc k) n z = refl

pub rounds_all : (cause n : ℕ) → cause ≡ 0 → n + 1 ≡ rounds_of cause n
rounds_all cause n e = add-one n ∙ sym (ap (λ (k : ℕ). rounds_of k n) e)
