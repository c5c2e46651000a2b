-- Laws of trees copied to the front of work, and of `pairs_below`.
--   copied_one, copied_two
--                        one tree at the front, and two one behind the other
--   below_all, below_at  pairs below n, word by word
--   false_absurd, both_absurd
--                        a test does not come out both ways
--   settled              an answer of so many words
-- Assumes nothing.
use mathlib.Core.Path.{◌≡◌, refl, sym, ap, ◌∙◌}
use mathlib.Core.Bool.{Bool, true, false}
use mathlib.Core.List.{List, [], ◌∷◌, ◌++◌}
use Prim.Native.Nat.{ℕ, zero, suc, ◌+◌, ◌/◌, ◌%◌, ◌≤◌, ◌<◌}
use native.Mathlib.Omega.{arith}
use lib.ListN.{length, take, drop, get_or, length-take}
use lib.Seq.{take-append-le, take-length, take_at, drop_at}
use Rattle.book.specs.Basics.{In, here, there}
use Rattle.k2.specs.PairSets.{PairsBelow}
use Rattle.answers.specs.declared.Counted.TheVariants.{Count}
use Rattle.answers.specs.Answers.{Whole}
use Rattle.answers.specs.AnswerLaws.{whole_given}
use Rattle.answers.specs.Written.{written}

-- ---- trees one behind the other at the front
pub copied_one : (xs ws ws' : List ℕ) → ws' ≡ written 0 xs ws → take (length xs) ws' ≡ xs
unfolding written
copied_one xs ws ws' e = rw e (take-append-le (length xs) xs (drop (0 + length xs) ws) (omega arith) ∙ take-length xs)

pub copied_two : (xs ys ws ws' ws'' : List ℕ) → ws' ≡ written 0 xs ws → ws'' ≡ written (length xs) ys ws'
    → (take (length xs) ws'' ≡ xs) × (take (length ys) (drop (length xs) ws'') ≡ ys)
unfolding written
copied_two xs ys ws ws' ws'' e f =
    let g : ws'' ≡ xs ++ (ys ++ drop (length xs + length ys) ws') =
    f ∙ ap (λ (t : List ℕ). t ++ (ys ++ drop (length xs + length ys) ws')) (copied_one xs ws ws' e) in
    rw g (
      take_at xs (ys ++ drop (length xs + length ys) ws') (length xs) refl,
      ap (take (length ys)) (drop_at xs (ys ++ drop (length xs + length ys) ws') (length xs) refl)
          ∙ take_at ys (drop (length xs + length ys) ws') (length ys) refl,
    )

-- ---- pairs
-- by places
in_at : (ps : List ℕ) (w : ℕ) → In w ps → (i : ℕ) × (i < length ps) × (get_or ps i 0 ≡ w)
in_at [] w x' = elim x' [ ]
in_at (p ∷ ps) w here = (0, omega arith, refl)
in_at (p ∷ ps) w (there h) = let r = in_at ps w h in (suc r.0, omega (arith, r.1), r.2)

at_in : (ps : List ℕ) (i : ℕ) → i < length ps → In (get_or ps i 0) ps
at_in [] i l = absurd (omega arith)
at_in (p ∷ ps) zero l = here
at_in (p ∷ ps) (suc i) l = there (at_in ps i (omega arith))

pub below_all : (n : ℕ) (ps : List ℕ) → ((i : ℕ) → i < length ps → (get_or ps i 0 / 1024 < n) × (get_or ps i 0 % 1024 < n)) → PairsBelow n ps
below_all n ps f w h = let r = in_at ps w h in rw (← r.2) (f r.0 r.1)

pub below_at : (n : ℕ) (ps : List ℕ) → PairsBelow n ps → (i : ℕ) → i < length ps → (get_or ps i 0 / 1024 < n) × (get_or ps i 0 % 1024 < n)
below_at n ps b i l = b (get_or ps i 0) (at_in ps i l)

-- ---- answers
pub false_absurd : {A : Type 0} → false ≡ true → A
false_absurd e = absurd (let y : ◌≡◌ {A = ℕ} 0 1 = cc in omega arith)

pub both_absurd : {b : Bool} → b ≡ false → b ≡ true → ⊥
both_absurd e f = false_absurd (sym e ∙ f)

-- an answer of so many words
pub settled : (ws : List ℕ) (len : ℕ) (out out' : List ℕ) → len ≤ length ws → len ≤ length out → out' ≡ written 0 (take len ws) out
    → Whole (take len ws) out out' (Count len)
unfolding written
settled ws len out out' l h e =
    let k : length (take len ws) ≡ len = rw length-take (omega arith) in
    let z : 0 + length (take len ws) ≡ length (take len ws) = omega arith in
    whole_given (take len ws) out out' len (sym k) (omega arith) (rw z at e)
