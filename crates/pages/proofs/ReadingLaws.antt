-- Laws of the functions that read a line: figures, cells, ascending words, and what is written of them.
--   value_more, value_small, record_small
--                         the value of a figure more; of at most five figures it is small
--   cells_end, cells_next
--                         the words of a line's cells: none where a blank ends them, one more before the next cell
--   rising-more, rising_not
--                         ascending words, one more; words that do not ascend
--   wrote_front, joined_fits
--                         what is written from the front on; one part more of a joined list fits
-- Assumes nothing.
use mathlib.Core.Path.{◌≡◌, refl, sym, ap, subst, ◌∙◌}
use mathlib.Core.List.{List, [], ◌∷◌, ◌++◌}
use Prim.Native.Nat.{ℕ, suc, ◌+◌, ◌-◌, ◌*◌, ◌%◌, ◌≤◌, ◌<◌}
use native.Mathlib.Nat.{zero-add}
use native.Mathlib.Numerals.{add-one}
use native.Mathlib.Omega.{arith}
use borrow.Author.Tests.{eq-eqb, ne_eqb}
use lib.ListN.{length, take, drop, get_or, length-append, length-take}
use lib.Seq.{take-suc, take-take, split_at, get_or-drop, get_or-take, drop-drop, length-take-le}
use Rattle.k2.specs.PairSetLaws.{Within, ends, goes, within_length}
use Rattle.paths.specs.Questions.{over}
use Rattle.report.specs.Report.{space}
use Rattle.answers.specs.Written.{Wrote, written}
use Rattle.pages.specs.Pages.{joined}
use Rattle.pages.specs.Lines.{pair_words, value_from, value, cell_word, cell_words, after}
use Rattle.pages.specs.LineLaws.{joined_add, joined_next}
use Rattle.pages.specs.ReadLaws.{value_append, within_then, within_rest, after-append}

-- ---- figures
pub value_more : (l : List ℕ) (i : ℕ) → i < length l → value (take (i + 1) l) ≡ 10 * value (take i l) + get_or l i 0 % 16
unfolding value_from
value_more l i h = ap (λ (n : ℕ). value (take n l)) (add-one i) ∙ ap value (take-suc l i 0 h) ∙ value_append 0 (take i l) (get_or l i 0 ∷ [])

pub value_small : (l : List ℕ) → length l ≤ 5 → value l < 200000
unfolding value_from
value_small [] h = omega arith
value_small (a ∷ []) h = omega arith
value_small (a ∷ b ∷ []) h = omega arith
value_small (a ∷ b ∷ c ∷ []) h = omega arith
value_small (a ∷ b ∷ c ∷ d ∷ []) h = omega arith
value_small (a ∷ b ∷ c ∷ d ∷ e ∷ []) h = omega arith
value_small (a ∷ b ∷ c ∷ d ∷ e ∷ f ∷ l) h = absurd (omega arith)

pub record_small : (l : List ℕ) (i at : ℕ) → i ≤ 5 → value (take i (drop at l)) < 200000
record_small l i at h = value_small (take i (drop at l)) (omega (arith, length-take i (drop at l)))

-- ---- cells
module _ (bytes : List ℕ) (at k : ℕ) (h : k < 6) where
  mark : get_or (drop (at + 12 * k) bytes) 4 0 ≡ get_or bytes (at + 12 * k + 5 - 1) 0
  mark = let e : at + 12 * k + 4 ≡ at + 12 * k + 5 - 1 = omega arith in get_or-drop (at + 12 * k) bytes 4 0 ∙ ap (λ (i : ℕ). get_or bytes i 0) e

  pub cells_end : get_or bytes (at + 12 * k + 5 - 1) 0 ≡ space → cell_words (6 - k) (drop (at + 12 * k) bytes) ≡ []
  unfolding cell_words
  cells_end e =
      let s : 6 - k ≡ suc (5 - k) = omega arith in
      ap (λ (f : ℕ). cell_words f (drop (at + 12 * k) bytes)) s ∙ rw (eq-eqb (get_or (drop (at + 12 * k) bytes) 4 0) space (mark ∙ e))

  pub cells_next : (get_or bytes (at + 12 * k + 5 - 1) 0 ≡ space → ⊥)
      → cell_words (6 - k) (drop (at + 12 * k) bytes) ≡ cell_word (drop (at + 12 * k) bytes) ∷ cell_words (6 - (k + 1)) (drop (at + 12 * (k + 1)) bytes)
  unfolding cell_words
  cells_next n =
      let s : 6 - k ≡ suc (6 - (k + 1)) = omega arith in
      let e : at + 12 * k + 12 ≡ at + 12 * (k + 1) = omega arith in
      ap (λ (f : ℕ). cell_words f (drop (at + 12 * k) bytes)) s
      ∙ rw (ne_eqb (get_or (drop (at + 12 * k) bytes) 4 0) space (λ z. n (sym mark ∙ z)))
      (ap (λ (t : List ℕ). cell_word (drop (at + 12 * k) bytes) ∷ cell_words (6 - (k + 1)) t)
      (drop-drop 12 (at + 12 * k) bytes ∙ ap (λ (j : ℕ). drop j bytes) e))

-- ---- ascending words
module _ (words : List ℕ) (low i : ℕ) where
  pub rising-more : i < length words → Within low (take i words) pair_words → after low (take i words) ≤ get_or words i 0 → get_or words i 0 < pair_words
      → (after low (take (i + 1) words) ≡ get_or words i 0 + 1) × Within low (take (i + 1) words) pair_words
  unfolding after
  rising-more h W a b =
      let w = get_or words i 0 in
      let e : take (i + 1) words ≡ take i words ++ (w ∷ []) = ap (λ (n : ℕ). take n words) (add-one i) ∙ take-suc words i 0 h in
      let n : Within (after low (take i words)) (w ∷ []) pair_words = goes {w = w} a (ends {m = suc w} {t = pair_words} (omega arith)) in (
        ap (after low) e ∙ after-append low (take i words) (w ∷ []) ∙ sym (add-one w),
        subst (λ (l : List ℕ). Within low l pair_words) (sym e) (within_then (take i words) (w ∷ []) W n),
      )

  first_rises : {m w : ℕ} {l k : List ℕ} → k ≡ w ∷ l → Within m k pair_words → (m ≤ w) × (w < pair_words)
  first_rises e (ends h) = absurd (let z : ◌≡◌ {A = ℕ} 0 1 = cc in omega arith)
  first_rises {m} {w} e (goes {w = v} h q) = let z : v ≡ w = cc in (omega arith, omega (arith, within_length q))

  pub rising_not : (count : ℕ) → i < count → count ≤ length words → Within low (take count words) pair_words
      → (after low (take i words) ≤ get_or words i 0) × (get_or words i 0 < pair_words)
  rising_not count h l W =
      let n : length (take count words) ≡ count = length-take-le count words l in
      let e : take count words ≡ take i words ++ (get_or words i 0 ∷ drop (suc i) (take count words)) =
      split_at (take count words) i 0 (omega arith)
      ∙ ap (λ (t : List ℕ). t ++ (get_or (take count words) i 0 ∷ drop (suc i) (take count words))) (take-take i count words (omega arith))
      ∙ ap (λ (v : ℕ). take i words ++ (v ∷ drop (suc i) (take count words))) (get_or-take count words i 0 h) in
      first_rises refl (within_rest (take i words) (get_or words i 0 ∷ drop (suc i) (take count words)) (subst (λ (t : List ℕ). Within low t pair_words) e W)).1

-- ---- what is written
pub wrote_front : {t l m : List ℕ} {q : ℕ} → Wrote 0 t l m q → m ≡ over t l
unfolding written
wrote_front {t} {l} w = w.contents ∙ ap (λ (n : ℕ). t ++ drop n l) (zero-add (length t))

-- what is joined before a member, and the member, fits into all
pub joined_fits : (f : ℕ → List ℕ) (i n : ℕ) → i < n → length (joined f i) + length (f i) ≤ length (joined f n)
joined_fits f i n h =
    let s : n ≡ (i + 1) + (n - (i + 1)) = omega arith in
    let e : length (joined f n) ≡ length (joined f (i + 1)) + length (joined (λ j. f (i + 1 + j)) (n - (i + 1))) =
    ap (λ (m : ℕ). length (joined f m)) s ∙ ap length (joined_add f (i + 1) (n - (i + 1)))
    ∙ length-append (joined f (i + 1)) (joined (λ j. f (i + 1 + j)) (n - (i + 1))) in
    let g : length (joined f (i + 1)) ≡ length (joined f i) + length (f i) = ap length (joined_next f i) ∙ length-append (joined f i) (f i) in
    omega arith
