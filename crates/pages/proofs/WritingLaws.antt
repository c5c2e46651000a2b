-- Laws of laying a line: what is written one after the other is the line. Assumes nothing.
use mathlib.Core.Path.{◌≡◌, sym, ap, ap₂, ◌∙◌}
use mathlib.Core.List.{List, [], ◌∷◌, ◌++◌, append-nil}
use Prim.Native.Nat.{ℕ, ◌+◌, ◌-◌, ◌*◌, ◌≤◌, ◌<◌, min}
use native.Mathlib.Nat.{add_assoc}
use native.Mathlib.Decide.{dec_lt}
use native.Mathlib.Omega.{arith}
use lib.ListN.{length, take, drop, get_or, set, length-append, length-take, drop_of_length-le, replicate-append-replicate}
use lib.Seq.{take_all, length-take-le, get_or-take}
use Rattle.report.specs.Report.{space, newline, line, lines}
use Rattle.answers.specs.Written.{Wrote, written}
use Rattle.answers.specs.WrittenLaws.{wrote_byte, wrote_then, wrote_as}
use Rattle.pages.specs.Pages.{blanks, padded, right_aligned, pair_cell, pair_line, head_line}
use Rattle.pages.specs.Lines.{pair_words, Small}
use Rattle.pages.specs.LineLaws.{length_cells}

-- a blank more
pub wrote_blank : (p i : ℕ) (l m : List ℕ) → Wrote p (blanks i) l m (p + i) → p + i < length m → Wrote p (blanks (i + 1)) l (set m (p + i) space) (p + (i + 1))
wrote_blank p i l m w h = rw (← add_assoc p i 1) (wrote_as (replicate-append-replicate i 1 space) (wrote_then w (wrote_byte (p + i) space m h)))

pub small_take : (ws : List ℕ) (n : ℕ) → n ≤ length ws → ((i : ℕ) → i < n → get_or ws i 0 < pair_words) → Small (take n ws)
small_take ws n h s i l = let e = length-take-le n ws h in rw (get_or-take n ws i 0 (omega arith)) (s i (omega arith))

pub wrote_pairs : {p q r s : ℕ} {l m k j : List ℕ} (ws : List ℕ) (n : ℕ) → n ≤ length ws → ((i : ℕ) → i < n → get_or ws i 0 < pair_words)
    → Wrote p (lines pair_cell (take n ws)) l m q → Wrote q (blanks (72 - 12 * n)) m k r → Wrote r (newline ∷ []) k j s → Wrote p (pair_line (take n ws)) l j s
unfolding pair_line padded
wrote_pairs ws n h small a b c =
    let e : length (lines pair_cell (take n ws)) ≡ 12 * n =
    length_cells (take n ws) (small_take ws n h small) ∙ ap (λ (i : ℕ). 12 * i) (length-take-le n ws h) in
    wrote_as (ap (λ (i : ℕ). line (lines pair_cell (take n ws) ++ blanks (72 - i))) (sym e)) (wrote_then (wrote_then a b) c)

shown_take : (text : List ℕ) (n : ℕ) → n ≡ min 60 (length text) → take n text ≡ take 60 text
shown_take text n e = go (dec_lt 60 (length text))
  where
    go : Dec (60 < length text) → take n text ≡ take 60 text
    go (yes h) = let z : n ≡ 60 = omega arith in ap (λ (i : ℕ). take i text) z
    go (no h) = take_all n text (omega arith) ∙ sym (take_all 60 text (omega arith))

pub wrote_head : {p q r s t : ℕ} {l m k j i : List ℕ} (text : List ℕ) (n page : ℕ) → n ≡ min 60 (length text)
    → Wrote p (take n text) l m q → Wrote q (blanks (60 - n)) m k r → Wrote r (right_aligned 12 (page + 1)) k j s → Wrote s (newline ∷ []) j i t
    → Wrote p (head_line text page) l i t
unfolding head_line padded
wrote_head text n page e a b c d =
    let f : n ≡ length (take 60 text) = e ∙ sym (length-take 60 text) in
    wrote_as (ap₂ (λ (u : List ℕ) (v : ℕ). line ((u ++ blanks (60 - v)) ++ right_aligned 12 (page + 1))) (shown_take text n e) f)
    (wrote_then (wrote_then (wrote_then a b) c) d)

-- a line written into a space of its length is that space
pub wrote_whole : {t l m : List ℕ} {q : ℕ} → length m ≡ 73 → length t ≡ 73 → Wrote 0 t l m q → m ≡ t
unfolding written
wrote_whole {t} {l} {m} e n w =
    let a = length-append t (drop (0 + length t) l) in
    let z : length (drop (0 + length t) l) ≡ 0 = omega (arith, ap length w.contents) in
    w.contents ∙ ap (λ (r : List ℕ). t ++ r) (none_left z) ∙ append-nil t
  where
    none_left : {r : List ℕ} → length r ≡ 0 → r ≡ []
    none_left {r} z = drop_of_length-le r {i = 0} (omega arith)
