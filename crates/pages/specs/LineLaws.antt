-- Laws of lines: how long each is, the pages as one line after the other, and what is laid of them.
--   right_small, right_more
--                  a number's last figure, and what is before it
--   length_right, length_record, length_cell, length_cells, length_pair_line, length_head_line, length_line
--                  how long the parts of a line are
--   length-padded, page_figures
--                  a text that is padded; the figures of a page's number
--   joined_same, joined_add, joined_next, joined_parts, length_joined, drop_joined
--                  texts joined one after the other
--   joined_first   the first of joined texts
--   line_head, line_pairs, small_part
--                  a line is a head or shows its pairs, six at most
--   pages_lines    the pages are their lines
--   lines_most     so many lines at most
--   length_pages   the pages' bytes
-- Assumes nothing.
use Rattle.std.specs.Prelude.{◌≡◌, take, drop}
use Rattle.std.proofs.Math.Path.{refl, sym, ap, ap₂}
use Rattle.std.proofs.Common.{◌∙◌, add-zero, add-suc, add-one, eq-eqb, ne_eqb, length-append, drop_of_length-le, drop_at, take-add, take-take, drop-drop}
use Rattle.std.proofs.Common.{get_or-take, get_or-drop}
use mathlib.Core.List.{List, [], ◌∷◌, ◌++◌, append_assoc, append-nil}
use Prim.Native.Nat.{ℕ, zero, suc, ◌+◌, ◌-◌, ◌*◌, ◌/◌, ◌%◌, ◌≤◌, ◌<◌, max, min}
use Rattle.std.proofs.Math.Decide.{dec_lt, ℕ_discrete}
use native.Mathlib.Omega.{arith}
use Rattle.std.proofs.Math.ListN.{length, length-take, length-drop}
use Rattle.std.proofs.lemmas.List.{length-replicate}
use Rattle.std.proofs.Math.Seq.{take-nil, length-take-le}
use Rattle.report.specs.Report.{newline, figure_0, decimal, lines}
use Rattle.report.proofs.ReportLaws.{decimal_small, decimal_more, length_decimal}
use Rattle.pages.specs.Pages.{joined, part, parts, blanks, padded, right_aligned, record_cell, pair_cell, pair_line, head_line, page, pages}
use Rattle.pages.specs.Lines.{pair_words, most_lines, pairs_before, lines_of, line_with, line_of, Small}

-- ---- a number right-aligned
pub right_small : (w k : ℕ) → k < 10 → right_aligned w k ≡ blanks (w - 1) ++ ((figure_0 + k) ∷ [])
unfolding right_aligned
right_small w k h = rw (decimal_small k h)

pub right_more : (w k : ℕ) → 10 ≤ k → right_aligned w k ≡ right_aligned (w - 1) (k / 10) ++ ((figure_0 + k % 10) ∷ [])
unfolding right_aligned
right_more w k h =
    let d = decimal (k / 10) in
    let n : length (d ++ ((figure_0 + k % 10) ∷ [])) ≡ length d + 1 = length-append d ((figure_0 + k % 10) ∷ []) in
    let e : w - (length d + 1) ≡ w - 1 - length d = omega arith in
    rw (decimal_more k h, n, e) (sym (append_assoc (blanks (w - 1 - length d)) d ((figure_0 + k % 10) ∷ [])))

pub length_right : (w k : ℕ) → length (decimal k) ≤ w → length (right_aligned w k) ≡ w
unfolding right_aligned
length_right w k h = rw (length-append, length-replicate) (omega arith)

pub length-padded : (w : ℕ) (t : List ℕ) → length t ≤ w → length (padded w t) ≡ w
unfolding padded
length-padded w t h = rw (length-append, length-replicate) (omega arith)

-- a record's number has at most four figures, a page's at most six
pub record_figures : (x : ℕ) → x < 1024 → length (decimal x) ≤ 5
record_figures x h = omega (arith, length_decimal 3 x (omega arith))

pub page_figures : (p : ℕ) → p ≤ most_lines → length (decimal (p + 1)) ≤ 12
page_figures p h = omega (arith, length_decimal 5 (p + 1) (omega arith))

pub length_record : (x : ℕ) → x < 1024 → length (record_cell x) ≡ 6
unfolding record_cell
length_record x h = rw (length-append, length_right 5 x (record_figures x h)) refl

pub length_cell : (w : ℕ) → w < pair_words → length (pair_cell w) ≡ 12
unfolding pair_cell
length_cell w h = rw (length-append, length_record (w / 1024) (omega arith), length_record (w % 1024) (omega arith)) refl

pub length_cells : (ws : List ℕ) → Small ws → length (lines pair_cell ws) ≡ 12 * length ws
unfolding lines
length_cells [] s = refl
length_cells (w ∷ ws) s =
    let c : length (pair_cell w) ≡ 12 = length_cell w (s 0 (omega arith)) in
    let r : length (lines pair_cell ws) ≡ 12 * length ws = length_cells ws (λ i h. s (suc i) (omega arith)) in
    rw (length-append (pair_cell w) (lines pair_cell ws), c, r) (omega arith)

pub length_pair_line : (ws : List ℕ) → Small ws → length ws ≤ 6 → length (pair_line ws) ≡ 73
unfolding pair_line
length_pair_line ws s h =
    let n = length_cells ws s in
    let p : length (padded 72 (lines pair_cell ws)) ≡ 72 = length-padded 72 (lines pair_cell ws) (omega arith) in
    length-append (padded 72 (lines pair_cell ws)) (newline ∷ []) ∙ ap (λ (j : ℕ). j + 1) p

pub length_head_line : (text : List ℕ) (p : ℕ) → p ≤ most_lines → length (head_line text p) ≡ 73
unfolding head_line
length_head_line text p h =
    let t : length (padded 60 (take 60 text)) ≡ 60 = length-padded 60 (take 60 text) (omega (arith, length-take 60 text)) in
    let n : length (right_aligned 12 (p + 1)) ≡ 12 = length_right 12 (p + 1) (page_figures p h) in
    let a : length (padded 60 (take 60 text) ++ right_aligned 12 (p + 1)) ≡ 72 =
    length-append (padded 60 (take 60 text)) (right_aligned 12 (p + 1)) ∙ ap₂ (λ (i j : ℕ). i + j) t n in
    length-append (padded 60 (take 60 text) ++ right_aligned 12 (p + 1)) (newline ∷ []) ∙ ap (λ (j : ℕ). j + 1) a

-- ---- texts joined
pub joined_same : (f g : ℕ → List ℕ) (k : ℕ) → ((i : ℕ) → i < k → f i ≡ g i) → joined f k ≡ joined g k
unfolding joined
joined_same f g zero e = refl
joined_same f g (suc k) e = ap₂ (λ (s t : List ℕ). s ++ t) (joined_same f g k (λ i h. e i (omega arith))) (e k (omega arith))

pub joined_add : (f : ℕ → List ℕ) (a b : ℕ) → joined f (a + b) ≡ joined f a ++ joined (λ i. f (a + i)) b
unfolding joined
joined_add f a zero = ap (joined f) (add-zero a) ∙ sym (append-nil (joined f a))
joined_add f a (suc b) =
    ap (joined f) (add-suc a b) ∙ ap (λ (s : List ℕ). s ++ f (a + b)) (joined_add f a b) ∙ append_assoc (joined f a) (joined (λ i. f (a + i)) b) (f (a + b))

pub joined_next : (f : ℕ → List ℕ) (k : ℕ) → joined f (k + 1) ≡ joined f k ++ f k
unfolding joined
joined_next f k = rw add-one refl

pub joined_first : (f : ℕ → List ℕ) (k : ℕ) → joined f (1 + k) ≡ f 0 ++ joined (λ i. f (1 + i)) k
unfolding joined
joined_first f k = joined_add f 1 k

pub length_joined : (f : ℕ → List ℕ) (w k : ℕ) → ((i : ℕ) → i < k → length (f i) ≡ w) → length (joined f k) ≡ w * k
unfolding joined
length_joined f w zero e = omega arith
length_joined f w (suc k) e =
    let r : length (joined f k) ≡ w * k = length_joined f w k (λ i h. e i (omega arith)) in
    length-append (joined f k) (f k) ∙ ap₂ (λ (i j : ℕ). i + j) r (e k (omega arith)) ∙ omega arith

pub drop_joined : (f : ℕ → List ℕ) (w n k : ℕ) → ((i : ℕ) → i < n → length (f i) ≡ w)
    → k < n → drop (w * k) (joined f n) ≡ f k ++ joined (λ i. f (k + (1 + i))) (n - (1 + k))
drop_joined f w n k e h =
    let s : n ≡ k + (1 + (n - (1 + k))) = omega arith in
    let z : k + 0 ≡ k = add-zero k in
    ap (λ (m : ℕ). drop (w * k) (joined f m)) s ∙ ap (drop (w * k)) (joined_add f k (1 + (n - (1 + k))))
    ∙ drop_at (joined f k) (joined (λ i. f (k + i)) (1 + (n - (1 + k)))) (w * k) (length_joined f w k (λ i l. e i (omega arith)))
    ∙ joined_first (λ i. f (k + i)) (n - (1 + k)) ∙ ap (λ (m : ℕ). f m ++ joined (λ i. f (k + (1 + i))) (n - (1 + k))) z

-- a list in parts
pub joined_parts : (w : ℕ) (l : List ℕ) (k : ℕ) → joined (λ i. take w (drop (w * i) l)) k ≡ take (w * k) l
unfolding joined
joined_parts w l zero = let z : w * 0 ≡ 0 = omega arith in ap (λ (j : ℕ). take j l) (sym z)
joined_parts w l (suc k) =
    let z : w * k + w ≡ w * suc k = omega arith in
    ap (λ (s : List ℕ). s ++ take w (drop (w * k) l)) (joined_parts w l k) ∙ sym (take-add (w * k) w l) ∙ ap (λ (j : ℕ). take j l) z

drop-take : (n m : ℕ) (l : List ℕ) → drop n (take (n + m) l) ≡ take m (drop n l)
drop-take n m l = go (dec_lt (length l) n)
  where
    go : Dec (length l < n) → drop n (take (n + m) l) ≡ take m (drop n l)
    go (yes h) =
        drop_of_length-le (take (n + m) l) {i = n} (omega (arith, length-take (n + m) l))
        ∙ sym (ap (take m) (drop_of_length-le l {i = n} (omega arith)) ∙ take-nil m)
    go (no h) = ap (drop n) (take-add n m l) ∙ drop_at (take n l) (take m (drop n l)) n (length-take-le n l (omega arith))

-- ---- the pages are their lines
-- a part of six of a part of 354 is a part of six
part-part : (ws : List ℕ) (p i : ℕ) → i < 59 → part 6 i (part 354 p ws) ≡ take 6 (drop (354 * p + 6 * i) ws)
part-part ws p i h =
    let s : 354 ≡ 6 * i + (354 - 6 * i) = omega arith in
    ap (λ (n : ℕ). take 6 (drop (6 * i) (take n (drop (354 * p) ws)))) s
    ∙ ap (take 6) (drop-take (6 * i) (354 - 6 * i) (drop (354 * p) ws)) ∙ take-take 6 (354 - 6 * i) (drop (6 * i) (drop (354 * p) ws)) (omega arith)
    ∙ ap (take 6) (drop-drop (6 * i) (354 * p) ws)

pub line_head : (text ws : List ℕ) (i : ℕ) → i % 60 ≡ 0 → line_with text i ws ≡ head_line text (i / 60)
unfolding line_with
line_head text ws i e = rw (eq-eqb (i % 60) 0 e)

pub line_pairs : (text ws : List ℕ) (i : ℕ) → 0 < i % 60 → line_with text i ws ≡ pair_line ws
unfolding line_with
line_pairs text ws i h = rw (ne_eqb (i % 60) 0 (λ e. omega arith))

module _ (text ws : List ℕ) where
  head_of : (p : ℕ) → line_of text ws (60 * p + 0) ≡ head_line text p
  unfolding line_of
  head_of p =
      let e : (60 * p + 0) % 60 ≡ 0 = omega arith in
      let d : (60 * p + 0) / 60 ≡ p = omega arith in
      line_head text (take 6 (drop (pairs_before (60 * p + 0)) ws)) (60 * p + 0) e ∙ ap (head_line text) d

  pairs_of : (p i : ℕ) → i < 59 → line_of text ws (60 * p + (1 + i)) ≡ pair_line (part 6 i (part 354 p ws))
  unfolding line_of pairs_before
  pairs_of p i h =
      let b : 6 * (60 * p + (1 + i) - (60 * p + (1 + i) + 59) / 60) ≡ 354 * p + 6 * i = omega arith in
      let d : (60 * p + (1 + i)) / 60 ≡ p = omega arith in
      let r : (60 * p + (1 + i)) % 60 ≡ 1 + i = omega arith in
      line_pairs text (take 6 (drop (6 * (60 * p + (1 + i) - (60 * p + (1 + i) + 59) / 60)) ws)) (60 * p + (1 + i)) (omega (arith, r))
      ∙ ap (λ (n : ℕ). pair_line (take 6 (drop n ws))) b ∙ ap pair_line (sym (part-part ws p i h))

  page_lines : (p m : ℕ) → m ≡ parts 6 (length (part 354 p ws)) → page text p (part 354 p ws) ≡ joined (λ i. line_of text ws (60 * p + i)) (1 + m)
  unfolding page
  page_lines p m e =
      let l : length (part 354 p ws) ≤ 354 = omega (arith, length-take 354 (drop (354 * p) ws)) in
      sym (joined_first (λ i. line_of text ws (60 * p + i)) m
      ∙ ap₂ (λ (s t : List ℕ). s ++ t) (head_of p)
      (joined_same (λ i. line_of text ws (60 * p + (1 + i))) (λ i. pair_line (part 6 i (part 354 p ws))) m (λ i h. pairs_of p i (omega arith))
      ∙ ap (joined (λ i. pair_line (part 6 i (part 354 p ws)))) e))

  -- full pages
  full_pages : (q : ℕ) → 354 * q ≤ length ws → joined (λ p. page text p (part 354 p ws)) q ≡ joined (line_of text ws) (60 * q)
  unfolding joined
  full_pages zero h = refl
  full_pages (suc q) h =
      let l : length (part 354 q ws) ≡ 354 = length-take-le 354 (drop (354 * q) ws) (omega (arith, length-drop (354 * q) ws)) in
      let m : 59 ≡ parts 6 (length (part 354 q ws)) = rw l refl in
      let s : 60 * q + 60 ≡ 60 * suc q = omega arith in
      ap₂ (λ (s t : List ℕ). s ++ t) (full_pages q (omega arith)) (page_lines q 59 m)
      ∙ sym (joined_add (line_of text ws) (60 * q) 60) ∙ ap (joined (line_of text ws)) s

  pub pages_lines : pages text ws ≡ joined (line_of text ws) (lines_of (length ws))
  unfolding pages lines_of
  pages_lines =
      let k = length ws in
      let q : ℕ = max 1 (parts 354 k) - 1 in
      let s : max 1 (parts 354 k) ≡ q + 1 = omega arith in
      let l : length (part 354 q ws) ≡ min 354 (k - 354 * q) = length-take 354 (drop (354 * q) ws) ∙ ap (min 354) (length-drop (354 * q) ws) in
      let f : 354 * q ≤ k = omega arith in
      let t : 60 * q + (1 + parts 6 (length (part 354 q ws))) ≡ max 1 (parts 354 k) + parts 6 k = omega arith in
      ap (joined (λ p. page text p (part 354 p ws))) s ∙ joined_next (λ p. page text p (part 354 p ws)) q
      ∙ ap₂ (λ (s t : List ℕ). s ++ t) (full_pages q f) (page_lines q (parts 6 (length (part 354 q ws))) refl)
      ∙ sym (joined_add (line_of text ws) (60 * q) (1 + parts 6 (length (part 354 q ws)))) ∙ ap (joined (line_of text ws)) t

pub lines_most : (k : ℕ) → k ≤ pair_words → lines_of k ≤ most_lines
unfolding lines_of
lines_most k h = omega arith

-- ---- how long the pages are
pub small_part : (ws : List ℕ) (n : ℕ) → Small ws → Small (take 6 (drop n ws))
small_part ws n s i h =
    let a = length-take 6 (drop n ws) in
    let b = length-drop n ws in
    rw (get_or-take 6 (drop n ws) i 0 (omega arith), get_or-drop n ws i 0) (s (n + i) (omega arith))

pub length_line : (text ws : List ℕ) (i : ℕ) → Small ws → i ≤ most_lines → length (line_of text ws i) ≡ 73
unfolding line_of
length_line text ws i s h = go (ℕ_discrete (i % 60) 0)
  where
    go : Dec (i % 60 ≡ 0) → length (line_with text i (take 6 (drop (pairs_before i) ws))) ≡ 73
    go (yes e) = ap length (line_head text (take 6 (drop (pairs_before i) ws)) i e) ∙ length_head_line text (i / 60) (omega arith)
    go (no e) =
        ap length (line_pairs text (take 6 (drop (pairs_before i) ws)) i (omega arith))
        ∙ length_pair_line (take 6 (drop (pairs_before i) ws)) (small_part ws (pairs_before i) s) (omega (arith, length-take 6 (drop (pairs_before i) ws)))

pub length_pages : (text ws : List ℕ) → Small ws → length ws ≤ pair_words → length (pages text ws) ≡ 73 * lines_of (length ws)
length_pages text ws s h =
    ap length (pages_lines text ws)
    ∙ length_joined (line_of text ws) 73 (lines_of (length ws)) (λ i l. length_line text ws i s (omega (arith, lines_most (length ws) h)))
