-- Laws of reading: the pairs of a laid line are read back from its figures, those of the pages from their lines, and lines that stand are the pages of what is
-- read from them.
--   value_append   the number of joined figures
--   value_right    the number of a number's figures, right-aligned
--   cell_read, cells_read, line_read
--                  what is read of a cell, of cells, of a line
--   words_head, words_pairs, words_few
--                  none is read of a head, at most six of a pair line
--   before_head, before_pairs, before_all, before_most
--                  how many pairs stand before a line
--   line_bytes     the bytes of a line of pages are that line
--   words-at, words-before, words_all
--                  what is read of the pages' lines: at one, before one, of all
--   within_then, within_rest, after-append
--                  ascending lists, one after the other
--   after_le, within_small, within_below
--                  an ascending list of pair words: the number after it, and that its members are pair words
--   listed_within  an ascending list of different pairs lies below the number after every pair word
--   pages_stand    every line of pages stands, and they have as many lines as their pairs take
--   stand_within   the pairs on lines that stand ascend
--   stand_pages    lines that stand, as many as their pairs take, are pages
-- Assumes nothing.
use Rattle.std.specs.Prelude.{◌≡◌, Bool, true, false, eqb, drop, get_or}
use Rattle.std.proofs.Math.Path.{refl, sym, ap, ap₂}
use Rattle.std.proofs.Common.{subst, ◌∙◌, add-zero, add-one, eq-eqb, ne_eqb, lt-ltb, le-ltb, length-drop, take-append-drop, take-add, length-take-le}
use mathlib.Core.List.{List, [], ◌∷◌, ◌++◌, append_assoc, append-nil}
use Prim.Native.Nat.{ℕ, zero, suc, ◌+◌, ◌-◌, ◌*◌, ◌/◌, ◌%◌, ◌≤◌, ◌<◌}
use Rattle.std.proofs.Math.Decide.{dec_lt, ℕ_discrete}
use native.Mathlib.Omega.{arith}
use Rattle.std.proofs.Math.ListN.{length, take, length-append, length-take, get_or-append}
use Rattle.std.proofs.lemmas.List.{length-replicate, get_or-replicate, get_or_at}
use Rattle.std.proofs.Math.Seq.{take_at, drop_at, take_all}
use Rattle.book.specs.Basics.{pick, In, here, there, Rises, rises}
use Rattle.k2.specs.PairSets.{PairsBelow}
use Rattle.k2.specs.PairSetLaws.{Within, ends, goes, within_rises, within_length}
use Rattle.report.specs.Report.{space, newline, figure_0, figures, decimal, lines}
use Rattle.pages.specs.Pages.{joined, blanks, padded, right_aligned, record_cell, pair_cell, pair_line, pages, IsPages}
use Rattle.pages.specs.Lines.{pair_words, most_lines, pairs_before, lines_of, line_with, line_of, Small, value_from, value, cell_word, cell_words, byte_line}
use Rattle.pages.specs.Lines.{words_at, words_before, after, Stands}
use Rattle.pages.specs.LineLaws.{right_small, right_more, length_right, record_figures, length_record, length_cell, length_cells, joined_same, joined_add}
use Rattle.pages.specs.LineLaws.{joined_first, joined_next, joined_parts, drop_joined, pages_lines, line_head, line_pairs, lines_most, small_part}
use Rattle.pages.specs.LineLaws.{length_line, length_pages}

-- ---- figures
pub value_append : (v : ℕ) (s t : List ℕ) → value_from v (s ++ t) ≡ value_from (value_from v s) t
unfolding value_from
value_append v [] t = refl
value_append v (b ∷ s) t = value_append (10 * v + b % 16) s t

value_figures : (f n : ℕ) → n < f → value (figures f n) ≡ n
unfolding figures value_from
value_figures zero n h = absurd (omega arith)
value_figures (suc f) n h = go (λ l. value_figures f (n / 10) l) (dec_lt n 10)
  where
    go : (n / 10 < f → value (figures f (n / 10)) ≡ n / 10) → Dec (n < 10) → value (figures (suc f) n) ≡ n
    go r (yes l) = rw (lt-ltb n 10 l) (omega arith)
    go r (no l) =
        let e : value (figures f (n / 10)) ≡ n / 10 = r (omega arith) in
        rw (le-ltb n 10 (omega arith), value_append 0 (figures f (n / 10)) ((figure_0 + n % 10) ∷ []), e) (omega arith)

value_blanks : (k : ℕ) (t : List ℕ) → value (blanks k ++ t) ≡ value t
unfolding value_from
value_blanks zero t = refl
value_blanks (suc k) t = value_blanks k t

pub value_right : (w k : ℕ) → value (right_aligned w k) ≡ k
unfolding right_aligned decimal
value_right w k = value_blanks (w - length (figures (suc k) k)) (figures (suc k) k) ∙ value_figures (suc k) k (omega arith)

-- ---- a cell
module _ (w : ℕ) (h : w < pair_words) (t : List ℕ) where
  cell_split : pair_cell w ++ t ≡ right_aligned 5 (w / 1024) ++ (space ∷ (right_aligned 5 (w % 1024) ++ (space ∷ t)))
  unfolding pair_cell record_cell
  cell_split =
      let a = right_aligned 5 (w / 1024) in
      let b = right_aligned 5 (w % 1024) in
      append_assoc (a ++ (space ∷ [])) (b ++ (space ∷ [])) t ∙ append_assoc a (space ∷ []) ((b ++ (space ∷ [])) ++ t)
      ∙ ap (λ (s : List ℕ). a ++ (space ∷ s)) (append_assoc b (space ∷ []) t)

  cell_second : drop 6 (pair_cell w ++ t) ≡ right_aligned 5 (w % 1024) ++ (space ∷ t)
  unfolding pair_cell
  cell_second =
      ap (drop 6) (append_assoc (record_cell (w / 1024)) (record_cell (w % 1024)) t)
      ∙ drop_at (record_cell (w / 1024)) (record_cell (w % 1024) ++ t) 6 (length_record (w / 1024) (omega arith))
      ∙ unfold record_cell in (append_assoc (right_aligned 5 (w % 1024)) (space ∷ []) t)

  pub cell_read : cell_word (pair_cell w ++ t) ≡ w
  unfolding cell_word
  cell_read =
      let a : take 5 (pair_cell w ++ t) ≡ right_aligned 5 (w / 1024) =
      ap (take 5) cell_split ∙ take_at (right_aligned 5 (w / 1024)) (space ∷ (right_aligned 5 (w % 1024) ++ (space ∷ t)))
      5 (length_right 5 (w / 1024) (record_figures (w / 1024) (omega arith))) in
      let b : take 5 (drop 6 (pair_cell w ++ t)) ≡ right_aligned 5 (w % 1024) =
      ap (take 5) cell_second ∙ take_at (right_aligned 5 (w % 1024)) (space ∷ t) 5 (length_right 5 (w % 1024) (record_figures (w % 1024) (omega arith))) in
      let x : value (take 5 (pair_cell w ++ t)) ≡ w / 1024 = ap value a ∙ value_right 5 (w / 1024) in
      let y : value (take 5 (drop 6 (pair_cell w ++ t))) ≡ w % 1024 = ap value b ∙ value_right 5 (w % 1024) in
      rw (x, y) (omega arith)

-- the last byte of a right-aligned number is a figure
right_last : (w k : ℕ) → length (right_aligned w k) ≡ w → (front : List ℕ) × (d : ℕ) × (right_aligned w k ≡ front ++ ((figure_0 + d) ∷ []))
right_last w k e = go (dec_lt k 10)
  where
    go : Dec (k < 10) → (front : List ℕ) × (d : ℕ) × (right_aligned w k ≡ front ++ ((figure_0 + d) ∷ []))
    go (yes l) = (blanks (w - 1), k, right_small w k l)
    go (no l) = (right_aligned (w - 1) (k / 10), k % 10, right_more w k (omega arith))

cell_mark : (w : ℕ) (t : List ℕ) → w < pair_words → get_or (pair_cell w ++ t) 4 0 ≡ space → ⊥
cell_mark w t h e =
    let x = w / 1024 in
    let n : length (right_aligned 5 x) ≡ 5 = length_right 5 x (record_figures x (omega arith)) in
    let r = right_last 5 x n in
    let s : List ℕ = space ∷ (right_aligned 5 (w % 1024) ++ (space ∷ t)) in
    let l : length r.0 ≡ 4 = omega (arith, sym n ∙ ap length r.2, length-append r.0 ((figure_0 + r.1) ∷ [])) in
    let g : get_or (pair_cell w ++ t) 4 0 ≡ figure_0 + r.1 =
    ap (λ (u : List ℕ). get_or u 4 0) (cell_split w h t ∙ ap (λ (u : List ℕ). u ++ s) r.2 ∙ append_assoc r.0 ((figure_0 + r.1) ∷ []) s)
    ∙ get_or_at r.0 (figure_0 + r.1) s 0 4 l in
    omega (arith, g, e)

-- ---- cells, and a line
blank_cell : (f m : ℕ) (t : List ℕ) → 5 ≤ m → cell_words f (blanks m ++ t) ≡ []
unfolding cell_words
blank_cell zero m t h = refl
blank_cell (suc f) m t h =
    let b : get_or (blanks m ++ t) 4 0 ≡ space =
    get_or-append (blanks m) t 0 4 (omega (arith, length-replicate m space)) ∙ get_or-replicate m 4 space 0 (omega arith) in
    rw (eq-eqb (get_or (blanks m ++ t) 4 0) space b)

pub cells_read : (f : ℕ) (ws : List ℕ) (m : ℕ) (t : List ℕ) → Small ws → length ws ≤ f
    → (length ws < f → 5 ≤ m) → cell_words f (lines pair_cell ws ++ (blanks m ++ t)) ≡ ws
unfolding lines cell_words
cells_read zero [] m t s h b = refl
cells_read (suc f) [] m t s h b = blank_cell (suc f) m t (b (omega arith))
cells_read zero (w ∷ ws) m t s h b = absurd (omega arith)
cells_read (suc f) (w ∷ ws) m t s h b =
    let l : w < pair_words = s 0 (omega arith) in
    let u = lines pair_cell ws ++ (blanks m ++ t) in
    let a : (pair_cell w ++ lines pair_cell ws) ++ (blanks m ++ t) ≡ pair_cell w ++ u = append_assoc (pair_cell w) (lines pair_cell ws) (blanks m ++ t) in
    let r : cell_words f u ≡ ws = cells_read f ws m t (λ i q. s (suc i) (omega arith)) (omega arith) (λ q. b (omega arith)) in
    rw (a, ne_eqb (get_or (pair_cell w ++ u) 4 0) space (cell_mark w u l), cell_read w l u, drop_at (pair_cell w) u 12 (length_cell w l), r)

pub line_read : (ws t : List ℕ) → Small ws → length ws ≤ 6 → cell_words 6 (pair_line ws ++ t) ≡ ws
unfolding pair_line padded
line_read ws t s h =
    let n = length_cells ws s in
    let c = lines pair_cell ws in
    let b = blanks (72 - length c) in
    ap (cell_words 6) (append_assoc (c ++ b) (newline ∷ []) t ∙ append_assoc c b (newline ∷ t))
    ∙ cells_read 6 ws (72 - length c) (newline ∷ t) s h (λ q. omega arith)

words_few_from : (f : ℕ) (t : List ℕ) → length (cell_words f t) ≤ f
unfolding cell_words
words_few_from zero t = omega arith
words_few_from (suc f) t = go (eqb (get_or t 4 0) space) (words_few_from f (drop 12 t))
  where
    go : (b : Bool) → length (cell_words f (drop 12 t)) ≤ f → length (pick b [] (cell_word t ∷ cell_words f (drop 12 t))) ≤ suc f
    go true h = omega arith
    go false h = omega arith

-- ---- the lines of pages
pub words_head : (bytes : List ℕ) (i : ℕ) → i % 60 ≡ 0 → words_at bytes i ≡ []
unfolding words_at
words_head bytes i e = rw (eq-eqb (i % 60) 0 e)

pub words_pairs : (bytes : List ℕ) (i : ℕ) → 0 < i % 60 → words_at bytes i ≡ cell_words 6 (drop (73 * i) bytes)
unfolding words_at
words_pairs bytes i h = rw (ne_eqb (i % 60) 0 (λ e. omega arith))

pub words_few : (bytes : List ℕ) (i : ℕ) → length (words_at bytes i) ≤ 6
words_few bytes i = go (ℕ_discrete (i % 60) 0)
  where
    go : Dec (i % 60 ≡ 0) → length (words_at bytes i) ≤ 6
    go (yes e) = omega (arith, ap length (words_head bytes i e))
    go (no e) = rw (words_pairs bytes i (omega arith)) (words_few_from 6 (drop (73 * i) bytes))

pub before_head : (i : ℕ) → i % 60 ≡ 0 → pairs_before (i + 1) ≡ pairs_before i
unfolding pairs_before
before_head i e = omega arith

pub before_pairs : (i : ℕ) → 0 < i % 60 → pairs_before (i + 1) ≡ pairs_before i + 6
unfolding pairs_before
before_pairs i h = omega arith

pub before_all : (k : ℕ) → k ≤ pairs_before (lines_of k)
unfolding pairs_before lines_of
before_all k = omega arith

module _ (text ws : List ℕ) (s : Small ws) (few : length ws ≤ pair_words) where
  line_ahead : (i : ℕ) → i < lines_of (length ws) → (rest : List ℕ) × (drop (73 * i) (pages text ws) ≡ line_of text ws i ++ rest)
  line_ahead i h =
      let n = lines_of (length ws) in (
        joined (λ j. line_of text ws (i + (1 + j))) (n - (1 + i)),
        ap (drop (73 * i)) (pages_lines text ws)
            ∙ drop_joined (line_of text ws) 73 n i (λ j l. length_line text ws j s (omega (arith, lines_most (length ws) few))) h,
      )

  pub line_bytes : (i : ℕ) → i < lines_of (length ws) → byte_line (pages text ws) i ≡ line_of text ws i
  line_bytes i h =
      let r = line_ahead i h in
      ap (take 73) r.1 ∙ take_at (line_of text ws i) r.0 73 (length_line text ws i s (omega (arith, lines_most (length ws) few)))

  pub words-at : (i : ℕ) → i < lines_of (length ws) → 0 < i % 60 → words_at (pages text ws) i ≡ take 6 (drop (pairs_before i) ws)
  words-at i h p =
      let r = line_ahead i h in
      let u = take 6 (drop (pairs_before i) ws) in
      let e : line_of text ws i ≡ pair_line u = unfold line_of in (line_pairs text (take 6 (drop (pairs_before i) ws)) i p) in
      words_pairs (pages text ws) i p
      ∙ ap (cell_words 6) (r.1 ∙ ap (λ (t : List ℕ). t ++ r.0) e)
      ∙ line_read u r.0 (small_part ws (pairs_before i) s) (omega (arith, length-take 6 (drop (pairs_before i) ws)))

  pub words-before : (i : ℕ) → i ≤ lines_of (length ws) → words_before (pages text ws) i ≡ take (pairs_before i) ws
  unfolding joined
  words-before zero h = unfold pairs_before in refl
  words-before (suc i) h = go (words-before i (omega arith)) (ℕ_discrete (i % 60) 0)
    where
      go : words_before (pages text ws) i ≡ take (pairs_before i) ws → Dec (i % 60 ≡ 0) → words_before (pages text ws) (suc i) ≡ take (pairs_before (suc i)) ws
      go r (yes e) =
          ap₂ (λ (a b : List ℕ). a ++ b) r (words_head (pages text ws) i e) ∙ append-nil (take (pairs_before i) ws)
          ∙ ap (λ (n : ℕ). take n ws) (sym (before_head i e) ∙ ap pairs_before (add-one i))
      go r (no e) =
          ap₂ (λ (a b : List ℕ). a ++ b) r (words-at i (omega arith) (omega arith)) ∙ sym (take-add (pairs_before i) 6 ws)
          ∙ ap (λ (n : ℕ). take n ws) (sym (before_pairs i (omega arith)) ∙ ap pairs_before (add-one i))

  pub words_all : words_before (pages text ws) (lines_of (length ws)) ≡ ws
  words_all = words-before (lines_of (length ws)) (omega arith) ∙ take_all (pairs_before (lines_of (length ws))) ws (before_all (length ws))

-- ---- ascending lists
pub within_then : {m t : ℕ} (a b : List ℕ) → Within m a t → Within (after m a) b t → Within m (a ++ b) t
unfolding after
within_then [] b q r = r
within_then (w ∷ a) b (goes h q) r = goes h (within_then a b q r)

pub within_rest : {m t : ℕ} (a b : List ℕ) → Within m (a ++ b) t → Within m a t × Within (after m a) b t
unfolding after
within_rest {m} {t} [] b q = (ends {m = m} {t = t} (omega (arith, within_length q)), q)
within_rest (w ∷ a) b (goes h q) = let r = within_rest a b q in (goes h r.0, r.1)

pub after-append : (m : ℕ) (a b : List ℕ) → after m (a ++ b) ≡ after (after m a) b
unfolding after
after-append m [] b = refl
after-append m (w ∷ a) b = after-append (suc w) a b

pub after_le : {m t : ℕ} (l : List ℕ) → Within m l t → after m l ≤ t
unfolding after
after_le [] (ends h) = h
after_le (w ∷ l) (goes h q) = after_le l q

pub within_small : {m : ℕ} (l : List ℕ) → Within m l pair_words → Small l
within_small [] q i h = absurd (omega arith)
within_small (w ∷ l) (goes g q) zero h = omega (arith, within_length q)
within_small (w ∷ l) (goes g q) (suc i) h = within_small l q i (omega arith)

pub listed_within : {m : ℕ} (l : List ℕ) → m ≤ pair_words → Rises m l → PairsBelow 1024 l → Within m l pair_words
listed_within {m} [] h r b = ends {m = m} {t = pair_words} h
listed_within (w ∷ l) h (rises g r) b = goes g (listed_within l (omega (arith, (b w here).0)) r (λ v i. b v (there i)))

within_pairs : {m w : ℕ} {l : List ℕ} → Within m l pair_words → In w l → (w / 1024 < 1024) × (w % 1024 < 1024)
within_pairs {w = w} (ends {m = m} _) x7 = elim x7 [ ]
within_pairs (goes g q) here = (omega (arith, within_length q), omega arith)
within_pairs (goes g q) (there i) = within_pairs q i

pub within_below : {m : ℕ} (l : List ℕ) → Within m l pair_words → PairsBelow 1024 l
within_below l q w i = within_pairs q i

-- ---- lines that stand
pub before_most : (j k : ℕ) → j < lines_of k → pairs_before j ≤ k
unfolding pairs_before lines_of
before_most j k h = omega arith

module _ (text ws : List ℕ) (W : Within 0 ws pair_words) where
  few_words : length ws ≤ pair_words
  few_words = omega (arith, within_length W)

  line_shows : (i : ℕ) → i < lines_of (length ws) → Dec (i % 60 ≡ 0) → byte_line (pages text ws) i ≡ line_with text i (words_at (pages text ws) i)
  unfolding line_of
  line_shows i h (yes e) =
      line_bytes text ws (within_small ws W) few_words i h ∙ line_head text (take 6 (drop (pairs_before i) ws)) i e
      ∙ sym (line_head text (words_at (pages text ws) i) i e)
  line_shows i h (no e) =
      line_bytes text ws (within_small ws W) few_words i h ∙ ap (line_with text i) (sym (words-at text ws (within_small ws W) few_words i h (omega arith)))

  line_climbs : (i : ℕ) → i < lines_of (length ws) → Within (after 0 (words_before (pages text ws) i)) (words_at (pages text ws) i) pair_words
  line_climbs i h =
      let n = pairs_before (i + 1) in
      let e : words_before (pages text ws) i ++ words_at (pages text ws) i ≡ take n ws =
      sym (joined_next (words_at (pages text ws)) i) ∙ words-before text ws (within_small ws W) few_words (i + 1) (omega arith) in
      let p : Within 0 (take n ws) pair_words =
      (within_rest (take n ws) (drop n ws) (subst (λ (l : List ℕ). Within 0 l pair_words) (sym (take-append-drop n ws)) W)).0 in
      (within_rest (words_before (pages text ws) i) (words_at (pages text ws) i) (subst (λ (l : List ℕ). Within 0 l pair_words) (sym e) p)).1

  line_stands : (i : ℕ) → i < lines_of (length ws) → Stands text (pages text ws) i (lines_of (length ws)) (after 0 (words_before (pages text ws) i))
  line_stands i h = record {
    climbs = line_climbs i h;
    shows = line_shows i h (ℕ_discrete (i % 60) 0);
    full = λ l p.
        ap length (words-at text ws (within_small ws W) few_words i h p)
        ∙ length-take-le 6 (drop (pairs_before i) ws) (omega (arith, length-drop (pairs_before i) ws, before_pairs i p, before_most (i + 1) (length ws) l));
  }

-- what is so of the bytes of pages
pub record AsPages (text bytes l : List ℕ) : Type 0 where
  pub size : length bytes ≡ 73 * lines_of (length l)
  pub few : lines_of (length l) ≤ most_lines
  pub stand : (i : ℕ) → i < lines_of (length l) → Stands text bytes i (lines_of (length l)) (after 0 (words_before bytes i))
  pub words : words_before bytes (lines_of (length l)) ≡ l

pub pages_stand : {text bytes l : List ℕ} → IsPages text bytes l → AsPages text bytes l
pages_stand {text} {bytes} {l} P =
    let W : Within 0 l pair_words = listed_within l (omega arith) P.ascending P.below in
    let n : length l ≤ pair_words = few_words text l W in
    subst (λ (b : List ℕ). AsPages text b l) (sym P.are)
    (record {
      size = length_pages text l (within_small l W) n;
      few = lines_most (length l) n;
      stand = line_stands text l W;
      words = words_all text l (within_small l W) n;
    })

-- of so many lines
module _ (text bytes : List ℕ) (n : ℕ) (stand : (i : ℕ) → i < n → Stands text bytes i n (after 0 (words_before bytes i))) where
  pub stand_within : (i : ℕ) → i ≤ n → Within 0 (words_before bytes i) pair_words
  unfolding joined
  stand_within zero h = ends {m = 0} {t = pair_words} (omega arith)
  stand_within (suc i) h = within_then (words_before bytes i) (words_at bytes i) (stand_within i (omega arith)) (stand i (omega arith)).climbs

  stand_length : (i : ℕ) → i < n → length (words_before bytes i) ≡ pairs_before i
  unfolding joined
  stand_length zero h = unfold pairs_before in refl
  stand_length (suc i) h = go (stand_length i (omega arith)) (ℕ_discrete (i % 60) 0)
    where
      go : length (words_before bytes i) ≡ pairs_before i → Dec (i % 60 ≡ 0) → length (words_before bytes i ++ words_at bytes i) ≡ pairs_before (suc i)
      go r (yes e) =
          omega (arith, length-append (words_before bytes i) (words_at bytes i), ap length (words_head bytes i e), before_head i e, ap pairs_before (add-one i))
      go r (no e) =
          omega (
            arith,
            length-append (words_before bytes i) (words_at bytes i),
            (stand i (omega arith)).full (omega arith) (omega arith),
            before_pairs i (omega arith),
            ap pairs_before (add-one i),
          )

  -- the words of a line are the list's
  stand_words : (i : ℕ) → i < n → 0 < i % 60 → take 6 (drop (pairs_before i) (words_before bytes n)) ≡ words_at bytes i
  stand_words i h p = ap (take 6) split ∙ go (dec_lt (i + 1) n)
    where
      rest : List ℕ
      rest = joined (λ j. words_at bytes (i + (1 + j))) (n - (1 + i))

      split : drop (pairs_before i) (words_before bytes n) ≡ words_at bytes i ++ rest
      split =
          let s : n ≡ i + (1 + (n - (1 + i))) = omega arith in
          ap (λ (m : ℕ). drop (pairs_before i) (words_before bytes m)) s ∙ ap (drop (pairs_before i)) (joined_add (words_at bytes) i (1 + (n - (1 + i))))
          ∙ drop_at (words_before bytes i) (joined (λ j. words_at bytes (i + j)) (1 + (n - (1 + i)))) (pairs_before i) (stand_length i h)
          ∙ joined_first (λ j. words_at bytes (i + j)) (n - (1 + i)) ∙ ap (λ (m : ℕ). words_at bytes m ++ rest) (add-zero i)

      go : Dec (i + 1 < n) → take 6 (words_at bytes i ++ rest) ≡ words_at bytes i
      go (yes l) = take_at (words_at bytes i) rest 6 ((stand i h).full l p)
      go (no l) =
          let z : n - (1 + i) ≡ 0 = omega arith in
          let none : rest ≡ [] = ap (joined (λ j. words_at bytes (i + (1 + j)))) z ∙ unfold joined in refl in
          ap (λ (t : List ℕ). take 6 (words_at bytes i ++ t)) none ∙ ap (take 6) (append-nil (words_at bytes i))
          ∙ take_all 6 (words_at bytes i) (words_few bytes i)

  pub stand_pages : length bytes ≡ 73 * n → lines_of (length (words_before bytes n)) ≡ n → IsPages text bytes (words_before bytes n)
  stand_pages size e =
      let l = words_before bytes n in
      let W : Within 0 l pair_words = stand_within n (omega arith) in
      record {
        ascending = within_rises W;
        below = within_below l W;
        are =
            sym (take_all (73 * n) bytes (omega arith)) ∙ sym (joined_parts 73 bytes n)
            ∙ joined_same (byte_line bytes) (line_of text l) n (λ i h. (stand i h).shows ∙ same i h (ℕ_discrete (i % 60) 0))
            ∙ ap (joined (line_of text l)) (sym e) ∙ sym (pages_lines text l);
      }
    where
      same : (i : ℕ) → i < n → Dec (i % 60 ≡ 0) → line_with text i (words_at bytes i) ≡ line_of text (words_before bytes n) i
      same i h (yes e) =
          line_head text (words_at bytes i) i e ∙ sym (unfold line_of in (line_head text (take 6 (drop (pairs_before i) (words_before bytes n))) i e))
      same i h (no e) = ap (line_with text i) (sym (stand_words i h (omega arith))) ∙ unfold line_of in refl
