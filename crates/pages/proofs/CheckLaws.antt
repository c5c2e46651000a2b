-- Laws of judging: a line stands or falls by what was found of it; lines that all stand are pages, and pages have no line that falls.
--   rising_small        words that ascend below the number after every pair word are pair words
--   head_stands, head_falls
--                       a head line, by its bytes
--   short_falls, rising_falls, line_falls, line_stands
--                       a pair line: too few pairs, pairs that do not ascend, other bytes; or it stands
--   line_not, line_yes  what a line was found to be
--   bad_size, bad_most, bad_line, bad_lines
--                       no pages: bytes of no whole line, too many lines, a line that falls, more or fewer lines than its pairs take
--   few_pairs, good_lines
--                       all lines stand: so many pairs at most, and they are pages
--   before_next, stand_next
--                       one line more
--   judged_length       as many pairs as are listed
-- Assumes nothing.
use mathlib.Core.Path.{◌≡◌, refl, sym, ap, subst, ◌∙◌}
use mathlib.Core.List.{List}
use Prim.Native.Nat.{ℕ, ◌+◌, ◌*◌, ◌/◌, ◌%◌, ◌≤◌, ◌<◌}
use native.Mathlib.Decide.{dec_lt}
use native.Mathlib.Omega.{arith}
use lib.ListN.{length, take, drop, get_or, length-append}
use lib.Seq.{length-take-le, get_or-take}
use Rattle.k2.specs.PairSetLaws.{Within, ends, within_length}
use Rattle.pages.specs.Pages.{pair_line, head_line}
use Rattle.pages.specs.Lines.{pair_words, most_lines, lines_of, cell_words, byte_line, words_at, words_before, after, Stands, Rising, up, down, Line, stands}
use Rattle.pages.specs.Lines.{falls, Judged, good, bad}
use Rattle.pages.specs.LineLaws.{line_head, line_pairs, joined_next}
use Rattle.pages.specs.ReadLaws.{words_head, words_pairs, after_le, after-append, within_small, AsPages, pages_stand, stand_within, stand_pages}
use Rattle.pages.specs.declared.reading.Judgement.{Judgement}
use Rattle.pages.specs.declared.reading.Judgement.TheVariants.{Listing, Broken}

-- ---- one line
pub rising_small : {low : ℕ} (ws : List ℕ) (n : ℕ) {next : ℕ} → n ≤ length ws
    → Rising low (take n ws) next → next ≤ pair_words → (i : ℕ) → i < n → get_or ws i 0 < pair_words
rising_small ws n h (up W) l i k =
    let e = length-take-le n ws h in
    subst (λ (v : ℕ). v < pair_words) (get_or-take n ws i 0 k) (within_small (take n ws) W i (omega arith))
rising_small ws n h (down f) l i k = absurd (omega arith)

module _ (text bytes : List ℕ) (i last low : ℕ) where
  pub head_stands : i % 60 ≡ 0 → low ≤ pair_words → byte_line bytes i ≡ head_line text (i / 60) → Line text bytes i last low 0 low
  unfolding after
  head_stands e l s =
      let w = words_head bytes i e in
      let S : Stands text bytes i last low = record {
        climbs = subst (λ (ws : List ℕ). Within low ws pair_words) (sym w) (ends {m = low} {t = pair_words} l);
        shows = s ∙ sym (line_head text (words_at bytes i) i e);
        full = λ h p. absurd (omega arith);
      } in
      subst (λ (ws : List ℕ). Line text bytes i last low (length ws) (after low ws)) w (stands S)

  pub head_falls : i % 60 ≡ 0 → (byte_line bytes i ≡ head_line text (i / 60) → ⊥) → Line text bytes i last low 0 (pair_words + 1)
  head_falls e n = falls (λ S. n (S.shows ∙ line_head text (words_at bytes i) i e))

  module _ (p : 0 < i % 60) (ws : List ℕ) (w : ws ≡ cell_words 6 (drop (73 * i) bytes)) where
    is_words : words_at bytes i ≡ ws
    is_words = words_pairs bytes i p ∙ sym w

    pub short_falls : length ws < 6 → i + 1 < last → Line text bytes i last low 0 (pair_words + 1)
    short_falls h l = falls (λ S. omega (arith, S.full l p, ap length is_words))

    pub rising_falls : {next : ℕ} → Rising low ws next → pair_words < next → Line text bytes i last low 0 (pair_words + 1)
    rising_falls (up W) h = absurd (omega (arith, after_le ws W))
    rising_falls (down n) h = falls (λ S. n (subst (λ (l : List ℕ). Within low l pair_words) is_words S.climbs))

    pub line_falls : (byte_line bytes i ≡ pair_line ws → ⊥) → Line text bytes i last low 0 (pair_words + 1)
    line_falls n = falls (λ S. n (S.shows ∙ line_pairs text (words_at bytes i) i p ∙ ap pair_line is_words))

    pub line_stands : {next : ℕ} → Rising low ws next → next ≤ pair_words → byte_line bytes i ≡ pair_line ws
        → (i + 1 < last → length ws ≡ 6) → Line text bytes i last low (length ws) next
    line_stands (down n) h s f = absurd (omega arith)
    line_stands (up W) h s f =
        let S : Stands text bytes i last low = record {
          climbs = subst (λ (l : List ℕ). Within low l pair_words) (sym is_words) W;
          shows = s ∙ ap pair_line (sym is_words) ∙ sym (line_pairs text (words_at bytes i) i p);
          full = λ h q. ap length is_words ∙ f h;
        } in
        subst (λ (l : List ℕ). Line text bytes i last low (length l) (after low l)) is_words (stands S)

  -- what a line was found to be
  pub line_not : {count next : ℕ} → Line text bytes i last low count next → pair_words < next → Stands text bytes i last low → ⊥
  line_not (stands S) h T = omega (arith, after_le (words_at bytes i) S.climbs)
  line_not (falls n) h T = n T

  pub line_yes : {count next : ℕ} → Line text bytes i last low count next → next ≤ pair_words
      → Stands text bytes i last low × (count ≡ length (words_at bytes i)) × (next ≡ after low (words_at bytes i))
  line_yes (stands S) h = (S, refl, refl)
  line_yes (falls n) h = absurd (omega arith)

-- ---- all lines
module _ (text bytes : List ℕ) where
  -- so many lines, if they are pages
  pages_size : {l : List ℕ} → AsPages text bytes l → length bytes / 73 ≡ lines_of (length l)
  pages_size A = omega (arith, A.size)

  pub bad_size : (73 * (length bytes / 73) ≡ length bytes → ⊥) → Judged text bytes Broken
  bad_size n = bad (λ l P. let A = pages_stand P in n (omega (arith, A.size)))

  pub bad_most : most_lines < length bytes / 73 → Judged text bytes Broken
  bad_most h = bad (λ l P. let A = pages_stand P in omega (arith, A.few, pages_size A))

  module _ (n : ℕ) (e : n ≡ length bytes / 73) where
    pub bad_line : (i : ℕ) → i < n → (Stands text bytes i n (after 0 (words_before bytes i)) → ⊥) → Judged text bytes Broken
    bad_line i h f = bad (λ l P.
        let A = pages_stand P in
        let z : lines_of (length l) ≡ n = sym (pages_size A) ∙ sym e in
        f (subst (λ (m : ℕ). Stands text bytes i m (after 0 (words_before bytes i))) z (A.stand i (omega arith))))

    pub bad_lines : (lines_of (length (words_before bytes n)) ≡ n → ⊥) → Judged text bytes Broken
    bad_lines f = bad (λ l P.
        let A = pages_stand P in
        let z : n ≡ lines_of (length l) = e ∙ pages_size A in
        f (ap (λ (m : ℕ). lines_of (length (words_before bytes m))) z ∙ ap (λ (t : List ℕ). lines_of (length t)) A.words ∙ sym z))

    module _ (stand : (i : ℕ) → i < n → Stands text bytes i n (after 0 (words_before bytes i))) where
      pub few_pairs : length (words_before bytes n) ≤ pair_words
      few_pairs = omega (arith, within_length (stand_within text bytes n stand n (omega arith)))

      pub good_lines : 73 * n ≡ length bytes → lines_of (length (words_before bytes n)) ≡ n → Judged text bytes (Listing (length (words_before bytes n)))
      good_lines s z = good (words_before bytes n) (ap (words_before bytes) e) (stand_pages text bytes n stand (sym s) z)

  -- one line more
  pub before_next : (i : ℕ) → (length (words_before bytes (i + 1)) ≡ length (words_before bytes i) + length (words_at bytes i))
      × (after 0 (words_before bytes (i + 1)) ≡ after (after 0 (words_before bytes i)) (words_at bytes i))
  before_next i =
      let e = joined_next (words_at bytes) i in
      (ap length e ∙ length-append (words_before bytes i) (words_at bytes i), ap (after 0) e ∙ after-append 0 (words_before bytes i) (words_at bytes i))

  pub stand_next : (n i : ℕ) → ((k : ℕ) → k < i → Stands text bytes k n (after 0 (words_before bytes k)))
      → Stands text bytes i n (after 0 (words_before bytes i))
      → (k : ℕ) → k < i + 1 → Stands text bytes k n (after 0 (words_before bytes k))
  stand_next n i f S k h = go (dec_lt k i)
    where
      go : Dec (k < i) → Stands text bytes k n (after 0 (words_before bytes k))
      go (yes l) = f k l
      go (no l) = let e : i ≡ k = omega arith in subst (λ (j : ℕ). Stands text bytes j n (after 0 (words_before bytes j))) e S

-- as many pairs as are listed
pub judged_length : (text bytes : List ℕ) {j : Judgement} {k : ℕ} → j ≡ Listing k → Judged text bytes j → length (words_before bytes (length bytes / 73)) ≡ k
judged_length text bytes {k = k} q (good l s P) = let z : length l ≡ k = cc in ap length (sym s) ∙ z
judged_length text bytes q (bad n) = absurd (let z : ◌≡◌ {A = ℕ} 0 1 = cc in omega arith)
