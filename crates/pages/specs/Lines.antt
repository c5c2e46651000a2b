-- Pages line by line, for the functions that lay and read one line after the other. Nobody has to believe these: LineLaws and ReadLaws say what they are.
--   line_bytes, pair_words, most_lines
--                        the bytes of a line with its line feed; the number after every pair word; the lines that all of them fill
--   Small ws             every word of ws is below that number
--   pairs_before i        how many pairs stand on the lines before line i, if they are full
--   lines_of k            the lines of k pairs
--   line_with text i ws   line i, the first being 0, if it shows the pair words ws: every sixtieth is a head
--   line_of text ws i     line i of the pages of ws
--   ahead f p d          the places from p to p + d - 1 at which f is not 0, ascending
--   held ws ms n         whether each pair word is one of the relation of n records in the words ws with the masks ms
--   pairs_held f          the pair words at which f is not 0, ascending
--   value bs             the number whose figures are bs: a figure's lowest four bits are the figure, and a blank's are 0
--   cell_word t           the pair word in the figures of the cell at the front of t
--   cell_words f t        the pair words of the cells at the front of t, up to a blank one, at most f
--   byte_line bytes i, words_at bytes i
--                        the bytes of line i, and the pair words on it, none on a head
--   words_before bytes i  the pair words on the lines before line i
--   after m l            the number after the last of l, or m if there is none
--   Stands text bytes i last low
--                        line i is as the pages of the text and some list would have it, where the pairs so far are below `low`: its pairs ascend from `low`
--                        on, it is the line of its own pairs, and six stand on a pair line that is not the last
--   Gathered f p words q count
--                        from place p on the next six places, or as many as there are below the last pair word, are the first `count` of `words`; q is after
--                        them
--   Laid f text i p before after q
--                        line i was laid where it belongs, for every list whose pairs from this line on are the places of f from p on; those of the next lines
--                        are from q on
--   Rising low ws r      the words ws ascend from `low` on below `pair_words` and r is the number after them; or they do not, and r is above every number
--   Line text bytes i last low count next
--                        the line stands, `count` pairs are on it and `next` is the number after them; or it does not, and `next` is above every number
--   Judged text bytes    the bytes are the pages of the text and some list, so many pairs; or of no list
--   PairLine words count at out
--                        the first `count` of words are pair words, and a line of them fits `out` from the place `at` on
--   Gathering from words n masks
--                        `words` takes the pairs of a line, the next from the place `from` on, of n records with so many masks
--   Laying i place out n masks
--                        `out` takes line i, whose pairs are from `place` on, of n records with so many masks
--   Paging cells masks n lines out
--                        `lines` are as many as the relation of n records fills, and `out` takes them
--   Checking pages i lines low
--                        line i is one of the `lines` that the bytes have, and the pairs so far are below `low`
-- Assumes nothing: these are definitions.
use Rattle.std.specs.Prelude.{◌≡◌, List, [], ◌∷◌, ◌++◌, ℕ, zero, suc, ◌+◌, ◌-◌, ◌*◌, ◌/◌, ◌%◌, ◌<◌, ◌≤◌, max, eqb, length, take, drop, get_or}
use Rattle.book.specs.Basics.{pick}
use Rattle.k2.specs.PairSets.{if_set}
use Rattle.k2.specs.PairSetLaws.{Within}
use Rattle.rows.specs.Rows.{flat, places}
use Rattle.rowpairs.specs.Evaluation.{relation_in}
use Rattle.report.specs.Report.{space}
use Rattle.answers.specs.Written.{Wrote}
use Rattle.pages.specs.Pages.{joined, parts, line_pairs, page_pairs, record_width, pair_line, head_line, IsPages}
use Rattle.pages.specs.declared.reading.Judgement.{Judgement}
use Rattle.pages.specs.declared.reading.Judgement.TheVariants.{Listing, Broken}
use Rattle.book.specs.Causes.{max_records}

abbrev pub line_bytes : ℕ
line_bytes = 73

abbrev pub pair_words : ℕ
pair_words = 1048576

abbrev pub most_lines : ℕ
most_lines = 177726

abbrev pub Small : List ℕ → Type 0
Small ws = (i : ℕ) → i < length ws → get_or ws i 0 < pair_words

unfoldable pub pairs_before : ℕ → ℕ
pairs_before i = 6 * (i - (i + 59) / 60)

unfoldable pub lines_of : ℕ → ℕ
lines_of k = max 1 (parts page_pairs k) + parts line_pairs k

unfoldable pub line_with : List ℕ → ℕ → List ℕ → List ℕ
line_with text i ws = pick (eqb (i % 60) 0) (head_line text (i / 60)) (pair_line ws)

unfoldable pub line_of : List ℕ → List ℕ → ℕ → List ℕ
line_of text ws i = line_with text i (take line_pairs (drop (pairs_before i) ws))

unfoldable pub ahead : (ℕ → ℕ) → ℕ → ℕ → List ℕ
ahead f p zero = []
ahead f p (suc d) = if_set (f p) p ++ ahead f (suc p) d

abbrev pub held : (ws ms : List ℕ) → (n : ℕ) → ℕ → ℕ
held ws ms n = flat (relation_in ws ms n)

abbrev pub pairs_held : (ℕ → ℕ) → List ℕ
pairs_held f = places f pair_words

unfoldable pub value_from : ℕ → List ℕ → ℕ
value_from v [] = v
value_from v (b ∷ bs) = value_from (10 * v + b % 16) bs

abbrev pub value : List ℕ → ℕ
value bs = value_from 0 bs

unfoldable pub cell_word : List ℕ → ℕ
cell_word t = value (take record_width t) * 1024 + value (take record_width (drop 6 t))

unfoldable pub cell_words : ℕ → List ℕ → List ℕ
cell_words zero t = []
cell_words (suc f) t = pick (eqb (get_or t 4 0) space) [] (cell_word t ∷ cell_words f (drop 12 t))

abbrev pub byte_line : List ℕ → ℕ → List ℕ
byte_line bytes i = take line_bytes (drop (line_bytes * i) bytes)

unfoldable pub words_at : List ℕ → ℕ → List ℕ
words_at bytes i = pick (eqb (i % 60) 0) [] (cell_words line_pairs (drop (line_bytes * i) bytes))

abbrev pub words_before : List ℕ → ℕ → List ℕ
words_before bytes i = joined (words_at bytes) i

unfoldable pub after : ℕ → List ℕ → ℕ
after m [] = m
after m (w ∷ l) = after (suc w) l

pub record Stands (text bytes : List ℕ) (i last low : ℕ) : Type 0 where
  pub climbs : Within low (words_at bytes i) pair_words
  pub shows : byte_line bytes i ≡ line_with text i (words_at bytes i)
  pub full : i + 1 < last → 0 < i % 60 → length (words_at bytes i) ≡ line_pairs

pub record Gathered (f : ℕ → ℕ) (p : ℕ) (words : List ℕ) (q count : ℕ) : Type 0 where
  pub few : count ≤ line_pairs
  pub in_range : q ≤ pair_words
  pub small : (i : ℕ) → i < count → get_or words i 0 < pair_words
  pub found : ahead f p (pair_words - p) ≡ take count words ++ ahead f q (pair_words - q)
  pub all : count < line_pairs → ahead f q (pair_words - q) ≡ []

pub record Laid (f : ℕ → ℕ) (text : List ℕ) (i p : ℕ) (before after : List ℕ) (q : ℕ) : Type 0 where
  pub in_range : q ≤ pair_words
  pub lays : (ws : List ℕ) → drop (pairs_before i) ws ≡ ahead f p (pair_words - p)
      → Wrote (line_bytes * i) (line_of text ws i) before after (line_bytes * i + line_bytes) × (drop (pairs_before (i + 1)) ws ≡ ahead f q (pair_words - q))

pub data Rising (low : ℕ) (ws : List ℕ) : ℕ → Type 0 where
  up : Within low ws pair_words → Rising low ws (after low ws)
  down : (Within low ws pair_words → ⊥) → Rising low ws (pair_words + 1)

pub data Line (text bytes : List ℕ) (i last low : ℕ) : ℕ → ℕ → Type 0 where
  stands : Stands text bytes i last low → Line text bytes i last low (length (words_at bytes i)) (after low (words_at bytes i))
  falls : {count : ℕ} → (Stands text bytes i last low → ⊥) → Line text bytes i last low count (pair_words + 1)

pub data Judged (text bytes : List ℕ) : Judgement → Type 0 where
  good : (l : List ℕ) → l ≡ words_before bytes (length bytes / line_bytes) → IsPages text bytes l → Judged text bytes (Listing (length l))
  bad : ((l : List ℕ) → IsPages text bytes l → ⊥) → Judged text bytes Broken

-- ---- what functions ask for
pub record PairLine (words : List ℕ) (count at : ℕ) (out : List ℕ) : Type 0 where
  pub few : count ≤ line_pairs
  pub there : count ≤ length words
  pub small : (i : ℕ) → i < count → get_or words i 0 < pair_words
  pub fits : at + line_bytes ≤ length out

pub record Gathering (from : ℕ) (words : List ℕ) (n : ℕ) (masks : List ℕ) : Type 0 where
  pub inside : from ≤ pair_words
  pub six : length words ≡ line_pairs
  pub few : n ≤ max_records
  pub masked : n ≤ length masks

pub record Laying (i place : ℕ) (out : List ℕ) (n : ℕ) (masks : List ℕ) : Type 0 where
  pub line : i < most_lines
  pub inside : place ≤ pair_words
  pub fits : line_bytes * i + line_bytes ≤ length out
  pub few : n ≤ max_records
  pub masked : n ≤ length masks

pub record Paging (cells masks : List ℕ) (n lines : ℕ) (out : List ℕ) : Type 0 where
  pub all : lines ≡ lines_of (length (pairs_held (held cells masks n)))
  pub fits : line_bytes * lines ≤ length out
  pub few : n ≤ max_records
  pub masked : n ≤ length masks

pub record Checking (pages : List ℕ) (i lines low : ℕ) : Type 0 where
  pub line : i < lines
  pub few : lines ≤ most_lines
  pub fits : line_bytes * lines ≤ length pages
  pub inside : low ≤ pair_words
