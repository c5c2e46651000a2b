-- The printed pages of an expression and its pairs: lines of 72 bytes and a line feed, as bytes in ASCII.
--   joined f k            f 0, f 1, .. f (k - 1), one after the other
--   part w i l            part i of the list l in parts of w, the last of which may be short
--   parts w k             how many parts of w a list of k has
--   padded w t            the text t with blanks after it, to w bytes
--   right_aligned w k      the decimal figures of k with blanks before them, to w bytes
--   record_cell x          a record's number in 5, right-aligned, and a blank
--   pair_cell w            a pair word in 12: from and to
--   pair_line ws           the line of at most six pair words
--   head_line text p       the head of page p, the first being 0: the first 60 bytes of the expression's text, padded, then the page's number from 1, in 12
--   page text p ws        page p with at most 354 pair words: its head, and a line for each six
--   pages text ws         all pages, at least one
--   IsPages text bytes l  the bytes are the pages of the text and of l, an ascending list of different pairs of records below 1,024
-- Assumes nothing: these are definitions.
use Rattle.std.specs.Prelude.{◌≡◌, List, [], ◌++◌, ℕ, zero, suc, ◌+◌, ◌-◌, ◌*◌, ◌/◌, ◌%◌, max, length, take, drop, replicate}
use Rattle.book.specs.Basics.{Rises}
use Rattle.book.specs.Causes.{max_records}
use Rattle.k2.specs.PairSets.{PairsBelow}
use Rattle.report.specs.Report.{space, decimal, line, lines}

unfoldable pub joined : (ℕ → List ℕ) → ℕ → List ℕ
joined f zero = []
joined f (suc k) = joined f k ++ f k

abbrev pub part : ℕ → ℕ → List ℕ → List ℕ
part w i l = take w (drop (w * i) l)

abbrev pub parts : ℕ → ℕ → ℕ
parts w k = (k + (w - 1)) / w

abbrev pub blanks : ℕ → List ℕ
blanks k = replicate k space

unfoldable pub padded : ℕ → List ℕ → List ℕ
padded w t = t ++ blanks (w - length t)

unfoldable pub right_aligned : ℕ → ℕ → List ℕ
right_aligned w k = blanks (w - length (decimal k)) ++ decimal k

-- so many bytes for a record's number, for a page's number, for the expression, for a line; so many pairs to a line, pair lines to a page, pairs to a page
abbrev pub record_width : ℕ
record_width = 5

abbrev pub number_width : ℕ
number_width = 12

abbrev pub text_width : ℕ
text_width = 60

abbrev pub line_width : ℕ
line_width = 72

abbrev pub line_pairs : ℕ
line_pairs = 6

abbrev pub page_lines : ℕ
page_lines = 59

abbrev pub page_pairs : ℕ
page_pairs = page_lines * line_pairs

unfoldable pub record_cell : ℕ → List ℕ
record_cell x = right_aligned record_width x ++ blanks 1

unfoldable pub pair_cell : ℕ → List ℕ
pair_cell w = record_cell (w / 1024) ++ record_cell (w % 1024)

unfoldable pub pair_line : List ℕ → List ℕ
pair_line ws = line (padded line_width (lines pair_cell ws))

unfoldable pub head_line : List ℕ → ℕ → List ℕ
head_line text p = line (padded text_width (take text_width text) ++ right_aligned number_width (p + 1))

unfoldable pub page : List ℕ → ℕ → List ℕ → List ℕ
page text p ws = head_line text p ++ joined (λ i. pair_line (part line_pairs i ws)) (parts line_pairs (length ws))

unfoldable pub pages : List ℕ → List ℕ → List ℕ
pages text ws = joined (λ p. page text p (part page_pairs p ws)) (max 1 (parts page_pairs (length ws)))

pub record IsPages (text bytes l : List ℕ) : Type 0 where
  pub ascending : Rises 0 l
  pub below : PairsBelow max_records l
  pub are : bytes ≡ pages text l
