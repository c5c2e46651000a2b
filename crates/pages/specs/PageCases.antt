-- Pages of small lists, each by computation: the texts that S17 shows in words.
--   pages_printed   a table: an expression and its pairs, and the bytes of their pages
--   page_turned     354 pairs fill one page of 60 lines and give no second; one more gives a second, of a head and one line
-- Assumes nothing.
use Rattle.std.specs.Prelude.{◌≡◌, refl, List, [], ◌∷◌, map, ℕ}
use Prim.Native.String.{String}
use Rattle.k2.specs.PairSets.{pair_word}
use Rattle.report.specs.Report.{bytes, figures, decimal, lines}
use Rattle.pages.specs.Pages.{joined, padded, right_aligned, record_cell, pair_cell, pair_line, head_line, page, pages}
use Rattle.pages.specs.Lines.{lines_of}

unfoldable pub table : List (List ℕ × String)
table =
    (pages (bytes "a") [], "a                                                                      1\n") ∷ (
      pages (bytes "a/^a") (pair_word 0 0 ∷ pair_word 0 2 ∷ pair_word 2 0 ∷ pair_word 2 2 ∷ []),
      "a/^a                                                                   1\n    0     0     0     2     2     0     2     2                         \n",
    ) ∷ (
      pages (bytes "b+") (pair_word 0 1 ∷ pair_word 9 10 ∷ pair_word 99 100 ∷ pair_word 100 999 ∷ pair_word 1000 7 ∷ pair_word 1023 0 ∷ pair_word 1023 1023 ∷
          []),
      "b+                                                                     1\n    0     1     9    10    99   100   100   999  1000     7  1023     0 \n 1023  1023                                                             \n",
    ) ∷ []

pub pages_printed : map (λ t. t.0) table ≡ map (λ t. bytes t.1) table
unfolding table bytes figures decimal lines joined padded right_aligned record_cell pair_cell pair_line head_line page pages
pages_printed = refl

pub page_turned : (lines_of 0 ∷ lines_of 1 ∷ lines_of 6 ∷ lines_of 7 ∷ lines_of 354 ∷ lines_of 355 ∷ lines_of 708 ∷ lines_of 709 ∷ [])
    ≡ 1 ∷ 2 ∷ 2 ∷ 3 ∷ 60 ∷ 62 ∷ 120 ∷ 122 ∷ []
unfolding lines_of
page_turned = refl
