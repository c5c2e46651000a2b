-- Sets of pairs of records below 1,024 as rows of bits: 1,024 rows of 16 words, so that bit p of the rows is the pair word p.
--   flat a          the bits of a set's rows
--   places f n      the places below n at which f is not 0, ascending
-- Assumes nothing: these are definitions.
use Rattle.std.specs.Prelude.{List, [], ◌++◌, ℕ, zero, suc, ◌/◌, ◌%◌}
use Rattle.k2.specs.PairSets.{Cells, if_set}

unfoldable pub flat : Cells → ℕ → ℕ
flat a p = a (p / 1024) (p % 1024)

unfoldable pub places : (ℕ → ℕ) → ℕ → List ℕ
places f zero = []
places f (suc n) = places f n ++ if_set (f n) n
