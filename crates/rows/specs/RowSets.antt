-- Rows of links, and what rows hold.
--   no_pairs         the set that has no pair
--   labelled m ws   the words of the links ws whose label is in the set m of labels, bit l of which stands for the label l
--   crossed_words ws forward against
--                   the pairs joined by one step over the links ws: forward over those whose label is in the set `forward`, and against their sense over
--                   those whose label is in the set `against`
--   RowsOf n ws     the words are the rows of some set of pairs below n
--   pairs_in n ws    the pair words that the first n rows of ws hold, ascending, whatever the words are
-- Assumes nothing: these are definitions.
use Rattle.std.specs.Prelude.{◌≡◌, List, [], ◌∷◌, map, ℕ, ◌*◌, eqb}
use Rattle.book.specs.Basics.{pick}
use Rattle.k2.specs.Bits.{digit, bit_at}
use Rattle.links.specs.Parts.{link_of, link_pair}
use Rattle.k2.specs.PairSets.{Cells, IsSet, set_of, union, transpose}
use Rattle.rows.specs.Rows.{flat, places}

unfoldable pub no_pairs : Cells
no_pairs x y = 0

unfoldable pub labelled : ℕ → List ℕ → List ℕ
labelled m [] = []
labelled m (w ∷ ws) = pick (eqb (digit m (link_of w).label) 1) (w ∷ labelled m ws) (labelled m ws)

unfoldable pub crossed_words : List ℕ → ℕ → ℕ → Cells
crossed_words ws forward against = union (set_of (map link_pair (labelled forward ws))) (transpose (set_of (map link_pair (labelled against ws))))

pub record RowsOf (n : ℕ) (ws : List ℕ) : Type 0 where
  pub set : Cells
  pub is_set : IsSet n set
  pub rows : bit_at ws ≡ flat set

abbrev pub pairs_in : ℕ → List ℕ → List ℕ
pairs_in n ws = places (bit_at ws) (n * 1024)
