-- The links of letters, label by label.
--   every_label          the set of all 26 labels
--   every_if m l         that set if the label l is in the set m of labels, else the set of none
--   stepped_by g f l     the pairs that one step joins, whose letter is of the label l and one of the set f
--   stepped_below g f k  the same for the labels below k
--   PutBelow n w links forward against ws ms ws' ms' k
--                       into the first relation of ws and ms the links of the letters whose labels are below k have been put, for every book whose links these
--                       are
--   Alone l c           the code c is one number, that of the plain letter of the label l
--   LetterListed links l before after r
--                       the pairs of the part of the label l of the links have been written to a list that held `before`, as many as it takes; they are r
-- Assumes nothing: these are definitions.
use Rattle.std.specs.Prelude.{◌≡◌, List, map, ◌++◌, ℕ, ◌^◌, max, length, take, drop, get_or, eqb, Bool, true, false}
use Rattle.book.specs.Basics.{pick}
use Rattle.k2.specs.Bits.{digit}
use Rattle.book.specs.Book.{Book}
use Rattle.k2.specs.PairSets.{Cells, union, most}
use Rattle.paths.specs.Expressions.{Letter}
use Rattle.paths.specs.Chains.{Graph, asked}
use Rattle.paths.specs.Relations.{joins}
use Rattle.reader.specs.declared.items.Item.TheVariants.{Letters}
use Rattle.reader.specs.Code.{item_of}
use Rattle.reader.specs.Letters.{letters_in}
use Rattle.links.specs.Lookups.{LabelPart}
use Rattle.links.specs.Parts.{link_pair}
use Rattle.grid.specs.Grid.{first}
use Rattle.query.specs.Evaluation.{Lettered}

abbrev pub every_label : ℕ
every_label = 67108863

unfoldable pub every_if : ℕ → ℕ → ℕ
every_if m l = pick (eqb (digit m l) 1) every_label 0

unfoldable pub stepped_by : Graph → (Letter → Bool) → ℕ → Cells
stepped_by g f l x y = max (joins g f (record { label = l; inverted = false }) x y) (joins g f (record { label = l; inverted = true }) x y)

unfoldable pub stepped_below : Graph → (Letter → Bool) → ℕ → Cells
stepped_below g f k x y = most k (λ l. stepped_by g f l x y)

abbrev pub PutBelow : (n w : ℕ) → (links : List ℕ) → (forward against : ℕ) → (ws ms ws' ms' : List ℕ) → ℕ → Type 0
PutBelow n w links forward against ws ms ws' ms' k =
    (b : Book) (used : ℕ → ℕ) → Lettered b n links used → first n w ws' ms' ≡ union (first n w ws ms) (stepped_below (asked b) (letters_in forward against) k)

pub record Alone (l : ℕ) (c : List ℕ) : Type 0 where
  pub single : length c ≡ 1
  pub letter : item_of (get_or c 0 0) ≡ Letters (2 ^ l) 0

pub record LetterListed (links : List ℕ) (l : ℕ) (before after : List ℕ) (r : ℕ) : Type 0 where
  pub part : List ℕ
  pub of_label : LabelPart links l part
  pub total : r ≡ length (map link_pair part)
  pub written : after ≡ take (length before) (map link_pair part) ++ drop (length (map link_pair part)) before
