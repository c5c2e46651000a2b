-- What is looked up among the words of links: the part of one label.
--   PairsOf s l ps  ps are the pairs x × 1,024 + y of the links x l y of the sheet s, ascending, each once
--   of_label l ws    those of the words that are of links of the label l, in their order
--   LabelPart ws l part
--                   what `label_part` promises
-- Assumes nothing: these are definitions.
use Rattle.std.specs.Prelude.{◌≡◌, List, [], ◌∷◌, map, true, ℕ, ◌+◌, ◌*◌, ◌≤◌, eqb, take, drop}
use Rattle.book.specs.Basics.{pick, In, Rises}
use Rattle.book.specs.Causes.{max_records}
use Rattle.book.specs.Book.{Sheet, present}
use Rattle.book.specs.Sheets.{Fit}
use Rattle.links.specs.Links.{Linked}
use Rattle.links.specs.Parts.{link_of, link_pair}

pub record PairsOf (s : Sheet) (l : ℕ) (ps : List ℕ) : Type 0 where
  pub ascending : Rises 0 ps
  pub sound : (w : ℕ) → In w ps → (x y : ℕ) × (w ≡ x * 1024 + y) × (present s (record { from = x; label = l; to = y }) ≡ true)
  pub whole : (x y : ℕ) → present s (record { from = x; label = l; to = y }) ≡ true → In (x * 1024 + y) ps

unfoldable pub of_label : ℕ → List ℕ → List ℕ
of_label l [] = []
of_label l (w ∷ ws) = pick (eqb (link_of w).label l) (w ∷ of_label l ws) (of_label l ws)

-- the part is a part of the lent words; of ascending words it is those of the label; for every sheet whose links they are, it has the pairs of
-- the label's links
pub record LabelPart (ws : List ℕ) (l : ℕ) (part : List ℕ) : Type 0 where
  pub inside : (i k : ℕ) × (part ≡ take k (drop i ws))
  pub words : Rises 0 ws → part ≡ of_label l ws
  pub pairs : (n : ℕ) (s : Sheet) → n ≤ max_records → Fit n s → Linked ws s → PairsOf s l (map link_pair part)
