-- How many of some words of links are of each label.
--   TotalsOf ts ws   the totals ts are those of the words ws
--   Raised l ts us, Lowered l ts us
--                    what `raise_total` and `lower_total` promise: one more and one less of the label l, where the total has room for it
-- Assumes nothing: these are definitions.
use Rattle.std.specs.Prelude.{◌≡◌, List, ℕ, ◌+◌, ◌≤◌, ◌<◌, get_or, eqb}
use Rattle.book.specs.Basics.{bit}
use Rattle.book.specs.Causes.{labels, max_links}
use Rattle.links.specs.Parts.{word_total}

abbrev pub TotalsOf : List ℕ → List ℕ → Type 0
TotalsOf ts ws = (l : ℕ) → l < labels → get_or ts l 0 ≡ word_total l ws

pub record Raised (l : ℕ) (ts us : List ℕ) : Type 0 where
  pub more : (j : ℕ) → j < labels → get_or ts j 0 < max_links → get_or us j 0 ≡ bit (eqb l j) + get_or ts j 0

pub record Lowered (l : ℕ) (ts us : List ℕ) : Type 0 where
  pub less : (j : ℕ) → j < labels → bit (eqb l j) ≤ get_or ts j 0 → get_or ts j 0 ≡ bit (eqb l j) + get_or us j 0
