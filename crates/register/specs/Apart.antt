-- What the inner functions of `without` promise one another.
--   apart_word x w          the test of a link's word that its link does not touch the record x
--   Kept x ws ts us vs k   what `keep_apart` promises of the words ws and totals ts: the first k of vs are the words of ws that do not touch x, and
--                          totals that were those of ws are those of what is left
-- Assumes nothing: these are definitions.
use Rattle.std.specs.Prelude.{◌≡◌, List, Bool, ℕ, ◌≤◌, length, take}
use Rattle.links.specs.Parts.{link_of}
use Rattle.links.specs.Totals.{TotalsOf}
use Rattle.register.specs.Parting.{filter, apart}

abbrev pub apart_word : ℕ → ℕ → Bool
apart_word x w = apart x (link_of w)

pub record Kept (x : ℕ) (ws ts us vs : List ℕ) (k : ℕ) : Type 0 where
  pub few : k ≤ length ws
  pub words : take k vs ≡ filter (apart_word x) ws
  pub totals : TotalsOf ts ws → TotalsOf us (filter (apart_word x) ws)
