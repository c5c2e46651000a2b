-- The records that were seen in a final state, and what the search for them asks for.
--   meets seen f y  the states of f that were seen at the record y
--   Searching marks links numbers x
--                   the marks of the records and their links, the code of an expression, and a record that there is
-- Assumes nothing: these are definitions.
use Rattle.std.specs.Prelude.{◌≡◌, List, ℕ, ◌≤◌, ◌<◌, length, get_or}
use Rattle.std.specs.Int.Bits.{bit_and}
use Rattle.book.specs.Causes.{max_records, max_links}
use Rattle.paths.specs.Expressions.{Expr}
use Rattle.paths.specs.Verdicts.{InLimits}
use Rattle.reader.specs.Code.{code}

unfoldable pub meets : List ℕ → ℕ → ℕ → ℕ
meets seen f y = bit_and (get_or seen y 0) f

pub record Searching (marks links numbers : List ℕ) (x : ℕ) : Type 0 where
  pub few : length marks ≤ max_records
  pub few_links : length links ≤ max_links
  pub inside : x < length marks
  pub coded : (text : List ℕ) × (e : Expr) × InLimits text e × (numbers ≡ code e)
