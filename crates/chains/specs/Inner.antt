-- What the search for a chain asks for. Nobody has to believe it: the call looks at each before.
--   Searching marks links numbers from to work
--                   the marks of the records and their links, the code of an expression, two records that there are, and work enough
-- Assumes nothing: these are definitions.
use Rattle.std.specs.Prelude.{◌≡◌, List, ℕ, ◌*◌, ◌≤◌, ◌<◌, length}
use Rattle.book.specs.Causes.{max_records, max_links}
use Rattle.paths.specs.Expressions.{Expr}
use Rattle.paths.specs.Verdicts.{InLimits}
use Rattle.reader.specs.Code.{code}

pub record Searching (marks links numbers : List ℕ) (from to : ℕ) (work : List ℕ) : Type 0 where
  pub few : length marks ≤ max_records
  pub few_links : length links ≤ max_links
  pub from_in : from < length marks
  pub to_in : to < length marks
  pub lent : length marks * 64 ≤ length work
  pub coded : (text : List ℕ) × (e : Expr) × InLimits text e × (numbers ≡ code e)
