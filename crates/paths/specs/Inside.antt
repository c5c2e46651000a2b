-- A graph that has its links where chains may go.
--   Inside g       the graph's links lie between records in use, which are below n, and their labels are letters
use Rattle.std.proofs.Math.Path.{◌≡◌}
use Rattle.std.specs.Prelude.{true, ℕ, ◌<◌}
use Rattle.book.specs.Book.{Link}
use Rattle.paths.specs.Chains.{Graph}

pub record Inside (g : Graph) : Type 0 where
  pub below : (x : ℕ) → g.in_use x ≡ true → x < g.n
  pub from : (k : Link) → g.present k ≡ true → g.in_use k.from ≡ true
  pub to : (k : Link) → g.present k ≡ true → g.in_use k.to ≡ true
  pub label : (k : Link) → g.present k ≡ true → k.label < 26
