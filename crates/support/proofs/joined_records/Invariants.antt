-- `joined_records` goes over the records. The loop's invariant: the records below x are marked as they are joined. The measure is
-- the records left. It rests on `reaches_joined`. Assumes nothing.
use mathlib.Core.List.{List}
use mathlib.Core.Bool.{Bool, false}
use mathlib.Core.Path.{◌≡◌}
use Prim.Native.Nat.{ℕ, ◌≤◌, ◌<◌}
use lib.ListN.{length, get_or}
use Rattle.book.specs.Causes.{max_records}
use Rattle.support.specs.Support.{reaches}
use Rattle.rowpairs.specs.Evaluation.{relation_in}
use Rattle.support.proofs.joined_records.Given as goal

-- what holds whenever the loop is at its head
pub record Loop (cells masks : List ℕ) (n : ℕ) (anchors : List ℕ) (records : List Bool) (x : ℕ) : Type 0 where
  pub inside : x ≤ n
  pub n_most : n ≤ max_records
  pub records_long : length records ≡ max_records
  pub reached : (y : ℕ) → y < x → get_or records y false ≡ reaches (relation_in cells masks n) anchors y

abbrev pub invariant-loop-x : goal.invariant-loop-x
invariant-loop-x l = Loop l.cells l.masks l.n l.anchors l.records l.x
