-- The list has the records with states pending (`Listed`), and what was seen is come to and, where it is not pending, gone out of (`Expanding`). The measure
-- is the number of states that are not seen or pending (`to_do`), which a record taken off lessens and an arc does not raise (`Fewer`).
use Rattle.std.proofs.Common.{List, ℕ, ◌≡◌, ◌*◌, length}
use Rattle.k2.specs.Bits.{ones_below}
use Rattle.search.specs.Frontiers.{Listed}
use Rattle.search.specs.Reaching.{Expanding, to_do}
use Rattle.search.proofs.reach.reach.Given as goal

-- what holds whenever the loop is at its head
pub record Loop (arcs follow enter : List ℕ) (n from : ℕ) (seen pending list : List ℕ) (count : ℕ) : Type 0 where
  pub seen_long : length seen ≡ 1024
  pub pending_long : length pending ≡ 1024
  pub list_long : length list ≡ 1024
  pub listed : Listed list count n pending
  pub expanding : Expanding follow enter arcs (length arcs) n from seen pending 0 0 0

abbrev pub invariant-loop-count : goal.invariant-loop-count
invariant-loop-count l = Loop l.fn.arcs l.fn.follow l.fn.enter l.fn.n l.fn.from l.seen l.pending l.list l.count

abbrev pub decreases-loop-count : goal.decreases-loop-count
decreases-loop-count l = ones_below (to_do l.seen l.pending) (l.fn.n * 64)
