-- The cursor stands at one of the arcs out of the record (`Cursor`), the list has the records that are pending (`Listed`), no more is to be done than before
-- (`Fewer`), and the arcs that count at the states of the mask are those from the cursor on (`Expanding`). The measure is the cursor, which falls.
use Rattle.std.proofs.Common.{List, ℕ, ◌≡◌, length}
use Rattle.arcs.specs.Arcs.{arc_from}
use Rattle.arcs.specs.Index.{Cursor}
use Rattle.search.specs.Levels.{Spread}
use Rattle.search.specs.Frontiers.{Listed}
use Rattle.search.specs.Reaching.{Expanding, Fewer}
use Rattle.search.specs.declared.Entry.{Entry}
use Rattle.search.proofs.reach.out_of.Given as goal

-- what holds whenever the loop is at its head
pub record Loop (arcs enter seen₀ pending₀ list₀ : List ℕ) (entry : Entry) (seen pending list : List ℕ) (queued cursor : ℕ) : Type 0 where
  pub seen_as_long : length seen ≡ length seen₀
  pub pending_as_long : length pending ≡ length pending₀
  pub list_as_long : length list ≡ length list₀
  pub stands : Cursor (arc_from arcs) (length arcs) entry.at cursor
  pub listed : Listed list queued entry.n pending
  pub fewer : Fewer entry.n seen₀ pending₀ seen pending
  pub expanding : (fs : List ℕ) (x mask : ℕ) → Spread fs mask 0 entry.states
      → Expanding fs enter arcs (length arcs) entry.n x seen₀ pending₀ entry.at mask (length arcs)
      → Expanding fs enter arcs (length arcs) entry.n x seen pending entry.at mask cursor

abbrev pub invariant-loop-cursor : goal.invariant-loop-cursor
invariant-loop-cursor l = Loop l.fn.arcs l.fn.enter l.fn.seen l.fn.pending l.fn.list l.fn.entry l.seen l.pending l.list l.queued l.cursor

abbrev pub decreases-loop-cursor : goal.decreases-loop-cursor
decreases-loop-cursor l = l.cursor
