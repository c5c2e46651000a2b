-- The cursor stands at one of the arcs into the record (`Cursor`), the list has the records of the words (`Listed`), and the arcs passed are those before the
-- record and those into it from it on (`Levelling`). The measure is the cursor, which falls.
use Rattle.std.proofs.Common.{List, ℕ, ◌≡◌, length, get_or}
use Rattle.arcs.specs.Arcs.{arc_to}
use Rattle.arcs.specs.Index.{Cursor}
use Rattle.search.specs.Frontiers.{Levelling, Listed}
use Rattle.search.specs.declared.Entry.{Entry}
use Rattle.search.proofs.levels.into.Given as goal

-- what holds whenever the loop is at its head
pub record Loop (arcs predecessors enter seen next₀ list₀ : List ℕ) (entry : Entry) (next list : List ℕ) (queued cursor : ℕ) : Type 0 where
  pub next_as_long : length next ≡ length next₀
  pub list_as_long : length list ≡ length list₀
  pub stands : Cursor (arc_to arcs) (length arcs) entry.at cursor
  pub listed : Listed list queued entry.n next
  pub levelling : (cur records : List ℕ) (i : ℕ) → entry.at ≡ get_or records i 0 → entry.states ≡ get_or cur entry.at 0
      → Levelling arcs predecessors enter cur seen entry.n (length arcs) records i (length arcs) next₀
      → Levelling arcs predecessors enter cur seen entry.n (length arcs) records i cursor next

abbrev pub invariant-loop-cursor : goal.invariant-loop-cursor
invariant-loop-cursor l = Loop l.fn.arcs l.fn.predecessors l.fn.enter l.fn.seen l.fn.next l.fn.list l.fn.entry l.next l.list l.queued l.cursor

abbrev pub decreases-loop-cursor : goal.decreases-loop-cursor
decreases-loop-cursor l = l.cursor
