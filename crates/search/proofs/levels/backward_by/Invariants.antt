-- The outer loop: whatever graph and automaton the arcs and tables are of, the numbers are known after so many levels (`Level`); the records and words held are
-- those of the current level (`Frontier`); and at least as many states have been seen. The measure is the number of states not seen, which each level that is
-- not empty lessens.
-- The inner loop goes over the records of the current level: the list has the records of the words (`Listed`), and the arcs passed are those into the first i
-- records (`Levelling`). The measure is what is left of the records.
use Rattle.std.proofs.Common.{List, ℕ, ◌≡◌, ◌*◌, ◌-◌, ◌≤◌, length}
use Rattle.k2.specs.Bits.{bit_at, ones_below}
use Rattle.paths.specs.Chains.{Graph}
use Rattle.automaton.specs.Automata.{Automaton}
use Rattle.search.specs.Levels.{Setting}
use Rattle.search.specs.Frontiers.{Levelling, Listed, Frontier, Zero}
use Rattle.search.proofs.LevelLaws.{Level}
use Rattle.search.proofs.levels.backward_by.Given as goal

-- what holds whenever the inner loop is at its head
pub record Inner (arcs predecessors enter seen : List ℕ) (n : ℕ) (records masks : List ℕ) (count : ℕ) (next list : List ℕ) (queued i : ℕ) : Type 0 where
  pub i_most : i ≤ count
  pub next_long : length next ≡ 1024
  pub list_long : length list ≡ 1024
  pub listed : Listed list queued n next
  pub levelling : (cur : List ℕ) → Frontier records masks count cur → Levelling arcs predecessors enter cur seen n (length arcs) records i (length arcs) next

-- what holds whenever the outer loop is at its head; the words of the current level are those of `cur`
pub record Loop (arcs predecessors enter work₀ : List ℕ) (n end accepting : ℕ)
    (work seen next list records masks : List ℕ) (count level : ℕ) : Type 0 where
  pub work_as_long : length work ≡ length work₀
  pub seen_long : length seen ≡ 1024
  pub next_long : length next ≡ 1024
  pub list_long : length list ≡ 1024
  pub records_long : length records ≡ 1024
  pub masks_long : length masks ≡ 1024
  pub count_most : count ≤ 1024
  pub level_most : level ≤ ones_below (bit_at seen) (n * 64)
  pub cleared : Zero next
  pub cur : List ℕ
  pub frontier : Frontier records masks count cur
  pub known : (g : Graph) (M : Automaton) (fs : List ℕ) → Setting g M fs predecessors enter accepting n arcs (length arcs) → Level g M end n level work seen cur

abbrev pub invariant-loop-i : goal.invariant-loop-i
invariant-loop-i l = Inner l.fn.arcs l.fn.predecessors l.fn.enter l.seen l.fn.ends.n l.records l.masks l.count l.next l.list l.queued l.i

abbrev pub invariant-loop-seen : goal.invariant-loop-seen
invariant-loop-seen l =
    Loop l.fn.arcs l.fn.predecessors l.fn.enter l.fn.work l.fn.ends.n l.fn.ends.to l.fn.ends.accepting l.work
    l.seen l.next l.list l.records l.masks l.count l.level

abbrev pub decreases-loop-seen : goal.decreases-loop-seen
decreases-loop-seen l = l.fn.ends.n * 64 - ones_below (bit_at l.seen) (l.fn.ends.n * 64)
