-- The first i records of the list are marked, seen, held, and cleared in next (`Committing`). The measure is what is left of the list.
use Rattle.std.proofs.Common.{List, ℕ, ◌≡◌, ◌≤◌, length}
use Rattle.search.proofs.CommitLaws.{Committing}
use Rattle.search.proofs.levels.commit.Given as goal

-- what holds whenever the loop is at its head
pub record Loop (work₀ seen₀ next₀ list : List ℕ) (mark : ℕ) (records₀ masks₀ work seen next records masks : List ℕ) (i : ℕ) : Type 0 where
  pub i_most : i ≤ length list
  pub work_as_long : length work ≡ length work₀
  pub seen_as_long : length seen ≡ length seen₀
  pub next_as_long : length next ≡ length next₀
  pub records_as_long : length records ≡ length records₀
  pub masks_as_long : length masks ≡ length masks₀
  pub committing : Committing work₀ seen₀ next₀ mark list i work seen next records masks

abbrev pub invariant-loop-i : goal.invariant-loop-i
invariant-loop-i l =
    Loop l.fn.work l.fn.seen l.fn.next l.list l.mark l.fn.records l.fn.masks l.work l.seen l.next l.records l.masks l.i
