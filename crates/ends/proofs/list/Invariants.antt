-- The list shows the places below y at which a state was seen, and t is how many they are. The measure is what is left of the records.
use Rattle.std.proofs.Common.{List, ℕ, ◌≡◌, ◌≤◌, length}
use Rattle.rows.specs.Rows.{places}
use Rattle.answers.specs.Listing.{Shown}
use Rattle.ends.specs.Listing.{meets}
use Rattle.ends.proofs.list.Given as goal

-- what holds whenever the loop is at its head
pub record Loop (seen : List ℕ) (states n : ℕ) (out₀ out : List ℕ) (t y : ℕ) : Type 0 where
  pub as_long : length out ≡ length out₀
  pub inside : y ≤ n
  pub t_is : t ≡ length (places (meets seen states) y)
  pub shown : Shown (places (meets seen states) y) out₀ out

abbrev pub invariant-loop-y : goal.invariant-loop-y
invariant-loop-y l = Loop l.seen l.states l.n l.fn.out l.out l.t l.y
