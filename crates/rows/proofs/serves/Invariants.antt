-- `serves` searches the squares in common, and in a square the records of row i from the first of row j on (`meets_before`), by the trailing zeros of
-- what is left of its word. Both invariants: no record passed serves; inside a square, what is left is its word from place k on. The measures are the
-- squares and the places left. It rests on `record_next`, the next record of row i, and `meets_record`: it serves exactly if row j has it. Assumes
-- nothing.
use mathlib.Core.List.{List}
use mathlib.Core.Path.{◌≡◌}
use Prim.Native.Nat.{ℕ, ◌≤◌, ◌+◌, ◌-◌, ◌*◌, ◌/◌, ◌^◌}
use lib.ListN.{get_or}
use Rattle.k2.specs.Bits.{bit_at}
use Rattle.k2.specs.PairSets.{most}
use Rattle.rows.specs.Steps.{meets, Common}
use Rattle.rows.proofs.serves.Given as goal

-- what holds whenever the loop is at its head
pub record Loop (a : List ℕ) (i : ℕ) (b : List ℕ) (j common s found k rest : ℕ) : Type 0 where
  pub inside : k ≤ 64
  pub rest-is : rest ≡ get_or a (i * 16 + s) 0 / 2 ^ k
  pub none_found : found ≡ 0
  pub none_common : Common (bit_at a) (bit_at b) i j common → most (s * 64 + k) (meets (bit_at a) (bit_at b) i j) ≡ 0

-- what holds whenever the search is at its head
pub record Search (a : List ℕ) (i : ℕ) (b : List ℕ) (j common found s : ℕ) : Type 0 where
  pub inside : s ≤ 16
  pub none_found : found ≡ 0
  pub none_common : Common (bit_at a) (bit_at b) i j common → most (s * 64) (meets (bit_at a) (bit_at b) i j) ≡ 0

abbrev pub invariant-loop-rest : goal.invariant-loop-rest
invariant-loop-rest l = Loop l.a l.i l.b l.j l.common l.s l.found l.k l.rest

abbrev pub decreases-loop-rest : goal.decreases-loop-rest
decreases-loop-rest l = 64 - l.k

abbrev pub invariant-search : goal.invariant-search
invariant-search l = Search l.a l.i l.b l.j l.common l.found l.s

abbrev pub decreases-search : goal.decreases-search
decreases-search l = 16 - l.s
