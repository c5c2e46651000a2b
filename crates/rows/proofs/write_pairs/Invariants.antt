-- `write_pairs` goes over the words, and over the bits of a word. Both invariants: the places passed of bits that are set are written, and t is
-- their number; in a word the places of the bits left come after them. It rests on `placed_taken` and `wrote_one`. Assumes nothing.
use mathlib.Core.Path.{◌≡◌}
use mathlib.Core.List.{List, ◌++◌}
use Prim.Native.Nat.{ℕ, ◌≤◌, ◌+◌, ◌*◌}
use lib.ListN.{length}
use Rattle.k2.specs.Bits.{digit, bit_at}
use Rattle.rows.specs.Rows.{places}
use Rattle.rows.proofs.ListingLaws.{placed, Wrote}
use Rattle.rows.proofs.write_pairs.Given as goal

-- what is written, t places in all, and how it goes on
pub record Listed (rows : List ℕ) (q left : ℕ) (out₀ out : List ℕ) (t : ℕ) : Type 0 where
  pub passed : List ℕ
  pub goes_on : places (bit_at rows) ((q + 1) * 64) ≡ passed ++ placed (q * 64) (digit left) 64
  pub t_most : t ≤ length out₀
  pub t_is : t ≡ length passed
  pub wrote : Wrote passed out₀ out

pub record Loop (rows out₀ out : List ℕ) (t q : ℕ) : Type 0 where
  pub t_most : t ≤ length out₀
  pub t_is : t ≡ length (places (bit_at rows) (q * 64))
  pub wrote : Wrote (places (bit_at rows) (q * 64)) out₀ out

abbrev pub invariant-loop-p : goal.invariant-loop-p
invariant-loop-p l = Listed l.rows l.q l.p-iterator.left l.fn.out l.out l.t

abbrev pub invariant-loop-q : goal.invariant-loop-q
invariant-loop-q l = Loop l.rows l.fn.out l.out l.t l.q
