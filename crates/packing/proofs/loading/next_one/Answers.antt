-- `next_one` counts the zeros below the lowest one of v + 16, moved down by q places (`next_le`, `next_clear`, `next_set`). Assumes nothing.
use native.Mathlib.Omega.{arith}
use Rattle.packing.proofs.LoadLaws.{next_le, next_clear, next_set}
use Rattle.packing.proofs.loading.next_one.Goals as goal

pub returns : goal.returns
returns c =
    let v = c.args.v in
    let q = c.args.q in
    record {
      from_here = omega arith;
      in_four = next_le v q c.requires.0 c.requires.1;
      zeros = next_clear v q c.requires.0 c.requires.1;
      one_there = next_set v q c.requires.0 c.requires.1;
    }
