-- `shuffle` exchanges three times; that this is the order of the cells of a tree is `shuffle_law`, over a table of the 64 places. Assumes nothing.
use native.Mathlib.Omega.{arith}
use Rattle.packing.proofs.WordLaws.{apart_first, apart_second, apart_third, shuffle_law}
use Rattle.packing.proofs.making.shuffle.Goals as goal

pub swap-a-requires : goal.swap-a-requires
swap-a-requires c = (omega arith, apart_first)

pub swap-b-requires : goal.swap-b-requires
swap-b-requires c = (omega arith, apart_second)

pub swap-requires : goal.swap-requires
swap-requires c = (omega arith, apart_third)

pub returns : goal.returns
returns c = shuffle_law _ _ _ _ c.swap-a.ensures c.swap-b.ensures c.swap.ensures
