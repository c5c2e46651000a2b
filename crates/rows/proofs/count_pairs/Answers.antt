-- `count_pairs` counts the bits of the rows below n (`places_length`). Assumes nothing.
use mathlib.Core.Path.{sym, ◌∙◌}
use Prim.Native.Nat.{◌*◌}
use Rattle.k2.specs.Bits.{bit_at}
use Rattle.k2.specs.BitLaws.{bit_lt}
use Rattle.rows.proofs.ListingLaws.{places_length}
use Rattle.rows.proofs.count_pairs.Goals as goal

pub returns : goal.returns
returns c =
    let a = c.args in
    c.rank.ensures ∙ sym (places_length (bit_at a.rows.now) (bit_lt a.rows.now) (a.n * 1024))
