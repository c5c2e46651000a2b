-- Rows of the links, closed, and the smallest record on the diagonal (`smallest_closed`). Assumes nothing.
use Rattle.std.proofs.Common.{◌∙◌, sym, ap}
use Rattle.k2.specs.PairSets.{Cells}
use Rattle.bits.specs.BitSetLaws.{bits_none}
use Rattle.rows.specs.Rows.{flat}
use Rattle.rows.specs.RowSets.{no_pairs, crossed_words}
use Rattle.rows.specs.RowLaws.{flat_none, union_none}
use Rattle.generations.proofs.NumberLaws.{smallest_closed}
use Rattle.generations.proofs.first_returning.Goals as goal

pub returns : goal.returns
returns c =
    let x : Cells = crossed_words c.args.words.now c.args.set 0 in (
      c.first_joined.ensures.most,
      λ S. smallest_closed _ x c.requires
          (c.close_rows.ensures x S (c.put_letters.ensures no_pairs (bits_none 16384 ∙ sym flat_none) ∙ ap flat (union_none x)))
          c.first_joined.ensures,
    )
