-- Whether row x has a column of the row of bits (`meets_joined`). Assumes nothing.
use Rattle.rowpairs.proofs.MemberLaws.{meets_joined}
use Rattle.rowpairs.proofs.leaving.joins_some.Goals as goal

pub returns : goal.returns
returns c =
    λ l B below. meets_joined c.args.cells.now c.args.masks.now c.args.n c.args.x _ _ l c.row_width-w.ensures c.requires.inside B below c.meets.ensures
