-- Three calls of `third` (`all_three`). Assumes nothing.
use Rattle.offsets.proofs.LowerLaws.{all_three}
use Rattle.offsets.proofs.relax.Goals as goal

pub returns : goal.returns
returns c =
    all_three c.args.n c.args.first c.args.second c.args.least c.args.most (c.args.d.now, c.args.was) _ _
    _ c.ranges.least c.ranges.most c.third-one.ensures c.third-two.ensures c.third.ensures
