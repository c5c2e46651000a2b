-- `lowest` is the trailing zeros, and a word that is not 0 has a one. Assumes nothing.
use Rattle.std.proofs.Common.{refl, arith}
use Rattle.grid.specs.Steps.{low}
use Rattle.grid.proofs.ScanLaws.{low_is, low_some}
use Rattle.grid.proofs.words.lowest.Goals as goal

pub returns : goal.returns
unfolding low
returns c =
    let v = c.args.word in
    record { place = refl; first = low_is v; some = low_some v (omega arith) }
