-- The sense in which a tree is read.
--   sensed s a      the set a; with the sense Inverted its pairs exchanged
--   opposite s      the other sense
-- Assumes nothing: these are definitions.
use Rattle.k2.specs.PairSets.{Cells, transpose}
use Rattle.packing.specs.declared.loading.Sense.{Sense}
use Rattle.packing.specs.declared.loading.Sense.TheVariants.{Plain, Inverted}

abbrev pub sensed : Sense → Cells → Cells
sensed Plain a = a
sensed Inverted a = transpose a

abbrev pub opposite : Sense → Sense
opposite Plain = Inverted
opposite Inverted = Plain
