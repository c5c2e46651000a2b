-- Ties turned round: the third third of a run is relaxed by these.
--   turn t            a tie turned round
--   turned ts         ties so
use Rattle.std.specs.Prelude.{List, [], ◌∷◌}
use Rattle.offsets.specs.declared.Tie.{Tie}

abbrev pub turn : Tie → Tie
turn t = record { first = t.second; second = t.first; least = t.least; most = t.most }

abbrev pub turned : List Tie → List Tie
turned [] = []
turned (t ∷ ts) = turn t ∷ turned ts
