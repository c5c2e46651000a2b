-- The law of the tables.
use Rattle.std.proofs.Common.{refl}
use Rattle.tables.proofs.UnaryLaws.{holds_plus}
use Rattle.tables.proofs.repeated.Goals as goal

pub returns : goal.returns
returns c = λ es m x st H. holds_plus H refl refl refl refl refl refl refl c.with_edges.ensures c.with_edges-2.ensures
