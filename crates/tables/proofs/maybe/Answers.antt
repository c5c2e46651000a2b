-- The law of the tables.
use Rattle.std.proofs.Common.{◌≡◌, length, refl, arith, rules}
use Rattle.tables.proofs.UnaryLaws.{holds_optional}
use Rattle.tables.proofs.maybe.Goals as goal

pub returns : goal.returns
returns c =
    let k : length c.args.s.nullable ≡ 19 = search rules in
    λ fs ps es m x st H. holds_optional H (omega arith) refl refl refl refl refl refl refl refl refl
