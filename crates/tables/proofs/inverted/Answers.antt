-- The law of the tables.
use Rattle.std.proofs.Common.{◌≡◌, length, refl, ◌∙◌, arith, rules}
use Rattle.tables.proofs.UnaryLaws.{holds_inverse}
use Rattle.tables.proofs.inverted.Goals as goal

pub returns : goal.returns
returns c =
    let s = c.args.s in
    let k-first : length s.first ≡ 19 = search rules in
    let k-last : length s.last ≡ 19 = search rules in
    λ m x st H. holds_inverse H (omega arith) (omega arith) c.requires.1 (c.mirror.auto.enter ∙ c.requires.1) refl refl refl refl refl refl
    c.exchange.ensures.0 c.exchange.ensures.1 c.mirror.ensures
