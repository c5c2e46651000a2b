-- The law of the tables.
use Rattle.std.proofs.Common.{◌≡◌, suc, ◌-◌, length, refl, arith, rules}
use Rattle.tables.proofs.BinaryLaws.{holds_sequence}
use Rattle.tables.proofs.followed.Goals as goal

pub returns : goal.returns
returns c =
    let s = c.args.s in
    let k-first : length s.first ≡ 19 = search rules in
    let k-last : length s.last ≡ 19 = search rules in
    let k-own : length s.own ≡ 19 = search rules in
    let k-nullable : length s.nullable ≡ 19 = search rules in
    let et : suc (s.top - 1) ≡ s.top = omega arith in
    let ei : suc (s.top - 1 - 1) ≡ s.top - 1 = omega arith in
    λ es m x y st H. holds_sequence H _ et refl (s.top - 1 - 1) (s.top - 1) et ei _ _ _ (omega arith) (omega arith) (omega arith) (omega arith) refl refl refl
    refl refl c.only.result c.only-2.result c.with_edges.ensures c.with_edges-2.ensures c.only.ensures c.only-2.ensures refl refl refl
