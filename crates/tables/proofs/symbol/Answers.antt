-- The law of the tables: both senses are joined one after the other (joined_both).
use Rattle.std.proofs.Common.{◌≡◌, ◌+◌, length, refl, arith, rules}
use Rattle.k2.specs.DigitLaws.{one_shl}
use Rattle.tables.proofs.RowLaws.{joined_both}
use Rattle.tables.proofs.SymbolLaws.{holds_symbol}
use Rattle.tables.proofs.symbol.Goals as goal

pub returns : goal.returns
returns c =
    let s = c.args.s in
    let k-first : length s.first ≡ 19 = search rules in
    let k-last : length s.last ≡ 19 = search rules in
    let k-own : length s.own ≡ 19 = search rules in
    let k-nullable : length s.nullable ≡ 19 = search rules in
    λ fs ps m st H. holds_symbol H c.args.forward c.args.against _ c.requires.2 (omega arith) (omega arith)
    (omega arith) (omega arith) (one_shl (s.used + 1) (omega arith)) refl refl refl refl refl refl
    (joined_both c.enter_by.ensures c.enter_by-2.ensures) refl refl
