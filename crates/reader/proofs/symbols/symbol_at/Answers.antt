-- A negated set at a !, else a letter, else nothing.
use Rattle.std.proofs.Common.{sym, ◌∙◌}
use Rattle.reader.proofs.SymbolLaws.{symbol_letter, symbol_none, symbol_negated}
use Rattle.reader.proofs.symbols.symbol_at.Goals as goal

pub returns-then-peek-eq33 : goal.returns-then-peek-eq33
returns-then-peek-eq33 c = λ n. symbol_negated (sym c.peek.ensures ∙ c.if-peek-eq33.true) c.negated.ensures

pub returns-then-label-eq0 : goal.returns-then-label-eq0
returns-then-label-eq0 c =
    λ n. symbol_none n (λ e. c.if-peek-eq33.false (c.peek.ensures ∙ e)) (sym c.label_at-label.ensures ∙ c.if-label-eq0.true)

pub returns : goal.returns
returns c = λ n. symbol_letter c.label_at-label.ensures c.if-label-eq0.false
