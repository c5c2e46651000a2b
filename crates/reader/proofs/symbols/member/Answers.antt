-- A letter, or ^ and a letter, put to the members before it; or neither.
use Rattle.std.proofs.Common.{sym, ◌∙◌}
use Rattle.reader.proofs.SymbolLaws.{hat_member, hat_none, plain_member, plain_none}
use Rattle.reader.proofs.symbols.member.Goals as goal

pub returns-then-label-eq0 : goal.returns-then-label-eq0
returns-then-label-eq0 c = λ w M. hat_none M (sym c.peek.ensures ∙ c.if-peek-eq94.true) (sym c.label_at-label.ensures ∙ c.if-label-eq0.true)

pub returns-then-peek-eq94 : goal.returns-then-peek-eq94
returns-then-peek-eq94 c = λ w M. hat_member M (sym c.peek.ensures ∙ c.if-peek-eq94.true) c.label_at-label.ensures c.if-label-eq0.false

pub returns-then-label-eq0-2 : goal.returns-then-label-eq0-2
returns-then-label-eq0-2 c = λ w M. plain_none M (λ e. c.if-peek-eq94.false (c.peek.ensures ∙ e)) (sym c.label_at-label-2.ensures ∙ c.if-label-eq0-2.true)

pub returns : goal.returns
returns c = λ w M. plain_member M (λ e. c.if-peek-eq94.false (c.peek.ensures ∙ e)) c.label_at-label-2.ensures c.if-label-eq0-2.false
