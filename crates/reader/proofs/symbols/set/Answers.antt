-- A member more, or the end of the set.
use Rattle.std.proofs.Common.{sym, ◌∙◌}
use Rattle.reader.specs.Progress.{missing}
use Rattle.reader.proofs.SymbolLaws.{set_starts, set_fails, set_again, set_ends, set_other}
use Rattle.reader.proofs.symbols.set.Goals as goal

pub loop-q-init : goal.loop-q-init
loop-q-init c = set_starts c.args.s.now c.args.at c.requires

pub returns-in_default : goal.returns-in_default
returns-in_default c = missing (set_fails c.loop-q.invariant c.in_default.is (c.member-r.ensures c.loop-q.invariant.w c.loop-q.invariant.marks))

pub returns-then-c-eq41 : goal.returns-then-c-eq41
returns-then-c-eq41 c =
    set_ends c.loop-q.invariant c.in-Read.is (c.member-r.ensures c.loop-q.invariant.w c.loop-q.invariant.marks) (sym c.peek-c.ensures ∙ c.if-c-eq41.true)
    c.others.ensures c.others-then-c-eq41.ensures

pub returns-then-c-ne124 : goal.returns-then-c-ne124
returns-then-c-ne124 c =
    missing (set_other c.loop-q.invariant c.in-Read.is (c.member-r.ensures c.loop-q.invariant.w c.loop-q.invariant.marks)
    (λ e. c.if-c-eq41.false (c.peek-c.ensures ∙ e)) (λ e. c.if-c-ne124.true (c.peek-c.ensures ∙ e)))

pub loop-q-preserved : goal.loop-q-preserved
loop-q-preserved c =
    set_again c.loop-q.invariant c.in-Read.is (c.member-r.ensures c.loop-q.invariant.w c.loop-q.invariant.marks)
    (sym c.peek-c.ensures ∙ c.if-c-ne124.false)
