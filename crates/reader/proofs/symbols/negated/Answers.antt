-- One member, or members in parentheses; the set's letters are those that are none of them.
use Rattle.std.proofs.Common.{[], sym, ◌∙◌}
use Rattle.reader.proofs.SymbolLaws.{marks_none, member_of, negated_set, negated_member, negated_none}
use Rattle.reader.proofs.symbols.negated.Goals as goal

pub returns-then-peek-eq40 : goal.returns-then-peek-eq40
returns-then-peek-eq40 c = negated_set (sym c.peek.ensures ∙ c.if-peek-eq40.true) c.set.ensures

pub returns-in_default : goal.returns-in_default
returns-in_default c =
    negated_none (λ e. c.if-peek-eq40.false (c.peek.ensures ∙ e)) c.in_default.is (c.member-r.ensures [] (marks_none _, marks_none _))

pub others-requires : goal.others-requires
others-requires c = (member_of c.in-Read.is (c.member-r.ensures [] (marks_none _, marks_none _))).1.marks.0.below

pub others-requires-2 : goal.others-requires-2
others-requires-2 c = (member_of c.in-Read.is (c.member-r.ensures [] (marks_none _, marks_none _))).1.marks.1.below

pub returns : goal.returns
returns c =
    negated_member (λ e. c.if-peek-eq40.false (c.peek.ensures ∙ e)) c.in-Read.is (c.member-r.ensures [] (marks_none _, marks_none _))
    c.others.ensures c.others-2.ensures
