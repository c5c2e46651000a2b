-- The list is left where there is no state (`grown_none`), and else the record is put there.
use Rattle.std.proofs.Common.{sym, arith}
use Rattle.answers.specs.ListingLaws.{grown_none, grown_to}
use Rattle.ends.proofs.ListLaws.{set_none, set_some}
use Rattle.ends.proofs.write.Goals as goal

pub returns-then-states-eq0 : goal.returns-then-states-eq0
returns-then-states-eq0 c = let a = c.args in grown_none a.t _ a.out.now (set_none a.states a.y c.if-states-eq0.true)

pub returns : goal.returns
returns c =
    let a = c.args in
    grown_to a.t _ _ _ a.out.now _ (sym (set_some a.states a.y (omega (arith, c.if-states-eq0.false)))) c.put_u32.ensures
