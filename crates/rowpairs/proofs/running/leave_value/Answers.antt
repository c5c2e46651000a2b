-- Words of its own are lent where the work is too short, and those of the value are copied (`value_copied`). Assumes nothing.
use Rattle.std.proofs.Common.{arith, ◌≤◌}
use Rattle.rowpairs.proofs.AnswerLaws.{value_copied}
use Rattle.rowpairs.proofs.running.leave_value.Goals as goal

pub returns-then-work-rows_work : goal.returns-then-work-rows_work
returns-then-work-rows_work c =
    let few : c.args.n ≤ 32 = c.requires.1.own (omega (arith, c.rows_work.ensures, c.if-work-rows_work.true)) in
    value_copied c.leave_within.ensures few (omega (arith, few, c.leave_within.auto.work)) c.copy_u64.ensures
