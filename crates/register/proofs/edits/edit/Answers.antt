-- `register::edits::edit` meets its contract: out of range it refuses, and else each arm is the function of its call. Assumes nothing.
use Rattle.book.specs.Causes.{number}
use Rattle.register.specs.Calls.{call_of}
use Rattle.register.specs.Inner.{register_of, relinks, locks, unlocks, withdraws, reinstates}
use Rattle.register.proofs.StepLaws.{outside, refuse_foreign, refused_as}
use Rattle.register.proofs.edits.edit.Goals as goal

pub returns-then-not-ranged : goal.returns-then-not-ranged
returns-then-not-ranged c =
    let a = c.args in
    let s = register_of a.counters a.links.now a.marks.now a.ring.now a.totals.now in
    refused_as c.refused.ensures (refuse_foreign s _ (outside s _ c.ranged.ensures c.if-not-ranged.true))

pub returns-in-Add : goal.returns-in-Add
unfolding call_of relinks
returns-in-Add c = rw c.in-Add.is c.relink.ensures

pub returns-in-Remove : goal.returns-in-Remove
unfolding call_of relinks
returns-in-Remove c = rw c.in-Remove.is c.relink-in-Remove.ensures

pub returns-in-Undo : goal.returns-in-Undo
unfolding call_of
returns-in-Undo c = rw c.in-Undo.is c.undo.ensures

pub returns-in-Lock : goal.returns-in-Lock
unfolding call_of number
returns-in-Lock c = rw c.in-Lock.is (c.remark.ensures _ c.args.totals.now locks)

pub returns-in-Unlock : goal.returns-in-Unlock
unfolding call_of number
returns-in-Unlock c = rw c.in-Unlock.is (c.remark-in-Unlock.ensures _ c.args.totals.now unlocks)

pub returns-in-Withdraw : goal.returns-in-Withdraw
unfolding call_of number
returns-in-Withdraw c = rw c.in-Withdraw.is (c.remark-in-Withdraw.ensures _ c.args.totals.now withdraws)

pub returns-in-Reinstate : goal.returns-in-Reinstate
unfolding call_of number
returns-in-Reinstate c = rw c.in-Reinstate.is (c.remark-in-Reinstate.ensures _ c.args.totals.now reinstates)
