-- `register::history::entry_of` meets its contract, kind by kind; no other kind is a call. Assumes nothing.
use Rattle.register.specs.Calls.{call_of}
use Rattle.register.specs.History.{kind_call}
use Rattle.register.specs.Entries.{entry_of}
use Rattle.register.proofs.ReplayLaws.{kind_none}
use Rattle.std.proofs.Common.{arith}
use Rattle.register.proofs.history.entry_of.Goals as goal

pub returns-in-2 : goal.returns-in-2
unfolding entry_of kind_call call_of
returns-in-2 c = rw c.in-2.is

pub returns-in-3 : goal.returns-in-3
unfolding entry_of kind_call call_of
returns-in-3 c = rw c.in-3.is

pub returns-in-4 : goal.returns-in-4
unfolding entry_of kind_call call_of
returns-in-4 c = rw c.in-4.is

pub returns-in-5 : goal.returns-in-5
unfolding entry_of kind_call call_of
returns-in-5 c = rw c.in-5.is

pub returns-in-6 : goal.returns-in-6
unfolding entry_of kind_call call_of
returns-in-6 c = rw c.in-6.is

pub returns-in-10 : goal.returns-in-10
unfolding entry_of kind_call call_of
returns-in-10 c = rw c.in-10.is

pub returns-in-11 : goal.returns-in-11
unfolding entry_of kind_call call_of
returns-in-11 c = rw c.in-11.is

pub returns-in_default : goal.returns-in_default
unfolding entry_of
returns-in_default c =
    rw (kind_none c.args.kind c.args.from c.args.label c.args.to (λ e. omega arith) (λ e. omega arith) (λ e. omega arith) (λ e. omega arith)
    (λ e. omega arith) (λ e. omega arith) (λ e. omega arith))
