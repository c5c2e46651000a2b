-- the register tells which call the kind and its arguments are (`entry_call`, `entry-none`). Assumes nothing.
use mathlib.Core.Path.{ap}
use Rattle.register.specs.EntryLaws.{entry_call, entry-none}
use Rattle.session.specs.Program.{called}
use Rattle.session.specs.Says.{says}
use Rattle.session.proofs.called.Goals as goal

pub returns-in-Call : goal.returns-in-Call
unfolding says called
returns-in-Call c = λ s. ap called (entry_call c.entry_of-entry.ensures c.in-Call.is)

pub returns-in-NoCall : goal.returns-in-NoCall
unfolding says called
returns-in-NoCall c = λ s. ap called (entry-none c.entry_of-entry.ensures c.in-NoCall.is)
