-- `host::edits::dating_undo` is `register::edit_in` with the call Undo. Assumes nothing.
use Rattle.register.specs.Calls.{call_of}
use Rattle.host.proofs.edits.dating_undo.Goals as goal

pub returns : goal.returns
unfolding call_of
returns c = c.edit_in.ensures
