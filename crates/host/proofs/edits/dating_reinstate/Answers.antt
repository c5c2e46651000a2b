-- `host::edits::dating_reinstate` is `register::edit_in` with the call Reinstate. Assumes nothing.
use Rattle.register.specs.Calls.{call_of}
use Rattle.host.proofs.edits.dating_reinstate.Goals as goal

pub returns : goal.returns
unfolding call_of
returns c = c.edit_in.ensures
