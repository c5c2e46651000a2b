-- `host::edits::dating_add` is `register::edit_in` with the call Add. Assumes nothing.
use Rattle.register.specs.Calls.{call_of}
use Rattle.host.proofs.edits.dating_add.Goals as goal

pub returns : goal.returns
unfolding call_of
returns c = c.edit_in.ensures
