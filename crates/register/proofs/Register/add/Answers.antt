-- `register::Register::add` meets its contract: that of `apply`. Assumes nothing.
use Rattle.register.specs.Calls.{call_of}
use Rattle.register.proofs.Register.add.Goals as goal

pub returns : goal.returns
unfolding call_of
returns c = c.apply.ensures
