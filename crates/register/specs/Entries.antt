-- What a kind and arguments ask for, as the code has it.
--   entry_of e       the entry of a history that the code's entry e is
-- Assumes nothing: these are definitions.
use Rattle.register.specs.Calls.{call_of}
use Rattle.register.specs.History.{Entry as History-as-Entry, is-call, no_call}
use Rattle.register.specs.declared.history.Entry.{Entry}
use Rattle.register.specs.declared.history.Entry.TheVariants.{Call, NoCall}

unfoldable pub entry_of : Entry → History-as-Entry
entry_of (Call c) = is-call (call_of c)
entry_of NoCall = no_call
