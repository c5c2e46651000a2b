-- Laws of what a kind and arguments ask for: which entry of a history it is, by the code's. Assumes nothing.
--   entry_call      a call
--   entry-none      no call
use Rattle.std.specs.Prelude.{◌≡◌}
use Rattle.std.proofs.Math.Path.{sym}
use Rattle.std.proofs.Common.{ap, ◌∙◌}
use Rattle.register.specs.Calls.{call_of}
use Rattle.register.specs.History.{Entry as History-as-Entry, is-call, no_call}
use Rattle.register.specs.Entries.{entry_of}
use Rattle.register.specs.declared.Call.{Call}
use Rattle.register.specs.declared.history.Entry.{Entry}
use Rattle.register.specs.declared.history.Entry.TheVariants.{Call as Asked, NoCall}

module _ {e : Entry} {x : History-as-Entry} (m : entry_of e ≡ x) where
  pub entry_call : {c : Call} → e ≡ Asked c → is-call (call_of c) ≡ x
  unfolding entry_of
  entry_call q = sym (ap entry_of q) ∙ m

  pub entry-none : e ≡ NoCall → no_call ≡ x
  unfolding entry_of
  entry-none q = sym (ap entry_of q) ∙ m
