-- `host::previews::dating_preview` meets its contract: a call is previewed, and no other kind is a call. Assumes nothing.
use mathlib.Core.Path.{refl}
use Rattle.book.specs.Causes.{number}
use Rattle.register.specs.EntryLaws.{entry_call, entry-none}
use Rattle.host.proofs.PreviewLaws.{previewed_call, previewed_none}
use Rattle.host.proofs.previews.dating_preview.Goals as goal

pub returns-in-Call : goal.returns-in-Call
returns-in-Call c = previewed_call (entry_call c.entry_of-entry.ensures c.in-Call.is) c.preview.ensures

pub returns-in-NoCall : goal.returns-in-NoCall
unfolding number
returns-in-NoCall c = previewed_none (entry-none c.entry_of-entry.ensures c.in-NoCall.is) c.told_refusal.ensures refl
