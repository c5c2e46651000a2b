-- `register::drafts::edit_word` meets its contract: a call is made, and no other word is a call. Assumes nothing.
use Rattle.book.specs.Causes.{number}
use Rattle.register.specs.EntryLaws.{entry_call, entry-none}
use Rattle.register.specs.DraftLaws.{called, uncalled}
use Rattle.register.proofs.drafts.edit_word.Goals as goal

pub returns-in-Call : goal.returns-in-Call
returns-in-Call c = called _ (entry_call c.entry_at-entry.ensures c.in-Call.is) c.edit.ensures

pub returns-in-NoCall : goal.returns-in-NoCall
unfolding number
returns-in-NoCall c = uncalled (entry-none c.entry_at-entry.ensures c.in-NoCall.is)
