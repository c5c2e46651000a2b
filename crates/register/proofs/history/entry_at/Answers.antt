-- `register::history::entry_at` meets its contract: the kind and arguments of the word, by `draft_kind`. Assumes nothing.
use mathlib.Core.Path.{sym, ◌∙◌}
use Rattle.register.specs.DraftLaws.{draft_kind}
use Rattle.register.proofs.history.entry_at.Goals as goal

pub returns : goal.returns
returns c = c.entry_of.ensures ∙ sym (draft_kind _)
