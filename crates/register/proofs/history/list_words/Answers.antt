-- `register::history::list_words` meets its contract: a word of the kind 12 is a closing up, and no other is. Assumes nothing.
use Prim.Native.Nat.{◌/◌, ◌%◌}
use borrow.Author.Tests.{eq-eqb, ne_eqb}
use Rattle.book.specs.Basics.{tally}
use Rattle.register.specs.History.{close_kind, word_call, entry_calls, is_close}
use Rattle.register.proofs.ReplayLaws.{kind_open}
use Rattle.register.proofs.history.list_words.Goals as goal

pub returns-then-word-eq-CLOSE_KIND : goal.returns-then-word-eq-CLOSE_KIND
unfolding word_call entry_calls tally is_close
returns-then-word-eq-CLOSE_KIND c = rw (eq-eqb (c.args.word / 1099511627776) close_kind c.if-word-eq-CLOSE_KIND.true)

pub returns : goal.returns
unfolding word_call
returns c =
    let w = c.args.word in
    rw (ne_eqb (w / 1099511627776) close_kind c.if-word-eq-CLOSE_KIND.false, kind_open (w / 1099511627776) (w / 16777216 % 65536) (w / 65536 % 256) (w % 65536))
