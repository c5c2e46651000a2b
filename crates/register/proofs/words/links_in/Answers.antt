-- `register::words::links_in` gives the part of words where a register has the links. Assumes nothing.
use mathlib.Core.Path.{◌∙◌}
use native.Mathlib.Omega.{arith}
use Rattle.book.specs.Causes.{max_links}
use Rattle.register.specs.Words.{links_at}
use Rattle.register.specs.WordLaws.{keeps_number, keeps_links}
use Rattle.register.proofs.KeepLaws.{front_shown}
use Rattle.register.proofs.words.links_in.Goals as goal

pub returns : goal.returns
returns c r k =
    front_shown c.args.words.now links_at max_links c.part.ensures
    (c.word_at-count.ensures ∙ keeps_number k 1 (omega arith)) k.ranged.count (keeps_links k)
