-- `register::words::marks_in` gives the part of words where a register has the marks of its records. Assumes nothing.
use mathlib.Core.Path.{◌∙◌}
use native.Mathlib.Omega.{arith}
use Rattle.book.specs.Causes.{max_records}
use Rattle.register.specs.Words.{marks_at}
use Rattle.register.specs.WordLaws.{keeps_number, keeps_marks}
use Rattle.register.proofs.KeepLaws.{front_shown}
use Rattle.register.proofs.words.marks_in.Goals as goal

pub returns : goal.returns
returns c r k =
    front_shown c.args.words.now marks_at max_records c.part.ensures
    (c.word_at-n.ensures ∙ keeps_number k 0 (omega arith)) k.ranged.size (keeps_marks k)
