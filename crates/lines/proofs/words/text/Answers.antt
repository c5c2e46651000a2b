-- it trims, then cuts. Assumes nothing.
use mathlib.Core.Path.{sym}
use native.Mathlib.Omega.{arith}
use lib.Seq.{length-take-le, take_all}
use Rattle.lines.specs.Typed.{text, max_text}
use Rattle.lines.proofs.words.text.Goals as goal

pub slice_bounds-result-end : goal.slice_bounds-result-end
slice_bounds-result-end c = sym (length-take-le max_text c.trim-t.result.now (omega arith))

pub returns-then-t-gt-MOST_TEXT : goal.returns-then-t-gt-MOST_TEXT
unfolding text
returns-then-t-gt-MOST_TEXT c = rw (← c.trim-t.ensures)

pub returns : goal.returns
unfolding text
returns c = rw (← c.trim-t.ensures) (sym (take_all max_text c.trim-t.result.now (omega arith)))
