-- a word stands at the front of its line (`take_word`). Assumes nothing.
use mathlib.Core.Path.{sym}
use native.Mathlib.Omega.{arith}
use lib.Seq.{length-take-le}
use Rattle.lines.specs.TypedLaws.{take_word, word_short}
use Rattle.lines.proofs.words.word.Goals as goal

pub slice_bounds-result-end : goal.slice_bounds-result-end
slice_bounds-result-end c = sym (length-take-le _ _ (omega (arith, word_short c.args.s.now)))

pub returns : goal.returns
returns c = rw c.word_len-n.ensures (take_word c.args.s.now)
