-- it cuts off the word, and skips. Assumes nothing.
use mathlib.Core.Path.{ap, ◌∙◌}
use native.Mathlib.Omega.{arith}
use Rattle.book.proofs.ListLaws.{rest_whole}
use Rattle.lines.specs.Typed.{skip, rest}
use Rattle.lines.specs.TypedLaws.{word_short}
use Rattle.lines.proofs.words.rest.Goals as goal

pub slice_bounds-skip-count : goal.slice_bounds-skip-count
slice_bounds-skip-count c = omega (arith, word_short c.args.s.now)

pub slice_bounds-skip-start : goal.slice_bounds-skip-start
slice_bounds-skip-start c = omega (arith, word_short c.args.s.now)

pub returns : goal.returns
unfolding rest
returns c =
    let n = c.word_len-n in
    c.skip.ensures ∙ ap skip (rest_whole c.args.s.now n.result) ∙ rw n.ensures
