-- The loop's invariant: the bytes passed and those of the word that is left are those of the word.
-- The measure is the bytes left. Assumes nothing.
use mathlib.Core.Path.{◌≡◌, sym, ◌∙◌}
use mathlib.Core.Bool.{true, false}
use native.Mathlib.Omega.{arith}
use lib.ListN.{get_or}
use Rattle.lines.specs.Typed.{blank}
use Rattle.lines.specs.TypedLaws.{word_more, word_end, word_none}
use Rattle.lines.proofs.words.word_len.Goals as goal

pub returns-then-is_blank : goal.returns-then-is_blank
returns-then-is_blank c =
    let s = c.args.s.now in
    let l = c.loop-i in
    let b : blank (get_or s l.i 0) ≡ true = sym c.is_blank.ensures ∙ c.if-is_blank.true in
    omega (arith, l.invariant.left, word_end s l.i (omega arith) b)

pub loop-i-preserved : goal.loop-i-preserved
loop-i-preserved c =
    let s = c.args.s.now in
    let l = c.loop-i in
    let b : blank (get_or s l.i 0) ≡ false = sym c.is_blank.ensures ∙ c.if-is_blank.false in
    record { inside = omega arith; left = omega (arith, l.invariant.left, word_more s l.i (omega arith) b) }

pub returns : goal.returns
returns c =
    let l = c.loop-i in
    omega (arith, l.invariant.left, word_none c.args.s.now l.i (omega arith))
