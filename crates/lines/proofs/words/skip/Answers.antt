-- The loop's invariant: what is left without its blanks is what the whole is without its. The measure is
-- the bytes left. Assumes nothing.
use mathlib.Core.Path.{◌≡◌, sym, ap, ◌∙◌}
use mathlib.Core.Bool.{true, false}
use native.Mathlib.Omega.{arith}
use lib.ListN.{get_or}
use Rattle.book.proofs.ListLaws.{rest_whole}
use Rattle.lines.specs.Typed.{blank, skip}
use Rattle.lines.specs.TypedLaws.{skip_on, skip_at, skip_none}
use Rattle.lines.proofs.words.skip.Goals as goal

pub returns-then-not-is_blank : goal.returns-then-not-is_blank
returns-then-not-is_blank c =
    let t = c.loop-t.t.now in
    let b : blank (get_or t 0 0) ≡ false = sym c.is_blank.ensures ∙ c.if-not-is_blank.true in
    sym (skip_at t b) ∙ c.loop-t.invariant

pub loop-t-preserved : goal.loop-t-preserved
loop-t-preserved c =
    let t = c.loop-t.t.now in
    let b : blank (get_or t 0 0) ≡ true = sym c.is_blank.ensures ∙ c.if-not-is_blank.false in
    ap skip (rest_whole t 1) ∙ skip_on t (omega arith) b ∙ c.loop-t.invariant

pub returns : goal.returns
returns c = sym (skip_none c.loop-t.t.now (omega arith)) ∙ c.loop-t.invariant
