-- The loop's invariant: the first n bytes without the blanks at their end are what the whole is without its.
-- The measure is n. Assumes nothing.
use mathlib.Core.Path.{◌≡◌, sym, ◌∙◌}
use mathlib.Core.Bool.{true, false}
use Prim.Native.Nat.{◌-◌}
use native.Mathlib.Omega.{arith}
use lib.ListN.{get_or}
use Rattle.lines.specs.Typed.{blank}
use Rattle.lines.specs.TypedLaws.{trim_blank, trim_at, trim_none}
use Rattle.lines.proofs.words.trim.Goals as goal

pub returns-then-not-is_blank : goal.returns-then-not-is_blank
returns-then-not-is_blank c =
    let s = c.args.s.now in
    let l = c.loop-n in
    let b : blank (get_or s (l.n - 1) 0) ≡ false = sym c.is_blank.ensures ∙ c.if-not-is_blank.true in
    sym (trim_at s l.n (omega arith) (omega arith) b) ∙ l.invariant.left

pub loop-n-preserved : goal.loop-n-preserved
loop-n-preserved c =
    let s = c.args.s.now in
    let l = c.loop-n in
    let b : blank (get_or s (l.n - 1) 0) ≡ true = sym c.is_blank.ensures ∙ c.if-not-is_blank.false in
    record { inside = omega arith; left = sym (trim_blank s l.n (omega arith) (omega arith) b) ∙ l.invariant.left }

pub returns : goal.returns
returns c =
    let l = c.loop-n in
    sym (trim_none c.args.s.now l.n (omega arith)) ∙ l.invariant.left
