-- `next` looks at what is left of the first word, and then at whole words. The loop's invariant: no bit from `lo` to word q. It rests on
-- `next_here`: the trailing zeros of a word tell its lowest digit that is set. Assumes nothing.
use mathlib.Core.Path.{sym, ◌∙◌}
use Prim.Native.Nat.{◌*◌, ◌/◌, ◌%◌}
use native.Mathlib.Omega.{arith}
use Rattle.bits.specs.BitSetLaws.{gap_join, gap_word}
use Rattle.bits.specs.ScanLaws.{next_here, next_word, next_after, next-none, gap_rest, gap_end}
use Rattle.bits.proofs.next.Goals as goal

pub returns-then-rest-ne0 : goal.returns-then-rest-ne0
returns-then-rest-ne0 c =
    let a = c.args in
    next_here a.words.now (a.lo / 64) (a.lo % 64) (c.type_inv.words (a.lo / 64)).fits
    (omega (arith, c.if-rest-ne0.true))
    a.lo a.end _ (omega arith) (omega arith) (rw c.from_bit-rest.ensures at c.lowest_set.ensures)

pub loop-q-init : goal.loop-q-init
loop-q-init c =
    let a = c.args in
    gap_rest a.words.now (a.lo / 64) (a.lo % 64) a.lo (omega arith) (omega arith) (sym c.from_bit-rest.ensures ∙ c.if-rest-ne0.false)

pub returns-then-words-q-ne0 : goal.returns-then-words-q-ne0
returns-then-words-q-ne0 c =
    let a = c.args in
    let l = c.loop-q in
    next_after _ a.lo (l.q * 64) a.end _ (omega arith) l.invariant
    (next_word a.words.now l.q a.end _ (c.type_inv.words l.q).fits
    (omega (arith, c.if-words-q-ne0.true)) (omega arith) c.lowest_set-then-words-q-ne0.ensures)

pub loop-q-preserved : goal.loop-q-preserved
loop-q-preserved c =
    let a = c.args in
    let l = c.loop-q in
    gap_join _ a.lo (l.q * 64) _ l.invariant (gap_word a.words.now l.q c.if-words-q-ne0.false)

pub returns : goal.returns
returns c =
    let a = c.args in
    let l = c.loop-q in
    next-none _ a.lo a.end a.end (omega arith) (omega arith) (gap_end a.words.now a.lo l.q a.end l.invariant (omega arith))
