-- `fresh` goes over the words in the mask. The loop's invariant: `found` is a column that is not seen, or those before the next word are (`LookedTo`). It
-- rests on `looked_word`. Assumes nothing.
use Rattle.std.proofs.Common.{◌≡◌, ℕ, ◌+◌, ◌*◌, arith, bit_and}
use Rattle.k2.specs.Bits.{digit}
use Rattle.k2.specs.DigitLaws.{digit_lt, digit_and}
use Rattle.grid.proofs.OnesLaws.{begun, went}
use Rattle.grid.proofs.SearchLaws.{lacks, looked_gap, looked_word}
use Rattle.grid.proofs.closing.fresh.Goals as goal

pub loop-c-init : goal.loop-c-init
loop-c-init c =
    let a = c.args in
    let B = begun c.into_iter-c-iterator.ensures.into_iter_gives c.of-c-items.ensures in (
      B.0,
      looked_gap a.n a.w (a.x * a.w) a.mask a.cells.now a.seen.now 0 _ a.n B.1.gap
          (record { found = λ h. absurd (omega arith); all = λ p h y l o e. absurd (omega arith) }),
    )

-- a bit of a part of a word is one of the word
part : (v u k : ℕ) → digit (bit_and v u) k ≡ 1 → digit v k ≡ 1
part v u k e = omega (arith, e, digit_and v u k, digit_lt v k)

pub found_or-found-requires : goal.found_or-found-requires
found_or-found-requires c =
    let S = went c.next.new.self c.loop-c.invariant.0 c.in-Some.ensures.steps in
    (omega arith, λ k e. part _ _ k e)

pub returns-then-x-c-clause-fresh : goal.returns-then-x-c-clause-fresh
returns-then-x-c-clause-fresh c =
    let a = c.args in
    let l = c.loop-c in
    let k = c.in-Some.c in
    let S = went c.next.new.self l.invariant.0 c.in-Some.ensures.steps in
    let looked = looked_word a.n a.w (a.x * a.w) a.mask a.cells.now a.seen.now k _ S.inside S.is_one
    (lacks a.cells.now a.seen.now (a.x * a.w) k (c.type_inv.seen k).fits)
    l.found _ c.found_or-found.ensures (rw S.here at l.invariant.1) in
    record { found = looked.found; all = λ p h. absurd (omega arith) }

pub loop-c-preserved : goal.loop-c-preserved
loop-c-preserved c =
    let a = c.args in
    let l = c.loop-c in
    let k = c.in-Some.c in
    let S = went c.next.new.self l.invariant.0 c.in-Some.ensures.steps in
    let looked = looked_word a.n a.w (a.x * a.w) a.mask a.cells.now a.seen.now k _ S.inside S.is_one
    (lacks a.cells.now a.seen.now (a.x * a.w) k (c.type_inv.seen k).fits)
    l.found _ c.found_or-found.ensures (rw S.here at l.invariant.1) in
    (S.left, looked_gap a.n a.w (a.x * a.w) a.mask a.cells.now a.seen.now (k + 1) _ _ S.next.gap looked)
