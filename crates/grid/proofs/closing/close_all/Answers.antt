-- `close_all` goes over the records whose rows are not empty, word by word. The loops' invariants: the rows are on from where they were (`Goes`), and those of
-- the records before word c, or before the next one of that word, are closed, or empty from the first (`Settled`). Assumes nothing.
use Rattle.std.proofs.Common.{◌≡◌, ◌≤◌, ◌<◌, ◌+◌, ◌*◌, ℕ, min, ◌∙◌, rules, arith}
use Rattle.std.proofs.Math.Decide.{dec_lt}
use Rattle.k2.specs.Bits.{bit_at}
use Rattle.k2.specs.BitLaws.{bit_lt, bit_in}
use Rattle.k2.specs.PairSets.{Cells, closure}
use Rattle.grid.specs.Grid.{first}
use Rattle.grid.specs.GridLaws.{first_set}
use Rattle.grid.specs.Steps.{low, Clean}
use Rattle.grid.proofs.OnesLaws.{begun, went}
use Rattle.grid.proofs.ScanLaws.{word_bits}
use Rattle.grid.proofs.ClosureLaws.{settled_gap, settled_next, half_none, half_all}
use Rattle.grid.proofs.GoesLaws.{goes_same, goes_next}
use Rattle.grid.proofs.closing.close_all.Goals as goal
use Rattle.grid.proofs.closing.close_all.Goals.{In-Some}

pub loop-c-init : goal.loop-c-init
loop-c-init c = (goes_same _, λ u h. absurd (omega arith))

pub loop-k-init : goal.loop-k-init
loop-k-init c =
    let a = c.args in
    let l = c.loop-c in
    let B = begun c.into_iter-k-iterator.ensures.into_iter_gives c.of-k-items.ensures in
    let z : l.c * 64 + 0 ≡ l.c * 64 = omega arith in (
      B.0,
      goes_same l.closing,
      settled_gap a.n a.w _ _ a.cells.now a.masks.now (l.c * 64 + 0) _ c.occupied-filled.ensures
          (word_bits c.occupied-filled.result l.c 0 _ (omega arith) (λ j h g. B.1.gap j h (omega arith))) (rw z l.invariant.1),
    )

-- the place found is that of a record whose row is not empty
filled : (c : In-Some) → (c.loop-c.c * 64 + c.in-Some.k < c.args.n)
filled c =
    let T = went c.next.new.self c.loop-k.invariant.0 c.in-Some.ensures.steps in
    let f = c.occupied-filled in
    let x : ℕ = c.loop-c.c * 64 + c.in-Some.k in
    let one : bit_at f.result x ≡ 1 = bit_in f.result c.loop-c.c c.in-Some.k T.inside ∙ T.is_one in
    inside x c.args.n (bit_at f.result) f.ensures.past one
  where
    inside : (x n : ℕ) (f : ℕ → ℕ) → ((u : ℕ) → n ≤ u → f u ≡ 0) → f x ≡ 1 → x < n
    inside x n f past e = go (dec_lt x n)
      where
        go : Dec (x < n) → x < n
        go (yes h) = h
        go (no h) = absurd (omega (arith, e, past x (omega arith)))

pub close_record-requires : goal.close_record-requires
close_record-requires c =
    omega (arith, filled (goal.at.close_record-requires c).In-Some, c.loop-c.invariant.0.records, c.loop-k.invariant.1.records)

pub loop-k-preserved : goal.loop-k-preserved
loop-k-preserved c =
    let a = c.args in
    let l = c.loop-k in
    let k = c.in-Some.k in
    let x : ℕ = c.loop-c.c * 64 + k in
    let m = c.close_record.ensures in
    let T = went c.next.new.self l.invariant.0 c.in-Some.ensures.steps in
    let e : c.loop-c.c * 64 + min (low l.k-iterator.left) 64 ≡ x = omega (arith, T.here, T.inside) in
    let f : x + 1 ≡ c.loop-c.c * 64 + (k + 1) = omega arith in (
      T.left,
      goes_next l.invariant.1 m.goes,
      settled_gap a.n a.w _ _ a.cells.now a.masks.now (c.loop-c.c * 64 + (k + 1)) _ c.occupied-filled.ensures
          (word_bits c.occupied-filled.result c.loop-c.c (k + 1) _ (omega arith) (λ j h g. T.next.gap j h (omega arith)))
          (rw f at (settled_next a.n (first a.n a.w a.cells.now a.masks.now) (bit_at l.closing.marks.now) _ x
          (rw e at l.invariant.2) m.goes.onward.marks m.closed)),
    )

pub loop-c-preserved : goal.loop-c-preserved
loop-c-preserved c =
    let i = c.loop-k.invariant in
    let h = rw i.0.end_is at c.in-None.ensures.steps.1 in
    let e : c.loop-c.c * 64 + min (low c.loop-k.k-iterator.left) 64 ≡ (c.loop-c.c + 1) * 64 = omega arith in
    (goes_next c.loop-c.invariant.0 i.1, rw e at i.2)

pub returns : goal.returns
returns c =
    let a = c.args in
    let l = c.loop-c in
    let s = l.closing in
    let A : Cells = first a.n a.w a.cells.now a.masks.now in
    let G = l.invariant.0 in
    let closed : first a.n a.w s.cells.now s.masks.now ≡ closure a.n A
    = half_all a.n a.w A (bit_at s.marks.now) s.cells.now s.masks.now (first_set a.n a.w a.cells.now a.masks.now) (bit_lt s.marks.now)
    (G.onward.half A (first_set a.n a.w a.cells.now a.masks.now)
    (half_none a.n a.w a.cells.now a.masks.now _ _ c.requires.small c.occupied-filled.ensures c.start_marks-marks.ensures))
    (λ u h. l.invariant.1 u (omega (arith, c.requires.small))) in
    let clean : Clean a.n a.w a.cells.now a.masks.now → Clean a.n a.w s.cells.now s.masks.now = G.onward.clean in
    search rules
