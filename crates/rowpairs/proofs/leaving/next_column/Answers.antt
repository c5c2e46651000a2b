-- A turn passes over one word (`column_skip`, `column_gap`). Assumes nothing.
use Rattle.std.proofs.Common.{arith, ◌≡◌, ◌≤◌, ◌<◌, ◌+◌, ◌-◌, ◌*◌, ◌/◌, ◌∙◌, ap, ℕ}
use Rattle.k2.specs.Bits.{digit, bit_at}
use Rattle.bits.specs.BitSetLaws.{gap_join}
use Rattle.rowpairs.proofs.CellLaws.{column_empty, column_skip, column_gap, column_hit}
use Rattle.rowpairs.proofs.leaving.next_column.Goals as goal

pub returns-then-mask-eq0 : goal.returns-then-mask-eq0
returns-then-mask-eq0 c = λ ms e. record {
  high = omega arith;
  low = λ h. absurd (omega arith);
  gap = λ k l m. column_empty c.args.cells.now ms c.args.n c.args.x c.requires.1 (e ∙ c.if-mask-eq0.true) k;
  hit = λ h. absurd (omega arith);
}

pub returns-then-place-row-2 : goal.returns-then-place-row-2
unfolding digit
returns-then-place-row-2 c =
    let row = c.args.x * c.row_width.result * 64 in
    let p = c.next-place in
    let k = p.result - row in
    let s : row + k ≡ p.result = omega (arith, p.ensures.low) in
    let low : c.loop-from.from ≤ k = omega (arith, p.ensures.low) in
    let below : k < c.args.n = omega (arith, c.if-place-row.true, low) in
    let inside : k < c.loop-from.from / 64 * 64 + 64 = omega (arith, c.if-place-row-2.true, s) in
    λ ms e. record {
      high = omega (arith, below);
      low = λ h. omega (arith, low, c.loop-from.invariant.low_end);
      gap =
          gap_join _ _ _ _ (c.loop-from.invariant.gap ms e) (column_gap c.args.cells.now ms c.args.n c.args.x c.requires.1 (c.args.x * c.row_width.result * 64)
          (ap (λ (w : ℕ). c.args.x * w * 64) c.row_width.ensures)
          c.loop-from.from (ap (λ (m : ℕ). digit m (c.loop-from.from / 64)) e ∙ c.if-mask-word-eq1.true)
          k (omega arith) (λ k i j q. p.ensures.gap _ (omega arith) (omega (arith, s))));
      hit =
          λ h. column_hit c.args.cells.now ms c.args.n c.args.x c.requires.1 row (ap (λ (w : ℕ). c.args.x * w * 64) c.row_width.ensures)
          c.loop-from.from (ap (λ (m : ℕ). digit m (c.loop-from.from / 64)) e ∙ c.if-mask-word-eq1.true) k below low inside
          (ap (bit_at c.args.cells.now) s ∙ p.ensures.hit c.if-place-row-2.true);
    }

pub loop-from-preserved-else-place-row-2 : goal.loop-from-preserved-else-place-row-2
unfolding digit
loop-from-preserved-else-place-row-2 c = record {
  low_end = omega arith;
  inside = omega (arith, c.requires.0, c.loop-from-test.true);
  gap =
      λ ms e. gap_join _ _ _ _ (c.loop-from.invariant.gap ms e)
      (column_gap c.args.cells.now ms c.args.n c.args.x c.requires.1 (c.args.x * c.row_width.result * 64)
      (ap (λ (w : ℕ). c.args.x * w * 64) c.row_width.ensures)
      c.loop-from.from (ap (λ (m : ℕ). digit m (c.loop-from.from / 64)) e ∙ c.if-mask-word-eq1.true)
      _ (omega arith) (λ k i j q. c.next-place.ensures.gap _ (omega arith) (omega (arith, c.if-place-row-2.false))));
}

pub loop-from-preserved-else-place-row : goal.loop-from-preserved-else-place-row
unfolding digit
loop-from-preserved-else-place-row c = record {
  low_end = omega arith;
  inside = omega (arith, c.requires.0, c.loop-from-test.true);
  gap =
      λ ms e. gap_join _ _ _ _ (c.loop-from.invariant.gap ms e)
      (column_gap c.args.cells.now ms c.args.n c.args.x c.requires.1 (c.args.x * c.row_width.result * 64)
      (ap (λ (w : ℕ). c.args.x * w * 64) c.row_width.ensures)
      c.loop-from.from (ap (λ (m : ℕ). digit m (c.loop-from.from / 64)) e ∙ c.if-mask-word-eq1.true)
      _ (omega arith) (λ k i j q. c.next-place.ensures.gap _ (omega arith) (omega (arith, c.if-place-row.false))));
}

pub loop-from-preserved : goal.loop-from-preserved
unfolding digit
loop-from-preserved c = record {
  low_end = omega arith;
  inside = omega (arith, c.requires.0, c.loop-from-test.true);
  gap = λ ms e. gap_join _ _ _ _ (c.loop-from.invariant.gap ms e) (column_skip c.args.cells.now ms c.args.n c.args.x c.requires.1 c.loop-from.from
      (ap (λ (m : ℕ). digit m (c.loop-from.from / 64)) e ∙ omega (arith, c.if-mask-word-eq1.false)));
}
