-- `close_once` closes the row and marks it (`onward_row`). Assumes nothing.
use Rattle.std.proofs.Common.{◌≡◌, refl, ap, ◌∙◌, ℕ, arith}
use Rattle.k2.specs.Bits.{bit_at}
use Rattle.k2.specs.BitLaws.{bit_lt}
use Rattle.bits.specs.BitSetLaws.{put_at}
use Rattle.grid.proofs.ClosureLaws.{onward_row}
use Rattle.grid.proofs.state.Closing.close_once.Goals as goal

pub returns-clause-goes : goal.returns-clause-goes
returns-clause-goes c =
    let s = c.args.self.now in
    let x = c.args.x in
    let none : bit_at s.marks.now x ≡ 0 = omega (arith, c.bit.ensures, c.if-bit-eq1.false, bit_lt s.marks.now x) in
    record {
      records = refl;
      width = refl;
      cells = refl;
      masks = refl;
      onward = onward_row s.n s.w x s.marks.now _ s.cells.now s.masks.now _ _ (omega (arith, s.stacked.space.small)) none c.set_bit.ensures c.close_row.ensures;
    }

pub returns-clause-closed : goal.returns-clause-closed
returns-clause-closed c h =
    let s = c.args.self.now in
    let x = c.args.x in
    ap (λ (f : ℕ → ℕ). f x) c.set_bit.ensures ∙ put_at x 1 (bit_at s.marks.now)
