-- `occupied` sets a bit for each record whose mask is not 0. The loop's invariant: the bits are those of the records below x (`Filled`). The measure is
-- the records left. It rests on `filled_more` and `filled_same`. Assumes nothing.
use mathlib.Core.Path.{refl, sym, ap, subst, ◌∙◌}
use Prim.Native.Nat.{◌+◌}
use native.Mathlib.Omega.{arith}
use lib.ListN.{length}
use Rattle.k2.specs.Bits.{bit_at}
use Rattle.k2.specs.BitLaws.{bit_replicate}
use Rattle.grid.specs.Steps.{Filled}
use Rattle.grid.proofs.MarkLaws.{filled_none, filled_more, filled_same}
use Rattle.grid.proofs.closing.occupied.Goals as goal
use Rattle.grid.proofs.closing.occupied.Goals.{then-masks-x-ne0, else-masks-x-ne0}

pub loop-x-init : goal.loop-x-init
loop-x-init c =
    record { inside = omega arith; records_long = refl; filled = filled_none c.args.masks.now _ (bit_replicate 16) }

pub loop-x-preserved : goal.loop-x-preserved
loop-x-preserved c =
    let l = c.loop-x in
    let ms = c.args.masks.now in
    elim c.if-masks-x-ne0.branch [
      | then-masks-x-ne0 w ↦ record {
        inside = omega arith;
        records_long = ap length w.records-is ∙ w.set_bit.auto.words ∙ l.invariant.records_long;
        filled = subst (Filled (l.x + 1) ms) (sym (ap bit_at w.records-is ∙ w.set_bit.ensures)) (filled_more l.x ms (bit_at l.records) l.invariant.filled);
      }
      | else-masks-x-ne0 w ↦ record {
        inside = omega arith;
        records_long = ap length w.records-is ∙ l.invariant.records_long;
        filled = subst (Filled (l.x + 1) ms) (sym (ap bit_at w.records-is)) (filled_same l.x ms (bit_at l.records) w.if-masks-x-ne0.false l.invariant.filled);
      }
    ]
