-- `start_marks` writes the two parts word by word. The loop's invariant: the marks are begun as far as the records of word c (`Started`). The measure is the
-- words left. It rests on `started_word`. Assumes nothing.
use mathlib.Core.Path.{refl}
use native.Mathlib.Omega.{arith}
use Rattle.k2.specs.Bits.{bit_at}
use Rattle.k2.specs.BitLaws.{bit_replicate}
use Rattle.grid.proofs.MarkLaws.{started_none, marked_length, started_word}
use Rattle.grid.proofs.closing.start_marks.Goals as goal

pub loop-c-init : goal.loop-c-init
loop-c-init c =
    record { inside = omega arith; marks_long = refl; started = started_none (bit_at c.args.filled.now) _ (bit_replicate 48) }

pub loop-c-preserved : goal.loop-c-preserved
loop-c-preserved c =
    let at_loop = c in
    let a = at_loop.args in
    let l = at_loop.loop-c in
    record {
      inside = omega arith;
      marks_long = marked_length l.c a.filled.now l.marks (omega arith) l.invariant.marks_long (c.type_inv.filled l.c).fits;
      started =
          started_word l.c a.filled.now l.marks (omega arith) l.invariant.marks_long (c.type_inv.filled l.c).fits l.invariant.started;
    }
