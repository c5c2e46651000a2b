-- One label more, in the set (`laid_yes`) or not (`laid_no`). Assumes nothing.
use Rattle.std.proofs.Common.{arith, refl}
use Rattle.std.proofs.Math.ListN.{length-set}
use Rattle.generations.proofs.LabelLaws.{laid_none, laid_yes, laid_no}
use Rattle.generations.proofs.labels.spell_labels.Goals as goal
use Rattle.generations.proofs.labels.spell_labels.Goals.{then-has_label, else-has_label}

pub loop-label-init : goal.loop-label-init
loop-label-init c = record { inside = omega arith; as_long = refl; laid = laid_none _ _ }

pub loop-label-preserved : goal.loop-label-preserved
loop-label-preserved c =
    let l = c.loop-label in
    let e = c.has_label.ensures in
    let room = l.invariant.as_long in
    elim c.if-has_label.branch [
      | then-has_label w ↦ record {
        inside = omega arith;
        as_long = rw w.text-is (simp (length-set, length-set) room);
        laid = rw (w.text-is, w.count-is) (laid_yes l.invariant.laid (omega (arith, room, c.requires)) e w.if-has_label.true w.separator.ensures);
      }
      | else-has_label w ↦ record {
        inside = omega arith;
        as_long = rw w.text-is room;
        laid = rw (w.text-is, w.count-is) (laid_no l.invariant.laid (omega (arith, room, c.requires)) e w.if-has_label.false);
      }
    ]
