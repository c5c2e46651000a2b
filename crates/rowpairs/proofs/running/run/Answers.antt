-- One item more is run (`reading_more`). Assumes nothing.
use Rattle.std.proofs.Common.{arith, ◌∙◌, refl}
use Rattle.rowpairs.proofs.RunLaws.{going_begins, reading_used, reading_few, reading_ready, reading_more, going_ends}
use Rattle.rowpairs.proofs.running.run.Goals as goal

pub loop-i-init : goal.loop-i-init
loop-i-init c =
    record { inside = omega arith; cells_as_long = refl; masks_as_long = refl; going = going_begins _ _ _ _ c.requires.2.2 _ _ }

pub step-count-requires : goal.step-count-requires
step-count-requires c =
    let l = c.loop-i in
    let n = c.next_item-next.ensures in
    let r = reading_ready _ _ _ _ l.i (omega arith) l.invariant.going n in
    let P = c.requires.0 _ r.room (reading_few _ _ _ _ l.i (omega arith) l.invariant.going n) in (
      record { small = P.small; words = omega (arith, l.invariant.cells_as_long, P.words); marks = omega (arith, l.invariant.masks_as_long, P.marks) },
      r,
      c.requires.1,
    )

pub loop-i-preserved : goal.loop-i-preserved
loop-i-preserved c =
    let l = c.loop-i in
    let n = c.next_item-next.ensures in
    let s = c.step-count in
    record {
      inside = (reading_used _ _ _ _ l.i (omega arith) l.invariant.going n).2;
      cells_as_long = s.auto.cells ∙ l.invariant.cells_as_long;
      masks_as_long = s.auto.masks ∙ l.invariant.masks_as_long;
      going = reading_more _ _ _ _ l.i (omega arith) l.invariant.going n s.ensures;
    }

pub returns : goal.returns
returns c = going_ends _ _ _ _ (omega arith) c.loop-i.invariant.going
