-- `occupied` lists the rows in turn. The loop's invariant: the rows below i are listed, and the next is i. The measure is the rows left. It
-- rests on `entries_skip` and `entries_add`. Assumes nothing.
use mathlib.Core.Path.{◌≡◌, refl}
use native.Mathlib.Omega.{arith}
use lib.ListN.{length, take}
use lib.Seq.{length-take-le}
use Rattle.k2.specs.Bits.{bit_at}
use Rattle.rows.proofs.SearchLaws.{mask_empty}
use Rattle.rows.proofs.EntryLaws.{row_front, masks_front, occupied_none, entries_skip, entries_add, masks_add}
use Rattle.rows.proofs.occupied.Goals as goal
use Rattle.rows.proofs.occupied.Goals.{then-mask-ne0, else-mask-ne0}

pub loop-i-init : goal.loop-i-init
loop-i-init c =
    record { m_most = omega arith; occupied = occupied_none _ _; masks = λ t h. absurd (omega arith) }

pub loop-i-preserved : goal.loop-i-preserved
loop-i-preserved c =
    let l = c.loop-i in
    let s = c.squares-mask in
    let f = bit_at c.args.rows.now in
    elim c.if-mask-ne0.branch [
      | then-mask-ne0 w ↦ record {
        m_most = rw w.m-is (omega arith);
        occupied = rw (w.list-is, w.m-is) (entries_add f l.i l.m l.list l.invariant.occupied _ (omega arith) refl);
        masks = rw (w.list-is, w.m-is) (masks_add f l.m _ l.list (omega arith) l.invariant.masks s.ensures.1);
      }
      | else-mask-ne0 w ↦ record {
        m_most = rw w.m-is (omega arith);
        occupied = rw (w.list-is, w.m-is) (entries_skip f l.i l.m l.list l.invariant.occupied (mask_empty f l.i _ s.ensures.1 w.if-mask-ne0.false));
        masks = rw (w.list-is, w.m-is) l.invariant.masks;
      }
    ]

pub returns : goal.returns
returns c =
    let l = c.loop-i in
    let e : length (take l.m l.list) ≡ l.m = length-take-le l.m l.list (omega arith) in
    let n : l.i ≡ c.args.n = omega arith in
    rw (e, row_front) (omega arith, rw n at l.invariant.occupied, masks_front (bit_at c.args.rows.now) l.m l.list l.invariant.masks)
