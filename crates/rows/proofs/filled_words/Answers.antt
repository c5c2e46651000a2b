-- `filled_words` tests the words of a row. The loop's invariant: the squares before s that the mask leaves out are empty. It rests on
-- `mask_set` and `mask_skip`. Assumes nothing.
use mathlib.Core.Path.{◌≡◌, ap, ◌∙◌}
use Prim.Native.Nat.{◌*◌, ◌%◌, ◌^◌}
use native.Mathlib.Nat.{one-mul}
use native.Mathlib.Omega.{arith}
use lib.Bits.{bit_or, or_lt}
use lib.Dec.{lit<}
use lib.Pow.{pow-lt, shl_exact}
use Rattle.rows.proofs.SearchLaws.{mask_set, mask_skip}
use Rattle.rows.proofs.filled_words.Goals as goal
use Rattle.rows.proofs.filled_words.Goals.{then-word-ne0, else-word-ne0}

pub loop-s-preserved : goal.loop-s-preserved
loop-s-preserved c =
    let l = c.loop-s in
    let a = c.args in
    elim c.if-word-ne0.branch [
      | then-word-ne0 w ↦
          let shl : (1 * 2 ^ l.s) % 2 ^ 32 ≡ 2 ^ l.s = shl_exact {a = 1} 1 l.s 32 (lit< tt) (omega arith) ∙ one-mul (2 ^ l.s) in
          let e : c.if-word-ne0.mask ≡ bit_or l.mask (2 ^ l.s) = w.mask-is ∙ ap (bit_or l.mask) shl in
          record {
            mask_below = rw e (or_lt 16 l.mask (2 ^ l.s) l.invariant.mask_below (pow-lt {j = 16} (omega arith)));
            others_empty = rw e (mask_set a.row.now l.s l.mask l.invariant.others_empty);
          }
      | else-word-ne0 w ↦ record {
        mask_below = rw w.mask-is l.invariant.mask_below;
        others_empty = rw w.mask-is (mask_skip a.row.now l.s l.mask l.invariant.others_empty w.if-word-ne0.false);
      }
    ]
