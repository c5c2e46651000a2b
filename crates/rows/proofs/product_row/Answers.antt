-- `product_row` goes over the entries. The loop's invariant: the columns before the entry reached are those of the product, and no other is
-- set. It rests on `row_skip`, `row_put` and, where the masks do not meet, `masks_apart`. Assumes nothing.
use mathlib.Core.Path.{◌≡◌, sym, ap, ◌∙◌}
use Prim.Native.Nat.{ℕ, ◌<◌}
use native.Mathlib.Omega.{arith}
use lib.Bits.{bit_and}
use lib.ListN.{length, get_or}
use Rattle.std.proofs.lemmas.List.{get_or_read}
use Rattle.k2.specs.Bits.{bit_at}
use Rattle.bits.specs.BitSets.{put}
use Rattle.rows.specs.declared.entry.Entry.{Entry}
use Rattle.rows.specs.Steps.{past_end, Masked, row_at, Masks, Common, served, below}
use Rattle.rows.proofs.SearchLaws.{served_bit, masks_common, masks_apart, row_start, row_skip, row_put}
use Rattle.rows.proofs.EntryLaws.{row-at}
use Rattle.rows.proofs.product_row.Goals as goal
use Rattle.rows.proofs.product_row.Goals.{then-common-ne0+then-serves-eq1, then-common-ne0+else-serves-eq1, else-common-ne0}

pub loop-entry-init : goal.loop-entry-init
loop-entry-init c =
    let a = c.args in
    λ n g o k e. e ∙ row_start (bit_at a.a.now) (bit_at a.columns.now) a.i n (length a.list.now) _ o

pub loop-entry-preserved : goal.loop-entry-preserved
loop-entry-preserved c =
    let l = c.loop-entry in
    let a = c.args in
    let i = l.entry-index in
    let m = length a.list.now in
    let entry : Entry = c.entry-item.result in
    let f = bit_at a.a.now in
    let g = bit_at a.columns.now in
    let R : ℕ → ℕ → ℕ = λ n. row_at n m a.list.now in
    let S = served f g a.i in
    let h : i < m = omega arith in
    let q : entry ≡ get_or a.list.now i past_end = get_or_read a.list.now i entry h c.entry-item.is past_end in
    let masked : Masks g m a.list.now → Masked g entry.row entry.squares = λ k. rw (← q) at (k i h) in
    let both : Masked f a.i a.mask → Masks g m a.list.now
    → Common f g a.i (entry.row) (bit_and a.mask (entry.squares))
    = λ u k. masks_common f g a.i _ a.mask _ u (masked k) in
    let at : (n : ℕ) → R n i ≡ entry.row = λ n. row-at n m a.list.now i h ∙ ap (λ (e : Entry). e.row) (sym q) in
    elim c.if-common-ne0.branch [
      | then-common-ne0+then-serves-eq1 w ↦ λ n u o k e.
          rw w.row-is (w.set_bit.ensures ∙ rw (l.invariant n u o k e) (
          ap (λ (j : ℕ). put j 1 (below (R n i) S)) (sym (at n))
          ∙ row_put f g a.i n m (R n) o i h (ap S (at n) ∙ sym (w.serves.ensures (both u k)) ∙ w.if-serves-eq1.true)))
      | then-common-ne0+else-serves-eq1 w ↦ λ n u o k e.
          let z : S (entry.row) ≡ 0 =
          omega (arith, w.serves.ensures (both u k), w.if-serves-eq1.false, served_bit a.a.now a.columns.now a.i (entry.row)) in
          rw w.row-is (l.invariant n u o k e ∙ row_skip f g a.i n m (R n) o i h (ap S (at n) ∙ z))
      | else-common-ne0 w ↦ λ n u o k e.
          let z : S (entry.row) ≡ 0 = masks_apart f g a.i _ a.mask _ u (masked k) w.if-common-ne0.false in
          rw w.row-is (l.invariant n u o k e ∙ row_skip f g a.i n m (R n) o i h (ap S (at n) ∙ z))
    ]
