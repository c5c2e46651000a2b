-- `compose` goes over the rows. The loop's invariant: the rows below i are those of the product, the others those of the left operand. The
-- measure is the rows left. It rests on `product_store` and, for an empty row, `product_skip`. Assumes nothing.
use mathlib.Core.Path.{◌≡◌, sym, ap, ◌∙◌}
use Prim.Native.Nat.{◌≤◌}
use native.Mathlib.Omega.{arith}
use Rattle.k2.specs.Bits.{bit_at}
use Rattle.k2.specs.PairSets.{product}
use Rattle.k2.specs.PairSetLaws.{product_set}
use Rattle.bits.specs.BitSetLaws.{bits_none}
use Rattle.rows.specs.Rows.{flat}
use Rattle.rows.specs.Steps.{EmptyRow}
use Rattle.rows.proofs.SearchLaws.{mask_empty, to_none, to_all, product_store, product_skip}
use Rattle.rows.proofs.compose.Goals as goal
use Rattle.rows.proofs.compose.Goals.{then-mask-ne0, else-mask-ne0}

pub loop-i-init : goal.loop-i-init
loop-i-init c =
    λ x y X Y ex ey. ex ∙ ap flat (sym (to_none (product _ x y) x))

pub loop-i-preserved : goal.loop-i-preserved
loop-i-preserved c =
    let l = c.loop-i in
    let a = c.args in
    let o = c.occupied-list in
    let s = c.squares-mask in
    let nl : a.n ≤ 1024 = omega arith in
    elim c.if-mask-ne0.branch [
      | then-mask-ne0 w ↦ λ x y X Y ex ey.
          let e = l.invariant x y X Y ex ey in
          let r = w.product_row.ensures a.n s.ensures.1 o.ensures.1 o.ensures.2 (bits_none 16) in
          rw w.a-is (w.store_row.ensures ∙ rw (r, e, ey) (product_store a.n x y X Y nl l.i))
      | else-mask-ne0 w ↦ λ x y X Y ex ey.
          let e = l.invariant x y X Y ex ey in
          let z : EmptyRow (bit_at l.a) l.i = mask_empty (bit_at l.a) l.i s.result s.ensures.1 w.if-mask-ne0.false in
          rw w.a-is (e ∙ ap flat (product_skip a.n x y X Y nl l.i (rw e at z)))
    ]

pub returns : goal.returns
returns c =
    let l = c.loop-i in
    let a = c.args in
    let e : l.i ≡ a.n = omega arith in
    λ x y X Y ex ey. l.invariant x y X Y ex ey ∙ rw e (ap flat (to_all a.n (product a.n x y) x (product_set a.n x y X Y) X))
