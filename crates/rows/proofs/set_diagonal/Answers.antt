-- `set_diagonal` sets a bit for each record of the set. The loop's invariant: those below i are joined to themselves. The measure is the records
-- left. It rests on `diagonal_more` and `diagonal_skip`. Assumes nothing.
use mathlib.Core.Path.{◌≡◌, sym, ap, ◌∙◌}
use native.Mathlib.Omega.{arith}
use Rattle.k2.specs.Bits.{bit_at}
use Rattle.k2.specs.BitLaws.{Bits, bit_lt}
use Rattle.k2.specs.PairSets.{Cells, union}
use Rattle.rows.specs.Rows.{flat}
use Rattle.rows.proofs.PutLaws.{diagonal_none, diagonal_more, diagonal_skip, diagonal_all}
use Rattle.rows.proofs.set_diagonal.Goals as goal
use Rattle.rows.proofs.set_diagonal.Goals.{then-bit-eq1, else-bit-eq1}

pub loop-i-init : goal.loop-i-init
loop-i-init c = λ x e. e ∙ ap flat (sym (diagonal_none x _))

pub loop-i-preserved : goal.loop-i-preserved
loop-i-preserved c =
    let l = c.loop-i in
    let a = c.args in
    let f = bit_at a.records.now in
    let r = c.bit.ensures in
    elim c.if-bit-eq1.branch [
      | then-bit-eq1 w ↦ λ x e.
          let b : Bits (flat x) = λ k. rw (← e) (bit_lt a.rows.now k) in
          rw w.rows-is (w.set_bit.ensures ∙
          rw (l.invariant x e) (diagonal_more f (bit_lt a.records.now) x l.i (omega arith) b (sym r ∙ w.if-bit-eq1.true)))
      | else-bit-eq1 w ↦ λ x e.
          let z : f l.i ≡ 0 = omega (arith, r, w.if-bit-eq1.false, bit_lt a.records.now l.i) in
          rw w.rows-is (l.invariant x e ∙ ap (λ (t : Cells). flat (union x t)) (diagonal_skip f (bit_lt a.records.now) l.i z))
    ]

pub returns : goal.returns
returns c =
    let l = c.loop-i in
    let a = c.args in
    let h : l.i ≡ 1024 = omega arith in
    λ x e. l.invariant x e ∙ rw h (ap (λ (t : Cells). flat (union x t)) (diagonal_all a.records.now (omega arith)))
