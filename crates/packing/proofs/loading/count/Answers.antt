-- `count` sums the ones word by word. The loop's invariant is `CountLaws` `Counting`. Assumes nothing.
use Rattle.std.proofs.Common.{List, ℕ, ◌+◌, ◌*◌, get_or, arith, sym, subst}
use Rattle.std.specs.Int.Count.{ones}
use Rattle.std.proofs.lemmas.Nat.{ones-le}
use Rattle.k2.specs.BitLaws.{bit_lt, ones-le as ones_below-le}
use Rattle.k2.specs.Bits.{bit_at}
use Rattle.packing.proofs.CountLaws.{Counting, counting_none, counting_put, counting_past}
use Rattle.packing.proofs.loading.count.Goals as goal
use Rattle.packing.proofs.loading.count.Goals.{then-i-eq0, else-i-eq0}

pub loop-i-init : goal.loop-i-init
loop-i-init g c = counting_none _ _ _ c.requires

pub overflow_add-n : goal.overflow_add-n
overflow_add-n g c =
    let l = c.loop-i in
    let ws = c.args.tree.now in
    omega (arith, ones-le 64 _ (c.type_inv.tree l.i).fits, ones_below-le (bit_at ws) (bit_lt ws) (l.i * 64))

pub loop-i-preserved : goal.loop-i-preserved
loop-i-preserved g c =
    let l = c.loop-i in
    let ws = c.args.tree.now in
    let bs = c.args.before.now in
    let f = (c.type_inv.tree l.i).fits in
    let at : List ℕ → Type 0 = λ (b : List ℕ). Counting g.row.BLOCK ws bs b (l.n + ones (get_or ws l.i 0)) (l.i + 1) in
    elim c.if-i-eq0.branch [
      | then-i-eq0 w ↦ subst at (sym w.before-is) (counting_put _ _ _ c.requires l.invariant c.loop-i-test.true f w.if-i-eq0.true)
      | else-i-eq0 w ↦ subst at (sym w.before-is) (counting_past _ _ _ c.requires l.invariant c.loop-i-test.true f w.if-i-eq0.false)
    ]
