-- `compact` goes through the words in order. The loop's invariant: of the groups before word i, the g that are not all 0 are at the front
-- (`Compacting`). The measure is the words left. At the end the front is the words of these groups (`compact_end`). Assumes nothing.
use mathlib.Core.Path.{◌≡◌, refl}
use Prim.Native.Nat.{◌*◌}
use native.Mathlib.Omega.{arith}
use lib.ListN.{length}
use Rattle.k2.specs.Bits.{bit_at}
use Rattle.packing.proofs.CompactLaws.{compact_start, compact_all_zero, compact_end}
use Rattle.packing.proofs.making.compact.Goals as goal

pub loop-i-init : goal.loop-i-init
loop-i-init c = record { inside = omega arith; few = omega arith; as_long = refl; front = compact_start c.args.heap.now }

pub loop-i-preserved-then-all_zero : goal.loop-i-preserved-then-all_zero
loop-i-preserved-then-all_zero c =
    let l = c.loop-i in
    let q = c.all_zero.ensures c.if-all_zero.true in
    record {
      inside = omega (arith, l.invariant.as_long);
      few = omega arith;
      as_long = l.invariant.as_long;
      front = compact_all_zero (bit_at c.args.heap.now) l.i l.g l.heap q.1 l.invariant.front;
    }

pub returns : goal.returns
returns c =
    let l = c.loop-i in
    let h = c.args.heap.now in
    let t = c.trim in
    let e : l.i ≡ length h = omega (arith, l.invariant.as_long) in (
      omega arith,
      compact_end (bit_at h) (16 * length h) l.g l.heap t.new.heap (rw e at l.invariant.front)
          (λ i. omega (arith, c.type_inv.heap i)) (omega (arith, t.auto.heap, l.invariant.as_long)) t.ensures.0 t.ensures.1,
    )
