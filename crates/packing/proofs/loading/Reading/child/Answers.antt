-- `child` adds the ones before the block of p's word, those of the block's words before it, and those in it up to p (`child_count`). The loop's invariant: n is
-- the number of ones before the word reached. Assumes nothing.
use Rattle.std.proofs.Common.{◌∙◌, ap, ℕ, ◌+◌, ◌*◌, ◌/◌, ◌-◌, get_or, take, drop, arith}
use Rattle.std.proofs.Math.Nat.{div-mul-le_self}
use Rattle.std.proofs.lemmas.Nat.{ones-le}
use Rattle.k2.specs.Bits.{bit_at, ones_below}
use Rattle.k2.specs.BitLaws.{bit_lt, ones-le as ones_below-le}
use Rattle.k2.specs.Trees.{child_place}
use Rattle.packing.proofs.CountLaws.{part_next, child_end}
use Rattle.packing.proofs.loading.Reading.child.Goals as goal

pub loop-w-init : goal.loop-w-init
loop-w-init g c =
    let t = c.args.self.now in
    let b : ℕ = c.args.p / 64 / g.row.BLOCK in
    let h = div-mul-le_self (c.args.p / 64) g.row.BLOCK in
    (t.counted b (omega (arith, h))).1 ∙ ap (λ (i : ℕ). ones_below (bit_at t.tree.now) (i * 64)) (omega arith)

pub overflow_add-n : goal.overflow_add-n
overflow_add-n g c =
    let ws = c.args.self.now.tree.now in
    let b : ℕ = c.args.p / 64 / g.row.BLOCK * g.row.BLOCK in
    let i = c.loop-w.w-index in
    omega (arith, ones-le 64 (get_or (take (c.args.p / 64 - b) (drop b ws)) i 0) (omega arith), ones_below-le (bit_at ws) (bit_lt ws) ((b + i) * 64))

pub loop-w-preserved : goal.loop-w-preserved
loop-w-preserved g c =
    let t = c.args.self.now in
    let q : ℕ = c.args.p / 64 in
    part_next t.tree.now (q / g.row.BLOCK * g.row.BLOCK) q c.loop-w.w-index c.requires c.loop-w.n c.loop-w-test.true (omega arith) c.loop-w.invariant

pub overflow_add-result : goal.overflow_add-result
overflow_add-result g c =
    let ws = c.args.self.now.tree.now in
    let e = child_end ws g.row.BLOCK c.args.p _ _ c.requires c.loop-w.auto.w-index-end c.loop-w-test.false c.loop-w.invariant in
    omega (arith, e, ones_below-le (bit_at ws) (bit_lt ws) (c.args.p + 1))

pub overflow_mul-result : goal.overflow_mul-result
overflow_mul-result g c =
    let t = c.args.self.now in
    let ws = t.tree.now in
    let e = child_end ws g.row.BLOCK c.args.p _ _ c.requires c.loop-w.auto.w-index-end c.loop-w-test.false c.loop-w.invariant in
    omega (arith, e, t.short, ones_below-le (bit_at ws) (bit_lt ws) (c.args.p + 1))

pub returns : goal.returns
unfolding child_place
returns g c =
    let t = c.args.self.now in
    let ws = t.tree.now in
    let e = child_end ws g.row.BLOCK c.args.p _ _ c.requires c.loop-w.auto.w-index-end c.loop-w-test.false c.loop-w.invariant in
    (ap (λ (x : ℕ). 4 * x) e, omega (arith, e, t.short, ones_below-le (bit_at ws) (bit_lt ws) (c.args.p + 1)))
