-- `fill_block` brings a block's cells into the order of the tree's last level and puts them in (`turn_some`); a block of 0 adds nothing
-- (`turn_none`), and a block of whose columns no row has a bit is one (`byte_none`). Assumes nothing.
use mathlib.Core.Path.{refl}
use native.Mathlib.Omega.{arith}
use Rattle.k2.specs.Bits.{bit_at}
use Rattle.k2.specs.SizeLaws.{four_most}
use Rattle.packing.proofs.BlockLaws.{byte_none, turn_none, turn_some}
use Rattle.packing.proofs.making.fill_block.Goals as goal

pub returns-then-seen-c-eq0 : goal.returns-then-seen-c-eq0
returns-then-seen-c-eq0 c =
    let a = c.args in
    let p = c.requires in
    λ s is e h.
    turn_none a.rows.now s e a.r a.c (omega arith) a.g p.0.levels is p.1.row a.base 0 (omega arith)
    (byte_none a.rows.now s e a.r a.c (omega arith) a.seen p.1.seen_are c.if-seen-c-eq0.true) (bit_at a.heap.now) h refl

pub overflow_mul-z : goal.overflow_mul-z
overflow_mul-z c = omega (arith, four_most c.args.g (omega arith))

pub overflow_add-base : goal.overflow_add-base
overflow_add-base c = omega (arith, four_most c.args.g (omega arith))

pub returns-then-v-ne0 : goal.returns-then-v-ne0
returns-then-v-ne0 c =
    let a = c.args in
    let p = c.requires in
    let v = c.block-v in
    let w = c.shuffle in
    let z = c.morton_place-z in
    λ s is e h.
    turn_some a.rows.now s e a.r a.c (omega arith) a.g p.0.levels is
    p.1.row a.base v.result (omega arith) v.ensures (bit_at a.heap.now) h
    c.if-v-ne0.true w.result z.result (omega arith) w.ensures z.ensures.0 _ c.or_word.ensures

pub returns-else-v-ne0 : goal.returns-else-v-ne0
returns-else-v-ne0 c =
    let a = c.args in
    let p = c.requires in
    let v = c.block-v in
    λ s is e h.
    turn_none a.rows.now s e a.r a.c (omega arith) a.g p.0.levels is
    p.1.row a.base v.result (omega arith) v.ensures (bit_at a.heap.now) h
    c.if-v-ne0.false
