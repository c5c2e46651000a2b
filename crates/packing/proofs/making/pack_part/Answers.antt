-- `pack_part` makes the full tree of the set and keeps its groups that are not all 0. It rests on `part_cells`, `part_heaped` and `full_groups`.
-- Assumes nothing.
use mathlib.Core.Path.{◌≡◌, ap, ◌∙◌}
use Prim.Native.Nat.{ℕ, ◌-◌, ◌*◌}
use native.Mathlib.Omega.{arith}
use lib.ListN.{length}
use Rattle.k2.specs.Bits.{bit_at, words_of}
use Rattle.k2.specs.Heap.{full_size, full, compacted}
use Rattle.k2.specs.SizeLaws.{full_size_most}
use Rattle.bits.specs.BitSetLaws.{bits_none}
use Rattle.packing.specs.Image.{above}
use Rattle.packing.proofs.PackLaws.{full_groups, block_set, part_cells, part_heaped, part_next, part_room}
use Rattle.packing.proofs.making.pack_part.Goals as goal

pub fill-requires : goal.fill-requires
fill-requires c =
    let p = c.requires in
    let h = c.args.h in
    let g = c.block_levels in
    let f = c.full_size in
    let e : f.result ≡ full_size (h - 1) 1 = f.ensures.0 in
    let k : length c.clear.new.words ≡ length c.args.heap.now = c.clear.auto.words in
    record {
      levels = g.ensures.0;
      rows_are = p.rows_are;
      base_most = omega arith;
      room = rw e (omega (arith, part_room h g.result p.some_level g.ensures.1, p.room_is));
    }

pub compact-requires : goal.compact-requires
compact-requires c =
    let k : length c.clear.new.words ≡ length c.args.heap.now = c.clear.auto.words in
    let l : length c.fill.new.heap ≡ length c.clear.new.words = c.fill.auto.heap in
    let m : length c.lift.new.heap ≡ length c.fill.new.heap = c.lift.auto.heap in
    omega (arith, c.requires.room_is, full_size_most c.args.h c.requires.few_levels)

pub returns : goal.returns
returns c =
    let p = c.requires in
    let h = c.args.h in
    let g = c.block_levels in
    let f = c.full_size in
    let cl = c.clear in
    let fi = c.fill in
    let li = c.lift in
    let sq = c.compact in
    let k : length cl.new.words ≡ length c.args.heap.now = cl.auto.words in
    let l : length fi.new.heap ≡ length cl.new.words = fi.auto.heap in
    let m : length li.new.heap ≡ length fi.new.heap = li.auto.heap in
    let next = part_next h g.result p.some_level g.ensures.1 in
    let filled : ℕ = length li.new.heap in (
      omega (arith, sq.ensures.0),
      λ a is e.
          let w : bit_at fi.new.heap ≡ above (full_size (h - 1) 1) (full h a) =
          fi.ensures a (block_set h g.result p.some_level g.ensures.1 a is) e (ap bit_at cl.ensures ∙ bits_none (length c.args.heap.now))
          ∙ rw f.ensures.0 (part_cells h g.result p.some_level g.ensures.1 a is) in
          let t : bit_at li.new.heap ≡ full h a =
          li.ensures (full_size (h - 1) 1) (full h a) (part_heaped h g.result p.some_level g.ensures.1 a) (omega (arith, p.room_is)) w in
          sq.ensures.1 ∙ ap words_of (ap (λ (x : ℕ → ℕ). compacted x (16 * filled)) t ∙ full_groups h filled a (omega (arith, p.room_is))),
    )
