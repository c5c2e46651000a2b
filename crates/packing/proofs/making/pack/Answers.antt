-- `pack` lends the first D + 1 words to `pack_part`; what it leaves there is the tree (`packed_tree`). Assumes nothing.
use mathlib.Core.Path.{◌≡◌, sym, ap, ◌∙◌}
use Prim.Native.Nat.{ℕ, ◌+◌, ◌/◌}
use native.Mathlib.Omega.{arith}
use lib.ListN.{length, take, length-take}
use Rattle.k2.specs.Heap.{full_size}
use Rattle.k2.specs.SizeLaws.{tree_unit_size}
use Rattle.packing.proofs.PackLaws.{packed_tree}
use Rattle.packing.proofs.making.pack.Goals as goal

pub pack_part-requires : goal.pack_part-requires
pack_part-requires c =
    let h = c.height-h in
    let u = c.tree_unit-end in
    let s : u.result ≡ (full_size h.result 1 + 63) / 64 =
    u.ensures.0 ∙ tree_unit_size c.args.n ∙ ap (λ (x : ℕ). (full_size x 1 + 63) / 64) (sym h.ensures.0) in
    record { rows_are = c.requires.0; some_level = h.ensures.1; few_levels = h.ensures.2; room_is = rw length-take (omega arith) }

pub returns : goal.returns
returns c =
    let h = c.height-h in
    let p = c.pack_part in
    let k : length p.new.heap ≡ length (take (c.tree_unit-end.result + 1) c.args.out.now) = p.auto.heap in (
      omega (arith, p.ensures.0, length-take (c.tree_unit-end.result + 1) c.args.out.now),
      λ a is e.
          packed_tree c.args.n h.result p.result a p.new.heap _ h.ensures.0
          h.ensures.3 is (omega (arith, p.ensures.0)) (λ s. p.ensures.1 a s e),
    )
