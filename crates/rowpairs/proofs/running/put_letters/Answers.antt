-- One label more is put in (`put_more`), or is in no set (`put_same`). Assumes nothing.
use Rattle.std.proofs.Common.{arith, ◌+◌, sym, refl, ℕ, List, subst}
use Rattle.rowpairs.specs.Labels.{PutBelow}
use Rattle.rowpairs.proofs.LetterLaws.{every_le, put_begins, put_more, put_same, put_ends}
use Rattle.rowpairs.proofs.running.put_letters.Goals as goal
use Rattle.rowpairs.proofs.running.put_letters.Goals.{then-plain-inverted-ne0, else-plain-inverted-ne0}

pub loop-label-init : goal.loop-label-init
loop-label-init c =
    record { inside = omega arith; cells_as_long = refl; masks_as_long = refl; put_below = put_begins _ _ _ _ _ _ _ }

pub overflow_add-plain : goal.overflow_add-plain
overflow_add-plain c =
    omega (
      arith,
      every_le c.args.forward c.loop-label.label,
      every_le c.args.against c.loop-label.label,
      c.every_if-plain.ensures,
      c.every_if-inverted.ensures,
    )

pub loop-label-preserved : goal.loop-label-preserved
loop-label-preserved c =
    let l = c.loop-label in
    let p = c.every_if-plain in
    let t = c.every_if-inverted in
    elim c.if-plain-inverted-ne0.branch [
      | then-plain-inverted-ne0 v ↦ record {
        inside = omega arith;
        cells_as_long = omega (arith, c.if-plain-inverted-ne0.auto.cells, l.invariant.cells_as_long);
        masks_as_long = omega (arith, c.if-plain-inverted-ne0.auto.masks, l.invariant.masks_as_long);
        put_below =
            subst (λ (x : List ℕ).
            PutBelow c.args.n c.args.w c.args.links.now c.args.forward c.args.against c.args.cells.now c.args.masks.now x c.if-plain-inverted-ne0.masks
            (l.label + 1))
            (sym v.cells-is)
            (subst (λ (x : List ℕ).
            PutBelow c.args.n c.args.w c.args.links.now c.args.forward c.args.against c.args.cells.now c.args.masks.now v.put_letters.new.cells x
            (l.label + 1)) (sym v.masks-is)
            (put_more c.args.n c.args.w c.args.links.now c.args.forward c.args.against c.args.cells.now c.args.masks.now l.label
            _ _ l.cells l.masks p.ensures t.ensures l.invariant.put_below _ _ _ v.label_part-part.ensures v.put_letters.ensures));
      }
      | else-plain-inverted-ne0 v ↦ record {
        inside = omega arith;
        cells_as_long = omega (arith, c.if-plain-inverted-ne0.auto.cells, l.invariant.cells_as_long);
        masks_as_long = omega (arith, c.if-plain-inverted-ne0.auto.masks, l.invariant.masks_as_long);
        put_below =
            subst (λ (x : List ℕ).
            PutBelow c.args.n c.args.w c.args.links.now c.args.forward c.args.against c.args.cells.now c.args.masks.now x c.if-plain-inverted-ne0.masks
            (l.label + 1))
            (sym v.cells-is)
            (subst (λ (x : List ℕ).
            PutBelow c.args.n c.args.w c.args.links.now c.args.forward c.args.against c.args.cells.now c.args.masks.now l.cells x (l.label + 1))
            (sym v.masks-is)
            (put_same c.args.n c.args.w c.args.links.now c.args.forward c.args.against c.args.cells.now c.args.masks.now l.label
            _ _ l.cells l.masks p.ensures t.ensures l.invariant.put_below (let h = v.if-plain-inverted-ne0.false in omega arith)));
      }
    ]

pub returns : goal.returns
returns c = put_ends c.args.n c.args.w c.args.links.now c.args.forward c.args.against c.args.cells.now c.args.masks.now c.loop-label.label
    c.loop-label.cells c.loop-label.masks (omega arith) c.loop-label.invariant.put_below
