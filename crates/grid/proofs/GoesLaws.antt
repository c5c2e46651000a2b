-- Laws of the steps of the closure: none, and one after another. Assumes nothing.
use Rattle.std.proofs.Common.{refl, ◌∙◌}
use Rattle.grid.specs.Closings.{Goes}
use Rattle.grid.specs.declared.state.Closing.{Closing}
use Rattle.grid.proofs.ClosureLaws.{onward_same, onward_next}

pub goes_same : (r : Closing) → Goes r r
goes_same r = record { records = refl; width = refl; cells = refl; masks = refl; onward = onward_same r.n r.w r.marks.now r.cells.now r.masks.now }

pub goes_next : {r s t : Closing} → Goes r s → Goes s t → Goes r t
goes_next {r} {s} {t} G H = record {
  records = H.records ∙ G.records;
  width = H.width ∙ G.width;
  cells = H.cells ∙ G.cells;
  masks = H.masks ∙ G.masks;
  onward = onward_next G.onward (rw (G.records, G.width) at H.onward);
}
