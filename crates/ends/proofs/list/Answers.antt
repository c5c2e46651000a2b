-- One record more is looked at: what `write` gives (`Grown`), and `places_next`.
use Rattle.std.proofs.Common.{◌≡◌, refl, sym, ◌∙◌, arith}
use Rattle.rows.specs.RowLaws.{length-places}
use Rattle.rows.specs.Rows.{places}
use Rattle.answers.specs.ListingLaws.{shown_none}
use Rattle.ends.specs.Listing.{meets}
use Rattle.ends.proofs.ListLaws.{places_next}
use Rattle.ends.proofs.list.Goals as goal

pub loop-y-init : goal.loop-y-init
unfolding places
loop-y-init c = record { as_long = refl; inside = omega arith; t_is = refl; shown = shown_none _ }

pub write-t-requires : goal.write-t-requires
write-t-requires c =
    let h = length-places (meets c.args.seen.now c.args.states) c.loop-y.y in
    omega (arith, c.loop-y.invariant.t_is, c.requires.1)

pub loop-y-preserved : goal.loop-y-preserved
unfolding meets
loop-y-preserved c =
    let l = c.loop-y in
    let s = c.args in
    let W = c.write-t in
    let o = W.ensures (places (meets s.seen.now s.states) l.y) s.out.now (sym l.invariant.t_is) (sym l.invariant.as_long) l.invariant.shown in
    let next = places_next (meets s.seen.now s.states) l.y in
    record { as_long = W.auto.out ∙ l.invariant.as_long; inside = omega arith; t_is = rw next o.0; shown = rw next o.1 }

pub returns : goal.returns
returns c =
    let l = c.loop-y in
    let z : l.y ≡ c.args.n = omega arith in
    rw (sym z) (l.invariant.t_is, l.invariant.shown)
