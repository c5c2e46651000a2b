-- `spread` writes the quarters of one square after another. The loop's invariant: those of the squares passed are at the front of `next`. Assumes nothing.
use Rattle.std.proofs.Common.{refl, ap, sym, ◌∙◌, List, take_all, arith}
use Rattle.std.proofs.lemmas.List.Elements.{All-nil}
use Rattle.packing.specs.declared.loading.Square.{Square}
use Rattle.packing.specs.Reading.{squares_of}
use Rattle.packing.proofs.SquareLaws.{squares_more}
use Rattle.packing.proofs.loading.Reading.spread.Goals as goal

pub loop-at-init : goal.loop-at-init
unfolding squares_of
loop-at-init g c = record { few = omega arith; as_long = refl; fit = All-nil _; read = λ u n. (All-nil _, refl) }

pub loop-at-preserved : goal.loop-at-preserved
loop-at-preserved g c =
    let l = c.loop-at in
    let a = c.args in
    let p = c.children-m in
    record {
      few = omega (arith, p.ensures.0);
      as_long = p.auto.next ∙ l.invariant.as_long;
      fit = p.ensures.1;
      read = λ u n.
          let R = l.invariant.read u n in
          let C = p.ensures.2 u (n l.at-index _ c.loop-at-test.true) R.0 in
          (C.0, C.1 ∙ rw R.1 (sym (squares_more a.h a.squares.now l.at-index _ u c.loop-at-test.true)));
    }

pub returns : goal.returns
returns g c =
    let l = c.loop-at in
    let a = c.args in (
      omega arith,
      l.invariant.fit,
      λ u n. let R = l.invariant.read u n in
          (R.0, R.1 ∙ ap (λ (m : List Square). squares_of a.h m u) (take_all l.at-index a.squares.now c.loop-at-test.false)),
    )
