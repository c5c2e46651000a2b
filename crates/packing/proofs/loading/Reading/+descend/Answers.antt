-- `descend` writes the quarters of its squares and goes on with these, sixteen at a time. The loop's invariant: the cells of the quarters passed are in the
-- rows, and those that are left make the whole. The measure of the calls is h. Assumes nothing.
use Rattle.std.proofs.Common.{◌≡◌, refl, sym, ap, subst, ◌∙◌, List, ℕ, ◌-◌, length, take, arith, rules}
use Rattle.k2.specs.PairSets.{Cells, union}
use Rattle.rows.specs.Rows.{flat}
use Rattle.packing.specs.declared.loading.Square.{Square}
use Rattle.packing.specs.Reading.{Reads, squares_of, SquareIn, AllFit}
use Rattle.packing.proofs.SquareLaws.{squares_none, squares_parted, all_parted}
use Rattle.packing.proofs.loading.Reading.+descend.Goals as goal

pub loop-some-init : goal.loop-some-init
loop-some-init g t c =
    let i = c.into_iter-some-iterator in
    let k = c.chunks-some-items.ensures in
    let e : i.result.rest.now ≡ take c.spread-m.result c.spread-m.new.next = rw i.ensures.into_iter_gives k.rest in
    record {
      sixteen = rw i.ensures.into_iter_gives k.size;
      as_long = refl;
      fit = subst (AllFit (c.args.h - 1)) (sym e) c.spread-m.ensures.1;
      read = λ a u r n. (n, (a, r, refl));
    }

pub descend-requires-whole : goal.descend-requires-whole
descend-requires-whole g t c κs =
    let l = c.loop-some in
    let s = c.in-Some.ensures.steps in
    let P : Square → Type 0 = λ w. SquareIn (c.args.h - 1) w.bit w.row w.column in (
      omega arith,
      (
        search rules,
        (
          omega arith,
          (
            record { level_least = omega arith; level_most = omega arith },
            record { few = omega (arith, s.1.1, l.invariant.sixteen); fit = (all_parted P _ _ _ s.1.0 l.invariant.fit).0 },
            omega arith,
          ),
        ),
      ),
    )

pub loop-some-preserved : goal.loop-some-preserved
loop-some-preserved g t c =
    let l = c.loop-some in
    let d = c.args.self.now in
    let h : ℕ = c.args.h - 1 in
    let s = c.in-Some.ensures.steps in
    let P : Square → Type 0 = λ w. SquareIn h w.bit w.row w.column in
    record {
      sixteen = s.0 ∙ l.invariant.sixteen;
      as_long = c.descend.auto.rows ∙ l.invariant.as_long;
      fit = (all_parted P _ _ _ s.1.0 l.invariant.fit).1;
      read = λ a u r n.
          let R = l.invariant.read a u r n in
          let Q : Square → Type 0 = λ w. Reads d.sense d.tree.now h w.bit w.row w.column u in
          let A = all_parted Q _ _ _ s.1.0 R.0 in
          let b : Cells = R.1.0 in
          (A.1, (union b (squares_of h c.in-Some.some.now u), c.descend.ensures b u R.1.1 A.0, squares_parted h _ _ _ u b s.1.0 ∙ R.1.2));
    }

pub returns : goal.returns
returns g t c =
    let l = c.loop-some in
    let h : ℕ = c.args.h - 1 in
    let i = c.into_iter-some-iterator in
    let e : i.result.rest.now ≡ take c.spread-m.result c.spread-m.new.next = rw i.ensures.into_iter_gives c.chunks-some-items.ensures.rest in
    let z : length l.some-iterator.rest.now ≡ 0 = c.in-None.ensures.steps.1.0 in
    λ a u r n.
    let S = c.spread-m.ensures.2 u n in
    let R = l.invariant.read a u r (rw e S.0) in
    let b : Cells = R.1.0 in
    R.1.1 ∙ ap flat (squares_none h _ u b z ∙ R.1.2 ∙ ap (union a) (ap (λ (m : List Square). squares_of h m u) e ∙ S.1))
