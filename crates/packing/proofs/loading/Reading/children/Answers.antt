-- `children` goes from one quarter that is not empty to the next and writes its square. The loop's invariant: the quarters passed that are not empty are
-- behind the m squares, and the quarter reached, if there is one, is not empty. The measure is the quarters left. It rests on `descend_child`,
-- `descend_gap` and `descend_all`. Assumes nothing.
use Rattle.std.proofs.Common.{◌≡◌, refl, sym, ap, subst, ◌∙◌, List, [], ◌∷◌, ◌++◌, ◌+◌, ◌-◌, ◌*◌, ◌/◌, ◌%◌, ◌^◌, ◌<◌, length, take, set, arith, length-set}
use Rattle.std.proofs.Common.{lt_of_lt_of_le}
use Rattle.std.proofs.lemmas.List.{take_more_set}
use Rattle.std.proofs.lemmas.List.Elements.{All-push}
use Rattle.k2.specs.Bits.{bit_at}
use Rattle.k2.specs.BitLaws.{bit_within}
use Rattle.k2.specs.PairSets.{Cells, union}
use Rattle.k2.specs.Trees.{child_place}
use Rattle.packing.specs.declared.loading.Square.{Square}
use Rattle.packing.specs.Reading.{turned, Reads, squares_of, SquareIn, AllFit, AllRead}
use Rattle.packing.proofs.LoadLaws.{one-le, quarters_none, quarters_more, quarter_in, quarter_even, descend_child, descend_gap, descend_all}
use Rattle.packing.proofs.SquareLaws.{squares_push}
use Rattle.packing.proofs.loading.Reading.children.Goals as goal

-- the quarter is in the rows
pub loop-q-init : goal.loop-q-init
loop-q-init g c =
    let a = c.args in
    let f = c.next_one-q.ensures in
    let v = c.four-v.ensures.1 in
    record {
      in_four = f.in_four;
      not_empty = f.one_there;
      few = omega arith;
      as_long = refl;
      fit = c.requires.2.fit;
      read = λ u n r.
          let S : Cells = squares_of (a.h - 1) (take a.m a.next.now) u in (
            r,
            quarters_none (a.h - 1) a.at.row a.at.column u S
                ∙ descend_gap a.self.now.sense a.self.now.tree.now a.h a.at.bit a.at.row a.at.column u S
                (one-le c.requires.0.level_least) n 0 c.next_one-q.result f.from_here f.in_four
                (λ j l m. sym (v j (lt_of_lt_of_le m f.in_four)) ∙ f.zeros j l m),
          );
    }

pub child-requires : goal.child-requires
child-requires g c =
    let a = c.args in
    let l = c.loop-q in
    let u = c.turn in
    let o : bit_at a.self.now.tree.now (a.at.bit + u.result) ≡ 1 =
    rw u.ensures.0 (sym (c.four-v.ensures.1 l.q c.loop-q-test.true) ∙ l.invariant.not_empty c.loop-q-test.true) in
    (omega arith, bit_within a.self.now.tree.now (a.at.bit + u.result) (λ z. omega arith))

pub loop-q-preserved : goal.loop-q-preserved
loop-q-preserved g c =
    let l = c.loop-q in
    let a = c.args in
    let t = a.self.now in
    let s = c.half-s in
    let ql = c.loop-q-test.true in
    let hp = one-le c.requires.0.level_least in
    let v = c.four-v.ensures.1 in
    let f = c.next_one-q-in-loop-q.ensures in
    let d = c.child in
    let k : l.k < length l.next = omega arith in
    let z = quarter_in l.q s.result (2 ^ a.h) a.at.row a.at.column ql s.ensures.1 c.requires.1.rows_in c.requires.1.columns_in in
    let w : Square = record { bit = d.result; row = a.at.row + l.q / 2 * s.result; column = a.at.column + l.q % 2 * s.result } in
    let F : SquareIn (a.h - 1) w.bit w.row w.column = record {
      bit_of_four = unfold child_place in (omega (arith, d.ensures.0));
      bit_most = d.ensures.1;
      rows_in = rw (← s.ensures.0) z.0;
      columns_in = rw (← s.ensures.0) z.1;
      column_even = quarter_even (l.q % 2) s.result a.at.column (omega arith) s.ensures.2 c.requires.1.column_even;
    } in
    let e : take (l.k + 1) (set l.next l.k w) ≡ take l.k l.next ++ (w ∷ []) = take_more_set l.next l.k w k in
    record {
      in_four = f.in_four;
      not_empty = f.one_there;
      few = omega arith;
      as_long = length-set l.next l.k w ∙ l.invariant.as_long;
      fit = subst (AllFit (a.h - 1)) (sym e) (All-push (λ (w : Square). SquareIn (a.h - 1) w.bit w.row w.column) (take l.k l.next) w l.invariant.fit F);
      read = λ u n r.
          let R = l.invariant.read u n r in
          let o : bit_at t.tree.now (a.at.bit + turned t.sense l.q) ≡ 1 = sym (v l.q ql) ∙ l.invariant.not_empty ql in
          let D : Reads t.sense t.tree.now (a.h - 1) w.bit w.row w.column u =
          rw (s.ensures.0, d.ensures.0, c.turn.ensures.0)
          (descend_child t.sense t.tree.now a.h a.at.bit a.at.row a.at.column u hp n l.q ql o) in
          let S : Cells = squares_of (a.h - 1) (take a.m a.next.now) u in (
            subst (λ (m : List Square). AllRead t.sense t.tree.now (a.h - 1) m u) (sym e)
                (All-push (λ (w : Square). Reads t.sense t.tree.now (a.h - 1) w.bit w.row w.column u) (take l.k l.next) w R.0 D),
            ap (λ (m : List Square). squares_of (a.h - 1) m u) e
                ∙ squares_push (a.h - 1) (take l.k l.next) w u
                ∙ rw (s.ensures.0, R.1) (quarters_more l.q (a.h - 1) a.at.row a.at.column u S)
                ∙ descend_gap t.sense t.tree.now a.h a.at.bit a.at.row a.at.column u S hp n (l.q + 1)
                c.next_one-q-in-loop-q.result f.from_here f.in_four (λ j p q. sym (v j (lt_of_lt_of_le q f.in_four)) ∙ f.zeros j p q),
          );
    }

pub returns : goal.returns
returns g c =
    let l = c.loop-q in
    let a = c.args in
    let z : l.q ≡ 4 = omega arith in (
      omega arith,
      l.invariant.fit,
      λ u n r. let R = l.invariant.read u n r in (
        R.0,
        R.1 ∙ rw z (ap (union (squares_of (a.h - 1) (take a.m a.next.now) u))
            (descend_all a.h a.at.row a.at.column u (one-le c.requires.0.level_least))),
      ),
    )
