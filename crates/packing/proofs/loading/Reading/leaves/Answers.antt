-- `leaves` puts the cells of one square of side 2 after another. The loop's invariant: the cells of the squares passed are in the rows. It rests on
-- `reads_cell`. Assumes nothing.
use Rattle.std.proofs.Common.{refl, ap, sym, ◌∙◌, List, [], take, take_all}
use Rattle.k2.specs.PairSets.{Cells, union}
use Rattle.rows.specs.Rows.{flat}
use Rattle.rows.specs.RowLaws.{union_join}
use Rattle.packing.specs.declared.loading.Square.{Square}
use Rattle.packing.specs.Reading.{squares_of}
use Rattle.packing.proofs.LoadLaws.{reads_cell}
use Rattle.packing.proofs.SquareLaws.{squares_none, squares_more}
use Rattle.packing.proofs.loading.Reading.leaves.Goals as goal

pub loop-at-init : goal.loop-at-init
loop-at-init g c = (refl, λ s u e n. e ∙ ap flat (squares_none 1 [] u s refl))

pub loop-at-preserved : goal.loop-at-preserved
loop-at-preserved g c =
    let l = c.loop-at in
    let t = c.args.self.now in
    let ws = c.args.squares.now in
    let p = c.put_cells in (
      p.auto.rows ∙ l.invariant.0,
      λ s u e n.
          let S : Cells = squares_of 1 (take l.at-index ws) u in
          p.ensures (union s S) u (l.invariant.1 s u e n)
          (λ q h. c.four.ensures.1 q h ∙ reads_cell t.sense t.tree.now _ _ _ u (n l.at-index _ c.loop-at-test.true) q h)
          ∙ ap flat (union_join s S _ ∙ ap (union s) (sym (squares_more 1 ws l.at-index _ u c.loop-at-test.true))),
    )

pub returns : goal.returns
returns g c =
    let l = c.loop-at in
    let ws = c.args.squares.now in
    λ s u e n. l.invariant.1 s u e n ∙ ap (λ (m : List Square). flat (union s (squares_of 1 m u))) (take_all l.at-index ws c.loop-at-test.false)
