-- `outcome_rows` has asked `room`; it loads the first operand into rows that hold nothing and combines them with the second. Assumes nothing.
use mathlib.Core.Path.{refl}
use Rattle.k2.specs.PairSets.{Cells}
use Rattle.rows.specs.RowSets.{no_pairs}
use Rattle.tree.specs.Inner.{valued}
use Rattle.tree.specs.InnerLaws.{valued_set}
use Rattle.tree.proofs.OperationLaws.{from_none}
use Rattle.tree.proofs.operations.outcome_rows.Goals as goal

pub returns : goal.returns
returns c =
    let g = c.args in
    let p = c.room.ensures.0 c.if-not-room.false in
    record {
      done = λ r. refl;
      rows = λ r a b l.
          let x : Cells = valued g.links.now g.term.first a in
          let i = valued_set g.n g.links.now g.term.first a p.trees.size l.first l.links in
          c.combine.ensures x b i l.second l.behind l.links
          (from_none x _ (c.load.ensures a no_pairs l.first l.front c.clear.ensures));
      left = λ f. absurd (f p);
    }
