-- `operate` packs the rows of the outcome, if there was room, which can be told (`room_or`). Assumes nothing.
use mathlib.Core.Path.{◌≡◌, ◌∙◌}
use lib.ListN.{length}
use Rattle.k2.specs.Bits.{bit_at}
use Rattle.k2.specs.BitLaws.{bit_lt}
use Rattle.k2.specs.PairSets.{Cells}
use Rattle.tree.specs.Inner.{term_set}
use Rattle.tree.specs.InnerLaws.{term-set}
use Rattle.tree.proofs.OperationLaws.{told_room, tree_at, pack_room}
use Rattle.tree.proofs.operations.operate.Goals as goal

pub pack-requires : goal.pack-requires
pack-requires c =
    let g = c.args in
    let p = told_room c.outcome_rows.ensures c.if-outcome_rows.true in
    let k : length c.outcome_rows.new.rows ≡ length g.rows.now = c.outcome_rows.auto.rows in
    (k ∙ p.bits, p.trees.size, pack_room g.n g.term (length g.work.now) p.trees)

pub returns-then-outcome_rows : goal.returns-then-outcome_rows
returns-then-outcome_rows c =
    let g = c.args in
    let p = told_room c.outcome_rows.ensures c.if-outcome_rows.true in
    let k = c.pack in
    record {
      most = k.ensures.0;
      tree = λ r a b l.
          let o : Cells = term_set g.term g.n g.links.now (bit_at g.used.now) a b in
          let i = term-set g.term g.n g.links.now (bit_at g.used.now) g.work.now a b p.trees.size (bit_lt g.used.now) l in
          tree_at g.n k.result o _ (k.ensures.1 o i (c.outcome_rows.ensures.rows r a b l));
      left = λ f. absurd (f p);
    }
