-- The relation is left with masks of its own. Assumes nothing.
use Rattle.std.proofs.Common.{sym, ℕ, subst}
use Rattle.rowpairs.specs.Evaluation.{Held}
use Rattle.rowpairs.proofs.leaving.relate_over.Goals as goal

pub returns : goal.returns
returns c =
    let v = c.leave-answer in
    record {
      relating = record {
        leaves = v.ensures.0;
        held = λ n q. subst (λ (i : ℕ). Held n i) (sym v.auto.work) (v.ensures.1 n q).1;
        masks = v.auto.left;
      };
      size = λ n q. (v.ensures.1 n q).0;
    }
