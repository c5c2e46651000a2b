-- `close_rows` closes the rows with masks of the words that are not empty: clean words, which are the rows of the set (`masked_clean`, `clean_flat`). Assumes
-- nothing.
use mathlib.Core.Path.{ap, ◌∙◌}
use Rattle.k2.specs.PairSets.{closure}
use Rattle.rows.specs.Rows.{flat}
use Rattle.grid.proofs.ClosureLaws.{clean_flat, masked_set, masked_clean}
use Rattle.grid.proofs.closing.close_rows.Goals as goal

pub returns : goal.returns
returns c =
    let after-close-all = c in
    let after-mask-rows = after-close-all in
    let start = after-mask-rows in
    λ x S e.
    let a = start.args in
    let nl = start.requires.0 in
    let M = after-mask-rows.mask_rows.ensures in
    let z = after-close-all.close_all.ensures in
    clean_flat a.n _ _ (z.1 (masked_clean a.n x a.rows.now _ nl S e M))
    ∙ ap flat (z.0 ∙ ap (closure a.n) (masked_set a.n x a.rows.now _ nl S e M))
