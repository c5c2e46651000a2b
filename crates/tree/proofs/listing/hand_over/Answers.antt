-- `hand_over` counts the pairs and writes those that the list takes. Assumes nothing.
use mathlib.Core.Path.{◌≡◌, ◌∙◌}
use mathlib.Core.List.{List}
use Prim.Native.Nat.{ℕ}
use lib.ListN.{length}
use Rattle.rows.specs.RowSets.{pairs_in}
use Rattle.answers.specs.AnswerLaws.{part_given}
use Rattle.answers.specs.ListingLaws.{shown_over}
use Rattle.tree.proofs.listing.hand_over.Goals as goal

pub returns : goal.returns
returns c =
    let a = c.args in
    let xs : List ℕ = pairs_in a.n a.rows.now in
    let k : c.count_pairs-total.result ≡ length xs = c.count_pairs-total.ensures in
    part_given xs a.out.now _ _ k (c.write_pairs.ensures ∙ shown_over xs a.out.now)
