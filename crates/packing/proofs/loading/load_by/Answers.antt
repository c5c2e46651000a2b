-- `load_by` counts the ones before each block and reads the tree from its first square on (`reads_tree`). Assumes nothing.
use Rattle.std.proofs.Common.{ap, ◌∙◌, [], arith}
use Rattle.std.proofs.lemmas.List.Elements.{All-cons, All-nil}
use Rattle.std.proofs.Math.Pow.{pow_mono}
use Rattle.k2.specs.PairSets.{Cells, union}
use Rattle.rows.specs.Rows.{flat}
use Rattle.packing.specs.declared.loading.Square.{Square}
use Rattle.packing.specs.Senses.{sensed}
use Rattle.packing.specs.SenseLaws.{sensed_set}
use Rattle.packing.specs.Reading.{SquareIn, Reads}
use Rattle.packing.proofs.LoadLaws.{reads_tree, inside_all}
use Rattle.packing.proofs.SquareLaws.{root_fits, root_squares}
use Rattle.packing.proofs.loading.load_by.Goals as goal

pub descend-requires : goal.descend-requires
descend-requires g c =
    let h = c.height in
    let P : Square → Type 0 = λ w. SquareIn h.result w.bit w.row w.column in (
      omega arith,
      (
        record { level_least = h.ensures.1; level_most = h.ensures.2 },
        record { few = omega arith; fit = All-cons P _ [] (root_fits h.result (pow_mono {j = 10} h.ensures.2)) (All-nil P) },
        omega arith,
      ),
    )

pub returns : goal.returns
returns g c =
    let h = c.height in
    let a = c.args in
    λ s x is e r.
    let t : Cells = sensed a.sense s in
    let Q : Square → Type 0 = λ w. Reads a.sense a.tree.now h.result w.bit w.row w.column t in
    c.descend.ensures x t r (All-cons Q _ [] (reads_tree a.sense a.n h.result a.tree.now s h.ensures.0 is e) (All-nil Q))
    ∙ ap (λ (u : Cells). flat (union x u)) (root_squares h.result _ t ∙ inside_all a.n h.result t h.ensures.3 (sensed_set a.sense a.n s is))
