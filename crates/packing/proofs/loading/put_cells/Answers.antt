-- `put_cells` puts two cells into a row and two into the next (`four_cells`). Assumes nothing.
use mathlib.Core.Path.{ap, ◌∙◌}
use Prim.Native.Nat.{ℕ, ◌+◌, ◌*◌, ◌/◌, ◌%◌}
use Rattle.k2.specs.DigitLaws.{shifted}
use Rattle.bits.specs.BitSets.{either}
use Rattle.packing.proofs.LoadLaws.{four_cells}
use Rattle.packing.proofs.loading.put_cells.Goals as goal

pub returns : goal.returns
returns c =
    let a = c.args in
    let p = c.requires in
    λ s t e d.
    c.or_two-2.ensures
    ∙ ap (λ (f : ℕ → ℕ). either f (shifted ((a.x + 1) * 1024 + a.y) (a.v / 4)))
    (c.or_two.ensures ∙ ap (λ (f : ℕ → ℕ). either f (shifted (a.x * 1024 + a.y) (a.v % 4))) e)
    ∙ four_cells s a.x a.y a.v t p.column_in p.four_bits d
