-- `squares` lends row i by itself, whose bits are those of the rows from there on (`row_bits`). Assumes nothing.
use mathlib.Core.Path.{sym, ◌∙◌}
use Prim.Native.Nat.{◌+◌, ◌-◌, ◌*◌}
use native.Mathlib.Omega.{arith}
use Rattle.rows.proofs.SearchLaws.{row_bits}
use Rattle.rows.proofs.squares.Goals as goal

pub returns : goal.returns
returns c =
    let a = c.args in
    let m = c.filled_words.ensures in
    (m.0, λ k h e. sym (row_bits a.rows.now a.i (a.i * 16 + 16 - a.i * 16) k (omega arith)) ∙ m.1 k h e)
