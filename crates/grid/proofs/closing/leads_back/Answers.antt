-- `leads_back` reads a digit of the mask and one of the word. Assumes nothing.
use mathlib.Core.Path.{◌≡◌, refl, ◌∙◌}
use Prim.Native.Nat.{◌/◌}
use native.Mathlib.Omega.{arith}
use borrow.Author.Tests.{eqb-true}
use Rattle.k2.specs.Bits.{digit}
use Rattle.grid.proofs.RowLaws.{row_in}
use Rattle.grid.proofs.closing.leads_back.Goals as goal

pub returns : goal.returns
unfolding digit
returns c = λ e.
    let a = c.args in
    let d : digit a.mask (a.x / 64) ≡ 1 = omega (arith, c.if-mask-c-ne1.false) in
    (omega (arith, c.if-whole-ne1.false), row_in a.cells.now a.b a.mask (a.x / 64) a.x refl d ∙ eqb-true _ _ e)
