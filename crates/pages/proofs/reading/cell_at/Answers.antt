-- `cell_at`: the two numbers. Assumes nothing.
use mathlib.Core.Path.{◌≡◌, ap, ap₂, sym, ◌∙◌}
use mathlib.Core.List.{List}
use Prim.Native.Nat.{ℕ, ◌+◌, ◌*◌}
use native.Mathlib.Omega.{arith}
use lib.ListN.{take, drop}
use lib.Seq.{drop-drop}
use Rattle.pages.specs.Lines.{value, cell_word}
use Rattle.pages.proofs.reading.cell_at.Goals as goal

pub returns : goal.returns
unfolding cell_word
returns c =
    let l = c.args.pages.now in
    let e : c.args.at + 5 + 1 ≡ c.args.at + 6 = omega arith in
    ap₂ (λ (x y : ℕ). x * 1024 + y) c.record_at.ensures.0
    (c.record_at-2.ensures.0 ∙ ap (λ (n : ℕ). value (take 5 (drop n l))) e ∙ ap (λ (t : List ℕ). value (take 5 t)) (sym (drop-drop 6 c.args.at l)))
