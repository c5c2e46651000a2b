-- `same_line`: the loop's invariant is that the first i bytes are the same; the measure is how many are left. Assumes nothing.
use mathlib.Core.Path.{◌≡◌, ap, sym, ◌∙◌}
use mathlib.Core.List.{List}
use Prim.Native.Nat.{ℕ}
use native.Mathlib.Omega.{arith}
use lib.ListN.{drop, get_or}
use lib.Seq.{get_or-drop, get_or-take}
use Rattle.pages.proofs.reading.same_line.Goals as goal

pub returns-then-pages-at : goal.returns-then-pages-at
returns-then-pages-at c =
    let here = c.loop-i in
    let l = c.args.pages.now in (
      λ e. absurd (let z : ◌≡◌ {A = ℕ} 0 1 = cc in omega arith),
      λ e. absurd (c.if-pages-at.true
          (sym (get_or-take 73 (drop c.args.at l) here.i 0 (omega (arith, c.loop-i-test.true))
          ∙ get_or-drop c.args.at l here.i 0) ∙ ap (λ (t : List ℕ). get_or t here.i 0) e)),
    )
