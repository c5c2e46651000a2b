-- `cells_at`: the loop's invariant is that the words of the line are the k found, and then those of the cells from cell k on; the measure is how many cells are
-- left. A turn is one cell more (`cells_next`), a blank cell the end (`cells_end`). Assumes nothing.
use mathlib.Core.Path.{◌≡◌, ap, sym, ◌∙◌}
use mathlib.Core.List.{List, [], ◌∷◌, ◌++◌, append-nil, append_assoc}
use Prim.Native.Nat.{ℕ, ◌+◌, ◌-◌, ◌*◌, ◌<◌}
use native.Mathlib.Numerals.{add-one}
use native.Mathlib.Omega.{arith}
use lib.ListN.{length, take, drop, set, length-set}
use lib.Seq.{take-suc-set}
use Rattle.pages.specs.Lines.{cell_words}
use Rattle.pages.proofs.ReadingLaws.{cells_end, cells_next}
use Rattle.pages.proofs.reading.cells_at.Goals as goal

pub returns-then-pages-cell-eq32 : goal.returns-then-pages-cell-eq32
returns-then-pages-cell-eq32 c =
    let here = c.loop-k in (
      here.invariant.inside,
      sym (here.invariant.found ∙ ap (λ (t : List ℕ). take here.k here.words ++ t)
          (cells_end c.args.pages.now c.args.at here.k c.loop-k-test.true c.if-pages-cell-eq32.true)
          ∙ append-nil (take here.k here.words)),
    )

pub loop-k-preserved : goal.loop-k-preserved
loop-k-preserved c =
    let here = c.loop-k in
    let l = c.args.pages.now in
    let h = c.loop-k-test.true in
    let w = c.cell_at.result in
    let rest = cell_words (6 - (here.k + 1)) (drop (c.args.at + 12 * (here.k + 1)) l) in
    let n : here.k < length here.words = omega (arith, c.requires.1, here.invariant.as_long) in
    record {
      inside = omega arith;
      as_long = simp length-set here.invariant.as_long;
      found = here.invariant.found ∙ ap (λ (t : List ℕ). take here.k here.words ++ t)
          (cells_next l c.args.at here.k h c.if-pages-cell-eq32.false ∙ ap (λ (v : ℕ). v ∷ rest) (sym c.cell_at.ensures))
          ∙ sym (append_assoc (take here.k here.words) (w ∷ []) rest)
          ∙ ap (λ (t : List ℕ). t ++ rest) (sym (take-suc-set here.words here.k w n)
          ∙ ap (λ (i : ℕ). take i (set here.words here.k w)) (sym (add-one here.k)));
    }

pub returns : goal.returns
unfolding cell_words
returns c =
    let here = c.loop-k in
    let z : 6 - here.k ≡ 0 = omega (arith, c.loop-k-test.false) in (
      here.invariant.inside,
      sym (here.invariant.found ∙ ap (λ (f : ℕ). take here.k here.words ++ cell_words f (drop (c.args.at + 12 * here.k) c.args.pages.now)) z
          ∙ append-nil (take here.k here.words)),
    )
