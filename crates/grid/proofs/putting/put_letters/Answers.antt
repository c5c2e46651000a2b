-- `put_letters` goes over the words. The loop's invariant: the pairs of the first i words are in. The measure is the words left. It rests on
-- `put_more` and `crossed_next`. Assumes nothing.
use mathlib.Core.Path.{refl, ap, ◌∙◌}
use mathlib.Core.List.{[], ◌∷◌}
use Prim.Native.Nat.{◌<◌}
use native.Mathlib.Omega.{arith}
use lib.ListN.{length, get_or}
use Rattle.k2.specs.PairSets.{Cells, union}
use Rattle.rows.specs.RowSets.{crossed_words}
use Rattle.grid.specs.Grid.{first, within}
use Rattle.grid.proofs.PairLaws.{union-empty, put_more, crossed_start, crossed_next}
use Rattle.grid.proofs.putting.put_letters.Goals as goal

pub loop-i-init : goal.loop-i-init
loop-i-init c =
    let a = c.args in
    record {
      inside = omega arith;
      cells_as_long = refl;
      masks_as_long = refl;
      put = union-empty a.n _ _ (crossed_start a.forward a.against);
    }

pub loop-i-preserved : goal.loop-i-preserved
loop-i-preserved c =
    let after-put-word = c in
    let at_loop = after-put-word in
    let start = at_loop in
    let a = start.args in
    let l = at_loop.loop-i in
    let p = after-put-word.put_word in
    let ws = a.words.now in
    let il : l.i < length ws = omega arith in
    let A : Cells = first a.n a.w a.cells.now a.masks.now in
    record {
      inside = omega arith;
      cells_as_long = p.auto.cells ∙ l.invariant.cells_as_long;
      masks_as_long = p.auto.masks ∙ l.invariant.masks_as_long;
      put = p.ensures ∙ ap (λ (s : Cells). union s (within a.n (crossed_words (get_or ws l.i 0 ∷ []) a.forward a.against))) l.invariant.put
          ∙ put_more a.n A _ _ ∙ ap (λ (s : Cells). union A (within a.n s)) (crossed_next ws l.i a.forward a.against il);
    }
