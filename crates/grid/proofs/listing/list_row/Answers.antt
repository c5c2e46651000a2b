-- `list_row` goes over the words in the mask. The loop's invariant: the columns before the next word are written. It rests on `cut_word` and `cut_gap`.
-- Assumes nothing.
use Rattle.std.proofs.Common.{◌≡◌, ℕ, ◌+◌, ◌*◌, ap, ◌∙◌, arith}
use Rattle.answers.specs.ListingLaws.{grown_none, grown_more, grown_to}
use Rattle.grid.specs.Grid.{row_of}
use Rattle.grid.specs.Steps.{cut_row, columns}
use Rattle.grid.proofs.OnesLaws.{begun, went}
use Rattle.grid.proofs.ListingLaws.{columns_none, columns_gap, cut_gap, cut_word, cut_all}
use Rattle.grid.proofs.listing.list_row.Goals as goal

pub loop-c-init : goal.loop-c-init
loop-c-init c =
    let a = c.args in
    let B = begun c.into_iter-c-iterator.ensures.into_iter_gives c.of-c-items.ensures in
    let f : ℕ → ℕ = cut_row a.n (row_of a.cells.now (a.x * a.w) a.mask) in (
      B.0,
      omega arith,
      grown_none a.t _ a.out.now
          (columns_gap f (a.x * 1024) 0 _ (omega arith) (cut_gap a.n a.w (a.x * a.w) a.mask a.x a.cells.now 0 _ B.1.gap)
          ∙ columns_none f (a.x * 1024)),
    )

pub loop-c-preserved : goal.loop-c-preserved
loop-c-preserved c =
    let a = c.args in
    let l = c.loop-c in
    let k = c.in-Some.c in
    let S = went c.next.new.self l.invariant.0 c.in-Some.ensures.steps in
    let W = c.list_word-s in
    let f : ℕ → ℕ = cut_row a.n (row_of a.cells.now (a.x * a.w) a.mask) in
    let at : (k + 1) * 64 ≡ k * 64 + 64 = omega arith in (
      S.left,
      omega (arith, S.here, S.inside, S.next.low, l.invariant.1, W.ensures.0),
      grown_more a.t l.s W.result _ _ _ a.out.now l.out _ l.auto.out (rw S.here at l.invariant.2) W.ensures.1
          (columns_gap f (a.x * 1024) ((k + 1) * 64) _ (omega (arith, S.next.low))
          (cut_gap a.n a.w (a.x * a.w) a.mask a.x a.cells.now (k + 1) _ S.next.gap)
          ∙ ap (columns f (a.x * 1024)) at
          ∙ cut_word a.n a.w (a.x * a.w) a.mask a.x a.cells.now k
          c.cut-word.result S.is_one c.cut-word.ensures (a.x * 1024)),
    )

pub returns : goal.returns
returns c =
    let a = c.args in
    let l = c.loop-c in
    let wc = rw l.invariant.0.end_is at c.in-None.ensures.steps.1 in (
      omega (arith, l.invariant.1),
      grown_to a.t l.s _ _ a.out.now l.out (cut_all a.n a.w (a.x * a.w) a.mask a.x a.cells.now _ (a.x * 1024) (omega arith)) l.invariant.2,
    )
