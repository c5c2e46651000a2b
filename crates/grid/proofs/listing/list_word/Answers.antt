-- `list_word` goes over the ones of a word. The loop's invariant: those before the next are written, and s is the place after them. Assumes nothing.
use Rattle.std.proofs.Common.{◌≡◌, ◌+◌, min, ◌∙◌, arith}
use Rattle.k2.specs.Bits.{digit}
use Rattle.answers.specs.ListingLaws.{grown_none, grown_more}
use Rattle.grid.specs.Steps.{low}
use Rattle.grid.proofs.OnesLaws.{begun, went}
use Rattle.grid.proofs.ListingLaws.{columns_none, columns_hit, columns_gap}
use Rattle.grid.proofs.listing.list_word.Goals as goal

pub loop-k-init : goal.loop-k-init
loop-k-init c =
    let a = c.args in
    let B = begun c.into_iter-k-iterator.ensures.into_iter_gives c.of-k-items.ensures in (
      B.0,
      omega arith,
      grown_none a.t _ a.out.now
          (columns_gap (digit a.word) a.at 0 _ (omega arith) (λ j h l. B.1.gap j h (omega arith)) ∙ columns_none (digit a.word) a.at),
    )

pub loop-k-preserved : goal.loop-k-preserved
loop-k-preserved c =
    let a = c.args in
    let l = c.loop-k in
    let k = c.in-Some.k in
    let S = went c.next.new.self l.invariant.0 c.in-Some.ensures.steps in
    let m : min k 64 ≡ k = omega (arith, S.inside) in (
      S.left,
      omega (arith, S.here, S.inside, S.next.low, l.invariant.1),
      grown_more a.t l.s (l.s + 1) _ _ _ a.out.now l.out _ l.auto.out (rw (S.here, m) at l.invariant.2) c.put_u32.ensures
          (columns_gap (digit a.word) a.at (k + 1) _ (omega (arith, S.inside, S.next.low)) (λ j h l. S.next.gap j h (omega arith))
          ∙ columns_hit (digit a.word) a.at k S.is_one),
    )

pub returns : goal.returns
returns c =
    let l = c.loop-k in
    let h = rw l.invariant.0.end_is at c.in-None.ensures.steps.1 in
    let m : min (low l.k-iterator.left) 64 ≡ 64 = omega arith in
    (omega (arith, l.invariant.1), rw m at l.invariant.2)
