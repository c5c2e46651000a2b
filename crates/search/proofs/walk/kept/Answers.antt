-- The lowest state is kept, or taken out.
use Rattle.std.proofs.Common.{◌≡◌, arith}
use Rattle.k2.specs.DigitLaws.{one_shl}
use Rattle.search.specs.Levels.{number_at}
use Rattle.automaton.proofs.LowestLaws.{lowest}
use Rattle.search.proofs.MarkLaws.{kept_out, sifted_same, sifted_out, sifted_kept}
use Rattle.search.proofs.walk.kept.Goals as goal
use Rattle.search.proofs.walk.kept.Goals.{then-work-at, else-work-at}

pub returns-then-n-at : goal.returns-then-n-at
returns-then-n-at c = kept_out _ _ _ _ _ c.if-n-at.true

pub loop-left-preserved : goal.loop-left-preserved
unfolding number_at
loop-left-preserved c =
    let l = c.loop-left in
    let L = lowest l.left (omega arith) l.invariant.0 in
    elim c.if-work-at.branch [
      | then-work-at w ↦ (omega (arith, L.falls), rw (w.found-is, one_shl _ L.small) (sifted_out l.invariant.1 L w.if-work-at.true))
      | else-work-at w ↦ (omega (arith, L.falls), rw w.found-is (sifted_same l.invariant.1 L w.if-work-at.false))
    ]

pub returns : goal.returns
returns c = let e : c.loop-left.left ≡ 0 = omega arith in sifted_kept (omega arith) (omega arith) (rw e at c.loop-left.invariant.1)
