-- One record more is done (`settled_more`). Assumes nothing.
use Rattle.std.proofs.Common.{arith, ◌∙◌, ap, ℕ, length}
use Rattle.std.proofs.lemmas.List.{length-replicate}
use Rattle.k2.specs.BitLaws.{zeros_at}
use Rattle.generations.proofs.DepthLaws.{settled_none, settled_more}
use Rattle.generations.proofs.depths.visit_all.Goals as goal

pub index_by_reached-requires : goal.index_by_reached-requires
index_by_reached-requires c = (omega arith, omega (arith, length-replicate {A = ℕ} 9216 0), zeros_at 9216)

pub loop-y-init : goal.loop-y-init
loop-y-init c = record {
  inside = omega arith;
  depths_long = ap length c.requires.2 ∙ length-replicate {A = ℕ} 1024 0;
  settled = settled_none 1024 c.requires.2;
}

pub loop-y-preserved : goal.loop-y-preserved
loop-y-preserved c = record {
  inside = omega arith;
  depths_long = c.visit.auto.depths ∙ c.loop-y.invariant.depths_long;
  settled = settled_more c.loop-y.invariant.settled c.visit.ensures c.if-visit-eq-ENTERED.false;
}
