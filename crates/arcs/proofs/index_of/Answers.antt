-- The index of no arc, and of one arc more.
use Rattle.std.proofs.Common.{refl, arith, length-set}
use Rattle.arcs.specs.Index.{key_at}
use Rattle.arcs.proofs.IndexingLaws.{key_lt, indexed_none, indexed_more}
use Rattle.arcs.proofs.index_of.Goals as goal

pub loop-j-init : goal.loop-j-init
loop-j-init c = record { inside = omega arith; as_long = refl; indexed = indexed_none _ _ c.requires.clear }

pub loop-j-preserved : goal.loop-j-preserved
unfolding key_at
loop-j-preserved c = record {
  inside = omega arith;
  as_long = simp (length-set, length-set) c.loop-j.invariant.as_long;
  indexed = indexed_more c.loop-j.invariant.indexed (key_lt c.args.arcs.now c.args.key) (omega arith);
}
