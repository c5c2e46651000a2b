-- One record more is committed.
use Rattle.std.proofs.Common.{◌≡◌, ◌<◌, get_or, length, arith, length-set, ◌∙◌}
use Rattle.search.proofs.CommitLaws.{committing_more, level_committed, level_cleared, level_held}
use Rattle.search.proofs.levels.commit.Goals as goal

pub loop-i-preserved : goal.loop-i-preserved
loop-i-preserved c =
    let l = c.loop-i in
    let T = c.stamp in
    let z : get_or c.args.list.now l.i 0 < c.requires.n = c.requires.listed.small l.i (omega arith) in
    record {
      i_most = omega arith;
      work_as_long = T.auto.work ∙ l.invariant.work_as_long;
      seen_as_long = simp length-set l.invariant.seen_as_long;
      next_as_long = simp length-set l.invariant.next_as_long;
      records_as_long = simp length-set l.invariant.records_as_long;
      masks_as_long = simp length-set l.invariant.masks_as_long;
      committing =
          committing_more l.invariant.committing c.requires.listed (omega arith) T.ensures (omega arith) (omega arith) (omega arith) (omega arith);
    }

pub returns : goal.returns
returns c =
    let l = c.loop-i in
    let p = c.requires in
    let e : l.i ≡ length c.args.list.now = omega arith in
    let I = rw e at l.invariant.committing in
    (level_cleared I p.listed, level_held I p.listed p.n_most, λ n L. level_committed I L)
