-- One step more is written (`going_more`).
use Rattle.std.proofs.Common.{◌≡◌, ◌-◌, suc, refl, arith, length-set}
use Rattle.std.proofs.Math.Seq.{drop-set-lt}
use Rattle.search.proofs.WalkLaws.{going_start, going_more, going_ends}
use Rattle.search.proofs.walk.forward_by.Goals as goal

pub loop-t-init : goal.loop-t-init
loop-t-init c =
    let p = c.requires.1 in
    record {
      t_most = omega arith;
      as_long = refl;
      past = refl;
      at_below = omega (arith, p.from_below, p.numbers.records);
      going = λ g M ps f y l S K e. going_start g M y _ _ _ _ _ _ p.from_below e;
    }

pub loop-t-preserved : goal.loop-t-preserved
loop-t-preserved c =
    let s = c.args in
    let l = c.loop-t in
    let e : s.route.steps - l.t ≡ suc (s.route.steps - l.t - 1) = omega arith in
    record {
      t_most = omega arith;
      as_long = simp length-set l.invariant.as_long;
      past = rw (drop-set-lt s.route.steps l.out l.t c.choose-choice.result.word (omega arith)) l.invariant.past;
      at_below = omega arith;
      going = λ g M ps f y v S K d.
          going_more S c.requires.1.numbers.records K (l.invariant.going g M ps f y v S K d) (s.route.steps - l.t - 1) e
          c.spread-follows.result _ _ c.spread-follows.ensures (rw e at c.choose-choice.ensures) (omega arith);
    }

pub returns : goal.returns
returns c =
    let s = c.args in
    let l = c.loop-t in
    let e : s.route.steps ≡ l.t = omega arith in
    let few = c.requires.1.numbers.records in
    record { best = λ g M ps f y v S K d. rw (← e) at (going_ends S few K (l.invariant.going g M ps f y v S K d) e); rest = l.invariant.past }
