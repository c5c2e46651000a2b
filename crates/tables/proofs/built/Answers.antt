-- When the code has been run, one part waits.
use Rattle.std.proofs.Common.{◌≤◌, length, arith, drop_of_length-le}
use Rattle.reader.specs.Code.{value}
use Rattle.tables.proofs.RunLaws.{next-none, holds_none, at-end, alone_top}
use Rattle.tables.proofs.built.Goals as goal

pub loop-i-init : goal.loop-i-init
loop-i-init c =
    let p = c.requires in
    record {
      inside = omega arith;
      follow_long = p.0.follow_long;
      pred_long = p.0.pred_long;
      enter_long = p.0.enter_long;
      next_of = λ text e L q. next-none L q (holds_none _ _ _ p.1.no_follow p.1.no_pred p.1.no_enter _ _ _ _);
    }

pub inverted-requires : goal.inverted-requires
inverted-requires c =
    let p = c.requires in
    let z = alone_top (at-end
    (rw (drop_of_length-le c.args.numbers.now (let z : length c.args.numbers.now ≤ c.loop-i.i = omega arith in z)) at
    (c.loop-i.invariant.next_of p.2.0 p.2.1 p.2.2 p.2.3))) in (
      record { follow_long = c.loop-i.invariant.follow_long; pred_long = c.loop-i.invariant.pred_long; some = z.0; few = z.1 },
      c.loop-i.invariant.enter_long,
    )

pub returns-then-against : goal.returns-then-against
unfolding value
returns-then-against c =
    λ text e L q. let A =
    at-end (rw (drop_of_length-le c.args.numbers.now (let z : length c.args.numbers.now ≤ c.loop-i.i = omega arith in z)) at
    (c.loop-i.invariant.next_of text e L q)) in
    rw c.if-against.true (A.0, c.inverted.ensures _ _ _ A.1)

pub returns : goal.returns
returns c = λ text e L q.
    rw c.if-against.false
    (at-end (rw (drop_of_length-le c.args.numbers.now (let z : length c.args.numbers.now ≤ c.loop-i.i = omega arith in z)) at
    (c.loop-i.invariant.next_of text e L q)))
