-- The loop's invariant: any run on from here is a run from the start (`Leads`), what was read and printed is within
-- input and out, and the lengths are as they were. The measure is what is left of the input. Assumes nothing.
use mathlib.Core.Path.{◌≡◌, ◌∙◌}
use Prim.Native.Nat.{◌-◌}
use borrow.Author.Tests.{not-true, not-false}
use borrow.Rule.Slice.PartMut.{put_mid, same_len_mid}
use native.Mathlib.Omega.{arith}
use lib.ListN.{length, drop, length-drop}
use Rattle.session.specs.Runs.{OneTurn}
use Rattle.session.specs.RunsLaws.{part_turn, leads_done, leads_full, leads_more}
use Rattle.session.proofs.run.Goals as goal

pub returns-then-not-ran : goal.returns-then-not-ran
returns-then-not-ran c =
    let l = c.loop-ran in
    let q = c.step-ran in
    let i = c.args.input.now in
    let inv = l.invariant in
    let t : OneTurn l.state (drop l.read i) (length c.args.work.now) l.list q.new.list (drop l.written l.out) q.new.out q.result =
    part_turn (length c.args.work.now) i l.out l.read l.written _ inv.same_work q.ensures in
    leads_done _ l.out l.read l.written inv.leads t inv.within (not-true _ c.if-not-ran.true)

pub returns-then-ran-eq0 : goal.returns-then-ran-eq0
returns-then-ran-eq0 c =
    let l = c.loop-ran in
    let q = c.step-ran in
    let i = c.args.input.now in
    let inv = l.invariant in
    let t : OneTurn l.state (drop l.read i) (length c.args.work.now) l.list q.new.list (drop l.written l.out) q.new.out q.result =
    part_turn (length c.args.work.now) i l.out l.read l.written _ inv.same_work q.ensures in
    leads_full _ l.out l.read l.written inv.leads t inv.within (not-false _ c.if-not-ran.false) (omega arith)

pub loop-ran-preserved : goal.loop-ran-preserved
loop-ran-preserved c =
    let l = c.loop-ran in
    let q = c.step-ran in
    let i = c.args.input.now in
    let inv = l.invariant in
    let t : OneTurn l.state (drop l.read i) (length c.args.work.now) l.list q.new.list (drop l.written l.out) q.new.out q.result =
    part_turn (length c.args.work.now) i l.out l.read l.written _ inv.same_work q.ensures in
    let whole : length (put_mid l.written (length l.out - l.written) l.out q.new.out) ≡ length l.out =
    same_len_mid l.written (length l.out - l.written) l.out q.new.out q.auto.out in
    record {
      leads = leads_more _ l.out l.read l.written inv.leads t inv.within (omega arith);
      inside = omega (arith, t.advances.inside, length-drop l.read i, inv.inside);
      within = omega (arith, t.advances.within, length-drop l.written l.out, inv.within, whole);
      same_work = q.auto.work ∙ inv.same_work;
      same_list = q.auto.list ∙ inv.same_list;
      same_out = whole ∙ inv.same_out;
    }
