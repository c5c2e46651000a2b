-- A turn more, by `loops_stop`, `loops_fail` and `loops_more`. Assumes nothing.
use mathlib.Core.Path.{◌∙◌}
use native.Mathlib.Omega.{arith}
use borrow.Author.Tests.{not-true, not-false}
use Rattle.session.specs.Program.{program_words}
use Rattle.session.specs.Runs.{most_turns, ended, unsent, spent}
use Rattle.session.specs.RunsLaws.{loops_more, loops_stop, loops_fail, loops_spent, looped_answered}
use Rattle.dating.proofs.answer_all.Goals as goal

pub returns-then-not-turned : goal.returns-then-not-turned
returns-then-not-turned c =
    let l = c.loop-turns in
    let t = c.turn-turned in
    looped_answered _ unsent c.unopened-state.ensures
    (loops_fail program_words most_turns _ _ l.turns l.state l.list t.new.list _ _ _ t.result.ran (omega arith) l.invariant.loops t.ensures)

pub returns-then-not-ran : goal.returns-then-not-ran
returns-then-not-ran c =
    let l = c.loop-turns in
    let t = c.turn-turned in
    looped_answered _ ended c.unopened-state.ensures
    (loops_stop program_words most_turns _ _ l.turns l.state l.list t.new.list _ _ _ t.result.ran (omega arith) l.invariant.loops t.ensures
    (not-true _ c.if-not-ran.true))

pub loop-turns-preserved : goal.loop-turns-preserved
loop-turns-preserved c =
    let l = c.loop-turns in
    let t = c.turn-turned in
    record {
      loops =
          loops_more program_words most_turns _ _ l.turns l.state l.list t.new.list _ _ _ t.result.ran (omega arith) l.invariant.loops
          t.ensures (not-false _ c.if-not-ran.false);
      bytes_long = t.auto.bytes ∙ l.invariant.bytes_long;
      list_long = t.auto.list ∙ l.invariant.list_long;
      out_long = t.auto.out ∙ l.invariant.out_long;
    }

pub returns : goal.returns
returns c =
    let l = c.loop-turns in
    looped_answered _ spent c.unopened-state.ensures
    (loops_spent program_words most_turns _ _ l.turns l.state l.list (omega arith) l.invariant.loops)
