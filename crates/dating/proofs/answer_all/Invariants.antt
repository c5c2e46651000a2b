-- `dating::answer_all` meets its contract. The loop's invariant: any loop on from here, with the turns that are left, is a loop from the start (`LoopsOn`),
-- and the arrays are as long as they were. The measure is the number of turns left. Assumes nothing.
use mathlib.Core.Path.{◌≡◌}
use Prim.Native.Nat.{◌+◌}
use lib.ListN.{length}
use Rattle.session.specs.Program.{program_words, max_frame}
use Rattle.session.specs.Turns.{room}
use Rattle.session.specs.Runs.{most_turns}
use Rattle.session.specs.RunsLaws.{LoopsOn}
use Rattle.dating.proofs.answer_all.Given as goal

abbrev pub invariant-loop-turns : goal.invariant-loop-turns
invariant-loop-turns l = record {
  loops : LoopsOn program_words most_turns l.initial.state l.initial.list l.turns l.state l.list;
  bytes_long : length l.bytes ≡ max_frame + 2;
  list_long : length l.list ≡ program_words;
  out_long : length l.out ≡ room program_words;
}

abbrev pub decreases-loop-turns : goal.decreases-loop-turns
decreases-loop-turns l = l.turns
