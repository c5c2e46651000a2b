-- `lines::send_all` meets its contract. The loop's invariant: any loop on from here, with the turns that are left, is a loop from the start (`SendsOn`),
-- and the arrays are as long as they were. The measure is the number of turns left. Assumes nothing.
use mathlib.Core.Path.{◌≡◌}
use Prim.Native.Nat.{◌+◌}
use lib.ListN.{length}
use Rattle.lines.specs.Typed.{max_line}
use Rattle.lines.specs.Encoding.{frame_room}
use Rattle.lines.specs.LoopLaws.{SendsOn}
use Rattle.lines.proofs.send_all.Given as goal

abbrev pub invariant-loop-lines : goal.invariant-loop-lines
invariant-loop-lines l = record { sends : SendsOn l.lines; line-long : length l.line ≡ max_line + 1; out_long : length l.out ≡ frame_room }

abbrev pub decreases-loop-lines : goal.decreases-loop-lines
decreases-loop-lines l = l.lines
