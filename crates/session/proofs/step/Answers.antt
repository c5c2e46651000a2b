-- with too little room it stays (`stays`), else there is no whole frame, where `halt` ends the run, or one, which
-- `frame` does (`one_frame`). Assumes nothing.
use Prim.Native.Nat.{◌≤◌}
use native.Mathlib.Omega.{arith}
use lib.ListN.{length}
use Rattle.session.specs.Turns.{room}
use Rattle.session.specs.StepLaws.{whole_long, stays, one_frame}
use Rattle.session.proofs.step.Goals as goal

pub returns-then-out-list : goal.returns-then-out-list
returns-then-out-list c =
    let s = c.args in
    stays _ s.state s.input.now s.list.now s.out.now (omega arith)

pub returns-then-read-eq0 : goal.returns-then-read-eq0
returns-then-read-eq0 c = c.halt.ensures _ _ (omega arith)

pub slice_bounds-frame-count : goal.slice_bounds-frame-count
slice_bounds-frame-count c = omega (arith, whole_long c.args.input.now c.front-read.result c.front-read.ensures (omega arith))

pub slice_bounds-frame-start : goal.slice_bounds-frame-start
slice_bounds-frame-start c = omega (arith, whole_long c.args.input.now c.front-read.result c.front-read.ensures (omega arith))

pub slice_bounds-frame-end : goal.slice_bounds-frame-end
slice_bounds-frame-end c = omega (arith, whole_long c.args.input.now c.front-read.result c.front-read.ensures (omega arith))

pub returns : goal.returns
returns c =
    let s = c.args in
    let f = c.frame-framed in
    let enough : room (length s.list.now) ≤ length s.out.now = omega arith in
    one_frame _ s.state s.input.now s.list.now _ s.out.now _ c.front-read.result _ f.result
    enough f.auto.list c.front-read.ensures (omega (arith, whole_long c.args.input.now c.front-read.result c.front-read.ensures (omega arith)))
    c.number16-kind.ensures (f.ensures.turns enough)
