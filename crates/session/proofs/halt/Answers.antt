-- the input is at its end (`at-end`), or what is left of it is no whole frame (`no_frame`). Assumes nothing.
use Prim.Native.Nat.{◌<◌}
use native.Mathlib.Omega.{arith}
use lib.ListN.{length}
use Rattle.book.specs.Causes.{number}
use Rattle.session.specs.Program.{broken}
use Rattle.session.specs.StepLaws.{at-end, no_frame}
use Rattle.session.proofs.halt.Goals as goal

pub returns-then-input-eq0 : goal.returns-then-input-eq0
returns-then-input-eq0 c =
    let s = c.args in
    λ work l enough. at-end work s.state s.input.now l s.out.now enough c.if-input-eq0.true

pub returns : goal.returns
unfolding number
returns c =
    let s = c.args in
    let none = c.requires.0 in
    let some : 0 < length s.input.now = omega arith in
    λ work l enough. no_frame work s.state s.input.now l s.out.now _ _ _ enough none c.put_refused-written.ensures
    (λ q m. broken some none)
