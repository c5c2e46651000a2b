-- each test gives the law for its case. Assumes nothing.
use mathlib.Core.Path.{◌∙◌}
use native.Mathlib.Omega.{arith}
use Rattle.session.specs.StepLaws.{following_few, following_low, following_high, following_is}
use Rattle.session.proofs.following.Goals as goal

pub returns-then-input-lt2 : goal.returns-then-input-lt2
returns-then-input-lt2 c = following_few c.args.input.now (omega arith)

pub returns-then-n-lt-MIN_FRAME : goal.returns-then-n-lt-MIN_FRAME
returns-then-n-lt-MIN_FRAME c = following_low c.args.input.now (omega arith) (omega (arith, c.number16-n.ensures))

pub returns-then-n-gt-MAX_FRAME : goal.returns-then-n-gt-MAX_FRAME
returns-then-n-gt-MAX_FRAME c =
    let e = c.number16-n.ensures in
    following_high c.args.input.now (omega arith) (omega (arith, e)) (omega (arith, e))

pub returns : goal.returns
returns c =
    let e = c.number16-n.ensures in
    e ∙ following_is c.args.input.now (omega arith) (omega (arith, e)) (omega (arith, e))
