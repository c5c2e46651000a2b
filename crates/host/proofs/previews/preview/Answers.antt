-- `host::previews::preview` asks of a copy of the words, which has their front, and so their register. Assumes nothing.
use mathlib.Core.Path.{refl}
use Prim.Native.Nat.{◌≤◌}
use native.Mathlib.Omega.{arith}
use lib.ListN.{length}
use Rattle.book.specs.Causes.{number}
use Rattle.register.specs.Words.{state_words}
use Rattle.register.specs.WordLaws.{keeps_long}
use Rattle.host.proofs.CarryLaws.{asked_foreign}
use Rattle.host.proofs.PreviewCarryLaws.{copied_front, asked_front}
use Rattle.host.proofs.previews.preview.Goals as goal

pub returns-then-state-lt-STATE_WORDS : goal.returns-then-state-lt-STATE_WORDS
unfolding number
returns-then-state-lt-STATE_WORDS c =
    asked_foreign (λ r k. omega (arith, keeps_long k, c.if-state-lt-STATE_WORDS.true)) c.told_refusal.ensures refl

pub returns : goal.returns
returns c =
    let long : state_words ≤ length c.args.state.now = omega (arith, c.if-state-lt-STATE_WORDS.false) in
    asked_front (copied_front c.args.state.now long c.copy_u32.ensures) c.foresee.ensures
