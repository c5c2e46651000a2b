-- the text that is sent fits (`length_text`). Assumes nothing.
use mathlib.Core.Path.{ap}
use native.Mathlib.Omega.{arith}
use lib.ListN.{length}
use Rattle.lines.specs.TypedLaws.{length_text}
use Rattle.lines.specs.Typed.{argued}
use Rattle.lines.specs.Encoding.{sent}
use Rattle.lines.proofs.requests.expressed.Goals as goal

pub put_frame-requires-clause-text_len_bound : goal.put_frame-requires-clause-text_len_bound
put_frame-requires-clause-text_len_bound c = omega (arith, ap length c.text.ensures, length_text c.args.s.now)

pub returns : goal.returns
unfolding sent argued
returns c = rw (← c.text.ensures) c.put_frame.ensures
