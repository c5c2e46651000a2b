-- by its length, then by its only byte (`label_size`, `label_below`, `label_above`, `label_is`).
-- Assumes nothing.
use mathlib.Core.Path.{sym}
use native.Mathlib.Omega.{arith}
use Rattle.lines.specs.Read.{read}
use Rattle.lines.specs.ReadLaws.{label_size, label_below, label_above, label_is}
use Rattle.lines.proofs.words.as_label.Goals as goal

pub returns-then-w-ne1 : goal.returns-then-w-ne1
unfolding read
returns-then-w-ne1 c = rw (label_size c.args.w.now c.if-w-ne1.true)

pub returns-then-c-lt97 : goal.returns-then-c-lt97
unfolding read
returns-then-c-lt97 c = rw (label_below c.args.w.now (omega arith) (omega arith))

pub returns-then-c-gt122 : goal.returns-then-c-gt122
unfolding read
returns-then-c-gt122 c = rw (label_above c.args.w.now (omega arith) (omega arith))

pub returns : goal.returns
returns c = sym (label_is c.args.w.now (omega arith) (omega arith) (omega arith))
