-- `settle` compares the lengths and copies. Assumes nothing.
use mathlib.Core.Path.{refl}
use native.Mathlib.Omega.{arith}
use lib.ListN.{length-take}
use Rattle.answers.specs.AnswerLaws.{whole_refused}
use Rattle.tree.proofs.CopyLaws.{settled}
use Rattle.tree.proofs.calls.settle.Goals as goal

pub returns-then-out-len : goal.returns-then-out-len
returns-then-out-len c = whole_refused _ _ _ (rw length-take (omega arith)) refl

pub returns : goal.returns
returns c =
    let a = c.args in
    settled a.work.now a.len a.out.now _ c.requires (omega arith) c.copy_u64.ensures.contents
