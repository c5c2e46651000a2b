-- `told_generations` tells each answer by its number; a loop's is past every count. Assumes nothing.
use mathlib.Core.Path.{subst}
use Prim.Native.Nat.{◌^◌, ◌≤◌}
use native.Mathlib.Omega.{arith}
use Rattle.answers.specs.Answers.{counted}
use Rattle.generations.specs.Generating.{generations_counted}
use Rattle.generations.specs.declared.GenerationsAnswer.{GenerationsAnswer}
use Rattle.host.proofs.numbering.told_generations.Goals as goal

pub overflow_add-result : goal.overflow_add-result
unfolding counted generations_counted
overflow_add-result c =
    let z = subst (λ (a : GenerationsAnswer). counted (generations_counted a) ≤ 2 ^ 62) c.in-Loop.is c.requires in
    omega arith
