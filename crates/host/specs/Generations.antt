-- How the answer of generations is told as a number of 64 bits.
--   told_generations a
--                   how many numbers there are; 2^32 and the number of steps of the loop; or a refusal
-- Assumes nothing: these are definitions.
use Rattle.std.specs.Prelude.{ℕ, ◌+◌}
use Rattle.generations.specs.declared.GenerationsAnswer.{GenerationsAnswer}
use Rattle.generations.specs.declared.GenerationsAnswer.TheVariants.{Numbers, Loop, Refused}
use Rattle.host.specs.Host.{past_counts, refusal}

abbrev pub told_generations : GenerationsAnswer → ℕ
told_generations (Numbers k) = k
told_generations (Loop k) = past_counts + k
told_generations (Refused k) = refusal k
