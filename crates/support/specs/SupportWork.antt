-- How much work sole support takes.
--   support_work n         the words of work that are needed: 32 × D + 64 × n
use Rattle.std.specs.Prelude.{ℕ, ◌+◌}
use Rattle.paths.specs.Questions.{pairs_work, chain_work}

-- the words of work that are needed
abbrev pub support_work : ℕ → ℕ
support_work n = pairs_work n + chain_work n
