-- `summary` brings a bit for each group of four to the lowest sixteen places: `summary_law`, whose five steps are each shown by a table.
-- Assumes nothing.
use native.Mathlib.Omega.{arith}
use Rattle.packing.proofs.WordLaws.{summary_law}
use Rattle.packing.proofs.making.summary.Goals as goal

pub returns : goal.returns
returns c = summary_law _ (omega arith)
