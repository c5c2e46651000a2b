-- `count` is the ones of the word (`word_count`). Assumes nothing.
use native.Mathlib.Omega.{arith}
use lib.Count.{ones-le}
use Rattle.grid.proofs.CountLaws.{word_count}
use Rattle.grid.proofs.words.count.Goals as goal

pub returns : goal.returns
returns c = (ones-le 64 c.args.word (omega arith), λ at. word_count c.args.word at (omega arith))
