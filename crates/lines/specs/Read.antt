-- A word as the code reads it.
--   unfit           what stands for a word that is no number, or no label
--   read fits n     n if the word fits, else that
-- Assumes nothing: these are definitions.
use Rattle.std.specs.Prelude.{Bool, ℕ}
use Rattle.book.specs.Basics.{pick}

abbrev pub unfit : ℕ
unfit = 65536

unfoldable pub read : Bool → ℕ → ℕ
read fits n = pick fits n unfit
