-- `put_letters` sets a bit for each word whose label is in one set, and one for each whose label is in the other. The loop's invariant: the pairs
-- of the first i words are put in. It rests on `crossed_forward`, `crossed_against` and `letters_out`.
-- Assumes nothing.
use mathlib.Core.Path.{◌≡◌}
use lib.ListN.{take}
use Rattle.k2.specs.Bits.{bit_at}
use Rattle.k2.specs.PairSets.{Cells, union}
use Rattle.rows.specs.Rows.{flat}
use Rattle.rows.specs.RowSets.{crossed_words}
use Rattle.rows.proofs.put_letters.Given as goal

abbrev pub invariant-loop-word : goal.invariant-loop-word
invariant-loop-word l =
    (x : Cells) → bit_at l.initial.rows ≡ flat x → bit_at l.rows ≡ flat (union x (crossed_words (take l.word-index l.words) l.forward l.against))
