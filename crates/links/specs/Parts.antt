-- A link's word taken apart.
--   link_of w        the link of a word
--   label_unit       a link's word by this is its label
--   link_pair w      the pair word of a link's word, from × 1,024 + to
--   word_total l ws  how many of the words ws are of the label l
-- Assumes nothing: these are definitions.
use Rattle.std.specs.Prelude.{List, ℕ, ◌/◌, ◌%◌, eqb}
use Rattle.book.specs.Basics.{tally}
use Rattle.book.specs.Book.{Link}

abbrev pub link_of : ℕ → Link
link_of w = record { from = w / 1024 % 1024; label = w / 1048576; to = w % 1024 }

abbrev pub label_unit : ℕ
label_unit = 1048576

unfoldable pub link_pair : ℕ → ℕ
link_pair w = w % label_unit

unfoldable pub word_total : ℕ → List ℕ → ℕ
word_total l ws = tally (λ w. eqb (w / label_unit) l) ws
