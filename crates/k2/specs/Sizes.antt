-- The sizes of rows and trees for the most records.
--   rows_words       the words of 1,024 rows of 1,024 bits
--   most_tree_bits    the bits of a full tree, 4 + 4 ^ 2 + .. + 4 ^ 10
--   most_tree_words   its words
--   most_counts      how many of a tree's words have their ones before them counted at most: one in four of a full tree
--   most_child_place  where the children of a bit of it begin at most: four times its bits, as words of 64
-- Assumes nothing: these are definitions.
use Rattle.std.specs.Prelude.{ℕ}

abbrev pub rows_words : ℕ
rows_words = 16384

abbrev pub most_tree_bits : ℕ
most_tree_bits = 1398100

abbrev pub most_tree_words : ℕ
most_tree_words = 21846

abbrev pub most_counts : ℕ
most_counts = 5462

abbrev pub most_child_place : ℕ
most_child_place = 5592576
