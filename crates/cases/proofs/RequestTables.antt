-- The worked cases beside K1 to K12, as tables: withdrawn records, rings, chains as short as one another, negated sets.
--   struck, struck_table, returned, returned_table
--                   the same links with 3 withdrawn: zero steps elsewhere alone, also within `b?/c*` and `(c*)?`; and with 3 reinstated
--   ring, ring_table, swapped_table
--                   what looks right and is wrong: four steps on a ring of three; the tree of exchanged pairs
--   ties, ties_table
--                   chains as short as one another: label before sense before record, at the first step and at a later one
--   sets_table, set_ties_table
--                   negated sets: of plain members, of inverted ones and of both, under ^ and each mark, in a sequence, with no letter left; their chains,
--                   which name the label crossed; chains as short as one another through a set
-- Assumes nothing: these are definitions.
use Rattle.std.specs.Prelude.{List, [], ◌∷◌, ◌++◌}
use Rattle.book.specs.Book.{Call, edit, withdraw, reinstate}
use Rattle.cases.specs.Tables.{Case, a, b, c, d, link, forward, against, links, pairs_of, chain_of, none_of, tree_of}

unfoldable pub struck : List Call
struck = links ++ (edit (withdraw 3) ∷ [])

unfoldable pub struck_table : List Case
struck_table =
    pairs_of "b?" ((0, 0) ∷ (1, 1) ∷ (2, 0) ∷ (2, 2) ∷ []) ∷
    pairs_of "b?/c*" ((0, 0) ∷ (1, 1) ∷ (2, 0) ∷ (2, 2) ∷ []) ∷
    pairs_of "(c*)?" ((0, 0) ∷ (1, 1) ∷ (2, 2) ∷ []) ∷
    none_of 3 3 "a*" ∷
    none_of 3 0 "a*" ∷
    none_of 0 3 "a*" ∷
    chain_of 0 0 "a*" [] ∷ []

unfoldable pub returned : List Call
returned = struck ++ (edit (reinstate 3) ∷ [])

unfoldable pub returned_table : List Case
returned_table =
    pairs_of "b?" ((0, 0) ∷ (1, 1) ∷ (2, 0) ∷ (2, 2) ∷ (3, 3) ∷ []) ∷
    chain_of 3 3 "a*" [] ∷ []

unfoldable pub ring : List Call
ring = link 0 a 1 ∷ link 1 a 2 ∷ link 2 a 0 ∷ []

unfoldable pub ring_table : List Case
ring_table =
    chain_of 0 1 "a/a/a/a" (forward a 1 ∷ forward a 2 ∷ forward a 0 ∷ forward a 1 ∷ []) ∷
    none_of 0 0 "a/a/a/a" ∷
    tree_of "^(a/a)" (1 ∷ 1 ∷ 1 ∷ 0 ∷ 0 ∷ 1 ∷ 0 ∷ 0 ∷ 0 ∷ 0 ∷ 1 ∷ 0 ∷ 1 ∷ 0 ∷ 0 ∷ 0 ∷ []) ∷ []

unfoldable pub swapped_table : List Case
swapped_table =
    tree_of "^a" (1 ∷ 0 ∷ 1 ∷ 0 ∷ 0 ∷ 0 ∷ 1 ∷ 0 ∷ 0 ∷ 1 ∷ 0 ∷ 0 ∷ []) ∷ []

unfoldable pub ties : List Call
ties = link 0 a 2 ∷ link 0 b 1 ∷ link 1 a 0 ∷ link 1 a 3 ∷ link 2 a 3 ∷ link 0 c 1 ∷ link 0 c 2 ∷ link 3 d 0 ∷ []

unfoldable pub ties_table : List Case
ties_table =
    chain_of 0 3 "(b|a)/a" (forward a 2 ∷ forward a 3 ∷ []) ∷
    chain_of 0 3 "(b|^a)/a" (against a 1 ∷ forward a 3 ∷ []) ∷
    chain_of 0 3 "(^a|a)/a" (forward a 2 ∷ forward a 3 ∷ []) ∷
    chain_of 0 3 "c/a" (forward c 1 ∷ forward a 3 ∷ []) ∷
    chain_of 3 3 "d/(b|a)/a" (forward d 0 ∷ forward a 2 ∷ forward a 3 ∷ []) ∷
    chain_of 3 3 "d/(b|^a)/a" (forward d 0 ∷ against a 1 ∷ forward a 3 ∷ []) ∷
    chain_of 3 3 "d/(^a|a)/a" (forward d 0 ∷ forward a 2 ∷ forward a 3 ∷ []) ∷
    chain_of 3 3 "d/c/a" (forward d 0 ∷ forward c 1 ∷ forward a 3 ∷ []) ∷ []

-- over `links`
unfoldable pub sets_table : List Case
sets_table =
    pairs_of "!a" ((2, 0) ∷ []) ∷
    pairs_of "!^a" ((0, 2) ∷ []) ∷
    pairs_of "!(a|^b)" ((1, 0) ∷ (2, 0) ∷ (2, 1) ∷ []) ∷
    pairs_of "!(b|^b|b)" ((0, 1) ∷ (1, 0) ∷ (1, 2) ∷ (2, 1) ∷ []) ∷
    pairs_of "^!a" ((0, 2) ∷ []) ∷
    pairs_of "^!^a" ((2, 0) ∷ []) ∷
    pairs_of "!a*" ((0, 0) ∷ (1, 1) ∷ (2, 0) ∷ (2, 2) ∷ (3, 3) ∷ []) ∷
    pairs_of "!b+" ((0, 1) ∷ (0, 2) ∷ (1, 2) ∷ []) ∷
    pairs_of "!b?" ((0, 0) ∷ (0, 1) ∷ (1, 1) ∷ (1, 2) ∷ (2, 2) ∷ (3, 3) ∷ []) ∷
    pairs_of "!(b|c)/b" ((1, 0) ∷ []) ∷
    pairs_of "!(a|b|c|d|e|f|g|h|i|j|k|l|m|n|o|p|q|r|s|t|u|v|w|x|y|z)" [] ∷
    pairs_of "(!(a|b|c|d|e|f|g|h|i|j|k|l|m|n|o|p|q|r|s|t|u|v|w|x|y|z))*" ((0, 0) ∷ (1, 1) ∷ (2, 2) ∷ (3, 3) ∷ []) ∷
    chain_of 0 0 "!c+" (forward a 1 ∷ forward a 2 ∷ forward b 0 ∷ []) ∷
    chain_of 0 2 "!(c|^c)" (against b 2 ∷ []) ∷
    chain_of 2 1 "^!b" (against a 1 ∷ []) ∷
    chain_of 0 0 "(!(a|b|c|d|e|f|g|h|i|j|k|l|m|n|o|p|q|r|s|t|u|v|w|x|y|z))*" [] ∷
    none_of 0 1 "(!(a|b|c|d|e|f|g|h|i|j|k|l|m|n|o|p|q|r|s|t|u|v|w|x|y|z))*" ∷
    none_of 0 3 "(!(c|^c))*" ∷
    tree_of "!b" (1 ∷ 1 ∷ 0 ∷ 0 ∷ 0 ∷ 1 ∷ 0 ∷ 0 ∷ 0 ∷ 0 ∷ 1 ∷ 0 ∷ []) ∷ []

-- over `ties`
unfoldable pub set_ties_table : List Case
set_ties_table =
    chain_of 0 3 "!d/a" (forward a 2 ∷ forward a 3 ∷ []) ∷
    chain_of 0 3 "!(a|^b)/a" (against a 1 ∷ forward a 3 ∷ []) ∷
    chain_of 0 3 "!(a|^a)/a" (forward b 1 ∷ forward a 3 ∷ []) ∷
    chain_of 0 3 "!(a|b)/a" (forward c 1 ∷ forward a 3 ∷ []) ∷
    chain_of 1 0 "!(z|^z)" (forward a 0 ∷ []) ∷
    chain_of 1 0 "!(a|^z)" (against b 0 ∷ []) ∷
    chain_of 3 3 "d/!(d|^d)/a" (forward d 0 ∷ forward a 2 ∷ forward a 3 ∷ []) ∷ []
