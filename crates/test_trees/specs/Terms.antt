-- The terms of the exported tree operations.
--   on_two k i s j t
--                   the operation k on trees of i and of j words, read with the senses s and t
--   on_one k i s    the operation k on nothing and a tree of i words, read with the sense s
--   any_letter       nothing and the links of every label, crossed forward
--   below n         the records below n, as bits
--   identity n      each record below n joined to itself
-- Assumes nothing: these are definitions.
use Rattle.std.specs.Prelude.{ℕ, ltb}
use Rattle.book.specs.Basics.{bit}
use Rattle.k2.specs.PairSets.{Cells, diagonal}
use Rattle.packing.specs.declared.loading.Sense.{Sense}
use Rattle.packing.specs.declared.loading.Sense.TheVariants.{Plain}
use Rattle.tree.specs.declared.operations.Operation.{Operation}
use Rattle.tree.specs.declared.operations.Operation.TheVariants.{Union}
use Rattle.tree.specs.declared.operations.Term.{Term}
use Rattle.tree.specs.Inner.{nothing, tree_alone}

abbrev pub on_two : Operation → ℕ → Sense → ℕ → Sense → Term
on_two k i s j t = record { operation = k; first = tree_alone i s; second = tree_alone j t }

abbrev pub on_one : Operation → ℕ → Sense → Term
on_one k i s = on_two k 0 Plain i s

abbrev pub any_letter : Term
any_letter = record { operation = Union; first = nothing; second = record { size = 0; sense = Plain; forward = 4294967295; against = 0 } }

unfoldable pub below : ℕ → ℕ → ℕ
below n x = bit (ltb x n)

abbrev pub identity : ℕ → Cells
identity n = diagonal (λ x. bit (ltb x n))
