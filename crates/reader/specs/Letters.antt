-- Sets of letters as two sets of labels, each a number whose bit l is set where it has the label l.
--   label_set f      the set of the labels that f has
--   forward_of f, against_of f
--                   of a set f of letters: the labels that it has plain, whose links are crossed forward, and those that it has inverted, whose links
--                   are crossed against their sense
--   letters_in forward against a
--                   whether the letter a is one of the two sets
-- Assumes nothing: these are definitions.
use Rattle.std.specs.Prelude.{Bool, true, false, ℕ, eqb}
use Rattle.book.specs.Basics.{pick, bit}
use Rattle.book.specs.Causes.{labels}
use Rattle.k2.specs.Bits.{digit, value}
use Rattle.paths.specs.Expressions.{Letter}

unfoldable pub label_set : (ℕ → Bool) → ℕ
label_set f = value labels (λ l. bit (f l))

abbrev pub forward_of : (Letter → Bool) → ℕ
forward_of f = label_set (λ l. f (record { label = l; inverted = false }))

abbrev pub against_of : (Letter → Bool) → ℕ
against_of f = label_set (λ l. f (record { label = l; inverted = true }))

unfoldable pub letters_in : ℕ → ℕ → Letter → Bool
letters_in forward against a = eqb (digit (pick a.inverted against forward) a.label) 1
