-- The postfix code of an expression: its numbers, and what running it on a stack gives.
--   letters_number forward against
--                   the number of a symbol that stands for the letters of the two sets
--   item_of i        what the number i of a code is: a symbol's letters, or an operator
--   code e          each operator's number after its operands; a symbol has one number, a group none of its own
--   Algebra D       values of any kind D: one for each set of letters, and what each operator makes of values
--   value A e       an expression's value
--   does A x st     what an item x does to a stack, its top first
--   run A c st      what a code does to a stack
-- Assumes nothing: these are definitions.
use Rattle.std.specs.Prelude.{List, [], ◌∷◌, ◌++◌, ℕ, ◌+◌, ◌-◌, ◌*◌, ◌/◌, ◌%◌, eqb, ltb}
use Rattle.book.specs.Basics.{pick}
use Rattle.paths.specs.Expressions.{stands_for, Expr, symbol, group, inverse, star, plus, optional, alternative, sequence}
use Rattle.reader.specs.declared.items.Item.{Item}
use Rattle.reader.specs.declared.items.Item.TheVariants.{Letters, Inverse, Star, Plus, Optional, Alternative, Sequence}
use Rattle.reader.specs.Letters.{forward_of, against_of}

-- the operators' numbers, those on one operand first
abbrev pub op_inverse : ℕ
op_inverse = 0

abbrev pub op_star : ℕ
op_star = 1

abbrev pub op_plus : ℕ
op_plus = 2

abbrev pub op_optional : ℕ
op_optional = 3

abbrev pub op_alternative : ℕ
op_alternative = 4

abbrev pub op_sequence : ℕ
op_sequence = 5

-- the first number of a symbol, which stands for no letter
abbrev pub first_letters : ℕ
first_letters = 8

-- how many sets of the 26 labels there are
abbrev pub label_sets : ℕ
label_sets = 67108864

unfoldable pub letters_number : ℕ → ℕ → ℕ
letters_number forward against = first_letters + forward + against * label_sets

unfoldable pub item_of : ℕ → Item
item_of i =
    pick (eqb i op_inverse) Inverse
    (pick (eqb i op_star) Star
    (pick (eqb i op_plus) Plus
    (pick (eqb i op_optional) Optional
    (pick (eqb i op_alternative) Alternative
    (pick (ltb i first_letters) Sequence
    (Letters ((i - first_letters) % label_sets) ((i - first_letters) / label_sets % label_sets)))))))

unfoldable pub code : Expr → List ℕ
code (symbol s) = letters_number (forward_of (stands_for s)) (against_of (stands_for s)) ∷ []
code (group e) = code e
code (inverse e) = code e ++ (op_inverse ∷ [])
code (star e) = code e ++ (op_star ∷ [])
code (plus e) = code e ++ (op_plus ∷ [])
code (optional e) = code e ++ (op_optional ∷ [])
code (alternative e f) = (code e ++ code f) ++ (op_alternative ∷ [])
code (sequence e f) = (code e ++ code f) ++ (op_sequence ∷ [])

pub record Algebra (D : Type 0) : Type 0 where
  pub of : ℕ → ℕ → D
  pub inverted : D → D
  pub starred : D → D
  pub repeated : D → D
  pub maybe : D → D
  pub either : D → D → D
  pub followed : D → D → D

module _ {D : Type 0} (A : Algebra D) where
  unfoldable pub value : Expr → D
  value (symbol s) = A.of (forward_of (stands_for s)) (against_of (stands_for s))
  value (group e) = value e
  value (inverse e) = A.inverted (value e)
  value (star e) = A.starred (value e)
  value (plus e) = A.repeated (value e)
  value (optional e) = A.maybe (value e)
  value (alternative e f) = A.either (value e) (value f)
  value (sequence e f) = A.followed (value e) (value f)

  -- an operator on the top value, and on the two top values
  abbrev pub on_one : (D → D) → List D → List D
  on_one f [] = []
  on_one f (a ∷ st) = f a ∷ st

  abbrev pub on_two : (D → D → D) → List D → List D
  on_two f [] = []
  on_two f (b ∷ []) = []
  on_two f (b ∷ a ∷ st) = f a b ∷ st

  unfoldable pub does : Item → List D → List D
  does (Letters forward against) st = A.of forward against ∷ st
  does Inverse st = on_one A.inverted st
  does Star st = on_one A.starred st
  does Plus st = on_one A.repeated st
  does Optional st = on_one A.maybe st
  does Alternative st = on_two A.either st
  does Sequence st = on_two A.followed st

  unfoldable pub run : List ℕ → List D → List D
  run [] st = st
  run (i ∷ c) st = run c (does (item_of i) st)
