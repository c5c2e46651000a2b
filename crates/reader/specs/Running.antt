-- What running a code asks of the stack.
--   operands x      how many values an item takes off the stack: none if it is a symbol's letters
--   Runs A k c st   run on the stack st, every number of the code c finds its operands, and never more than k values are on the stack
-- Assumes nothing: these are definitions.
use Rattle.std.specs.Prelude.{List, [], ◌∷◌, ℕ, ◌≤◌, length}
use Rattle.reader.specs.declared.items.Item.{Item}
use Rattle.reader.specs.declared.items.Item.TheVariants.{Letters, Inverse, Star, Plus, Optional, Alternative, Sequence}
use Rattle.reader.specs.Code.{item_of, Algebra, does}

abbrev pub operands : Item → ℕ
operands (Letters forward against) = 0
operands Inverse = 1
operands Star = 1
operands Plus = 1
operands Optional = 1
operands Alternative = 2
operands Sequence = 2

pub data Runs {D : Type 0} (A : Algebra D) (k : ℕ) : List ℕ → List D → Type 0 where
  ended : {st : List D} → length st ≤ k → Runs A k [] st
  next : {i : ℕ} {c : List ℕ} {st : List D} → operands (item_of i) ≤ length st → length st ≤ k → Runs A k c (does A (item_of i) st) → Runs A k (i ∷ c) st
