-- The words of an expression.
--   inverse_letter a plain and inverted exchanged
--   backwards w     the word w read backwards, with plain and inverted exchanged
--   Words e w       w is a word of e
-- Assumes nothing: these are definitions.
use Rattle.std.specs.Prelude.{◌≡◌, List, [], ◌∷◌, ◌++◌, true, not}
use Rattle.paths.specs.Expressions.{Letter, Symbol, stands_for, Expr, symbol, group, inverse, star, plus, optional, alternative, sequence}

abbrev pub inverse_letter : Letter → Letter
inverse_letter a = record { label = a.label; inverted = not a.inverted }

unfoldable pub backwards : List Letter → List Letter
backwards [] = []
backwards (a ∷ w) = backwards w ++ (inverse_letter a ∷ [])

pub data Words : Expr → List Letter → Type 0 where
  -- a letter has one word, itself
  itself : {s : Symbol} {a : Letter} → stands_for s a ≡ true → Words (symbol s) (a ∷ [])
  inside : {e : Expr} {w : List Letter} → Words e w → Words (group e) w
  -- ^ has each word of what it stands before, backwards
  reversed : {e : Expr} {w : List Letter} → Words e w → Words (inverse e) (backwards w)
  -- | has the words of either side
  left : {e f : Expr} {w : List Letter} → Words e w → Words (alternative e f) w
  right : {e f : Expr} {w : List Letter} → Words f w → Words (alternative e f) w
  -- / has each word of the left followed by each of the right
  joined : {e f : Expr} {v w : List Letter} → Words e v → Words f w → Words (sequence e f) (v ++ w)
  -- + has one or more words of its part joined
  once : {e : Expr} {w : List Letter} → Words e w → Words (plus e) w
  again : {e : Expr} {v w : List Letter} → Words e v → Words (plus e) w → Words (plus e) (v ++ w)
  -- * these and the empty word
  star_none : {e : Expr} → Words (star e) []
  star_some : {e : Expr} {w : List Letter} → Words (plus e) w → Words (star e) w
  -- ? the part's words and the empty word
  optional_none : {e : Expr} → Words (optional e) []
  optional_once : {e : Expr} {w : List Letter} → Words e w → Words (optional e) w
