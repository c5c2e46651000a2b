-- Expressions as syntax trees.
--   Letter          a letter of a word: a label, plain or inverted. A step that crosses a link of the label forward spells it plain,
--                   one against the link's sense spells it inverted
--   Symbol          what may stand where a letter may: a label, 0 to 25 for a to z; or a negated set, with its members
--   same_letter a b  whether they are one letter
--   has_sense b w    whether a letter of w is inverted, for b true, or plain, for b false
--   stands_for s a   whether the letter a is one that the symbol s stands for. A label stands for itself, plain. A negated set that has a plain member
--                   stands for every plain letter that is none of its members; one that has an inverted member, for every inverted letter that is none
--   Expr            expressions. A group is kept, since the nesting of groups is counted
--   letters e       how many letters e has, a set being one
--   depth e         how deep its groups are nested
-- Assumes nothing: these are definitions.
use Rattle.std.specs.Prelude.{List, [], ◌∷◌, Bool, true, false, not, ◌&&◌, ◌||◌, ℕ, ◌+◌, max, eqb, ltb}
use Rattle.book.specs.Basics.{has}
use Rattle.book.specs.Causes.{labels}

pub record Letter : Type 0 where
  pub label : ℕ
  pub inverted : Bool

pub data Symbol : Type 0 where
  letter : ℕ → Symbol
  none_of : List Letter → Symbol

abbrev pub same_sense : Bool → Bool → Bool
same_sense true b = b
same_sense false b = not b

abbrev pub same_letter : Letter → Letter → Bool
same_letter a b = eqb a.label b.label && same_sense a.inverted b.inverted

unfoldable pub has_sense : Bool → List Letter → Bool
has_sense b [] = false
has_sense b (a ∷ w) = same_sense a.inverted b || has_sense b w

unfoldable pub stands_for : Symbol → Letter → Bool
stands_for (letter k) a = eqb a.label k && not a.inverted
stands_for (none_of w) a = ltb a.label labels && (has_sense a.inverted w && not (has same_letter a w))

pub data Expr : Type 0 where
  symbol : Symbol → Expr
  group inverse star plus optional : Expr → Expr
  alternative sequence : Expr → Expr → Expr

unfoldable pub letters : Expr → ℕ
letters (symbol s) = 1
letters (group e) = letters e
letters (inverse e) = letters e
letters (star e) = letters e
letters (plus e) = letters e
letters (optional e) = letters e
letters (alternative e f) = letters e + letters f
letters (sequence e f) = letters e + letters f

unfoldable pub depth : Expr → ℕ
depth (symbol s) = 0
depth (group e) = depth e + 1
depth (inverse e) = depth e
depth (star e) = depth e
depth (plus e) = depth e
depth (optional e) = depth e
depth (alternative e f) = max (depth e) (depth f)
depth (sequence e f) = max (depth e) (depth f)
