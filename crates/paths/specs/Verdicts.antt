-- The verdict on a text, computed; that it is the one right verdict is shown in proofs/VerdictLaws.
--   sized e, ended e r, found x
--                  the verdict on an expression, by the bytes left after it, and on what is read
--   verdict s      over 256 bytes first, then the grammar, then 63 letters and depth 8
--   InLimits s e   s is the text of e, within the limits
-- Assumes nothing.
use Rattle.std.specs.Prelude.{List, [], ◌∷◌, ℕ, ◌≤◌, leb, length}
use Rattle.book.specs.Basics.{pick}
use Rattle.book.specs.Causes.{max_bytes, max_letters, max_depth}
use Rattle.paths.specs.Expressions.{Expr, letters, depth}
use Rattle.paths.specs.Grammar.{alternatives, Is, Verdict, accepted, long, outside, large}
use Rattle.paths.specs.Descent.{Parse, got, fault, read_alternatives}

-- of an expression, by its size
abbrev pub sized : Expr → Verdict
sized e = pick (leb (letters e) max_letters) (pick (leb (depth e) max_depth) (accepted e) large) large

-- of what is read, by the bytes left
abbrev pub ended : Expr → List ℕ → Verdict
ended e [] = sized e
ended e (c ∷ r) = outside

abbrev pub found : Parse → Verdict
found fault = outside
found (got e r) = ended e r

unfoldable pub verdict : List ℕ → Verdict
verdict s = pick (leb (length s) max_bytes) (found (read_alternatives s)) long

-- what is accepted
pub record InLimits (s : List ℕ) (e : Expr) : Type 0 where
  pub bytes : length s ≤ max_bytes
  pub syntax : Is alternatives s e
  pub few_letters : letters e ≤ max_letters
  pub shallow : depth e ≤ max_depth
