-- The grammar, and the verdict on a text.
--   Member s a, Members s w
--                   the bytes s are the member a of a negated set; they are the members w, with | between them
--   Is R s e        the bytes s are, by the rule R, the expression e
--   Verdict         a text's expression, or why it has none: too many bytes, outside the grammar, too many letters or too deep
--   Judged s v      v is the right verdict on the text s: over 256 bytes first, then the grammar, then 63 letters and depth 8
--   verdict_cause v  the cause that a verdict gives, if any
-- Assumes nothing: these are definitions.
use Rattle.std.specs.Prelude.{◌⊎◌, Bool, true, false, List, [], ◌∷◌, ◌++◌, ℕ, ◌+◌, ◌<◌, ◌≤◌, length}
use Rattle.book.specs.Causes.{Cause, no_expression, too_many_bytes, too_large, labels, max_bytes, max_letters, max_depth}
use Rattle.paths.specs.Expressions.{Letter, letter, none_of, Expr, symbol, group, inverse, star, plus, optional, alternative, sequence, letters, depth}

-- the bytes | / ^ ! * + ? ( ) a
abbrev pub bar : ℕ
bar = 124

abbrev pub slash : ℕ
slash = 47

abbrev pub hat : ℕ
hat = 94

abbrev pub bang : ℕ
bang = 33

abbrev pub asterisk : ℕ
asterisk = 42

abbrev pub plus_sign : ℕ
plus_sign = 43

abbrev pub question_mark : ℕ
question_mark = 63

abbrev pub open_group : ℕ
open_group = 40

abbrev pub close_group : ℕ
close_group = 41

abbrev pub letter_a : ℕ
letter_a = 97

-- a member of a negated set: a letter, a to z, or ^ and a letter
pub data Member : List ℕ → Letter → Type 0 where
  plain_member : {k : ℕ} → k < labels → Member ((letter_a + k) ∷ []) (record { label = k; inverted = false })
  inverted_member : {k : ℕ} → k < labels → Member (hat ∷ (letter_a + k) ∷ []) (record { label = k; inverted = true })

pub data Members : List ℕ → List Letter → Type 0 where
  one_member : {s : List ℕ} {a : Letter} → Member s a → Members s (a ∷ [])
  more_members : {s t : List ℕ} {w : List Letter} {a : Letter} → Members s w → Member t a → Members (s ++ (bar ∷ t)) (w ++ (a ∷ []))

pub data Rule : Type 0 where
  alternatives parts part marked atom : Rule

pub data Is : Rule → List ℕ → Expr → Type 0 where
  -- loosest is | between alternatives
  one_alternative : {s : List ℕ} {e : Expr} → Is parts s e → Is alternatives s e
  more_alternatives : {s t : List ℕ} {e f : Expr} → Is alternatives s e → Is parts t f → Is alternatives (s ++ (bar ∷ t)) (alternative e f)
  -- then / between parts of a sequence
  one_part : {s : List ℕ} {e : Expr} → Is part s e → Is parts s e
  more_parts : {s t : List ℕ} {e f : Expr} → Is parts s e → Is part t f → Is parts (s ++ (slash ∷ t)) (sequence e f)
  -- a part is an optional single ^, then
  plain : {s : List ℕ} {e : Expr} → Is marked s e → Is part s e
  inverted : {s : List ℕ} {e : Expr} → Is marked s e → Is part (hat ∷ s) (inverse e)
  -- a letter, a negated set or a group, then at most one of *, +, ?
  bare : {s : List ℕ} {e : Expr} → Is atom s e → Is marked s e
  with_star : {s : List ℕ} {e : Expr} → Is atom s e → Is marked (s ++ (asterisk ∷ [])) (star e)
  with_plus : {s : List ℕ} {e : Expr} → Is atom s e → Is marked (s ++ (plus_sign ∷ [])) (plus e)
  with_optional : {s : List ℕ} {e : Expr} → Is atom s e → Is marked (s ++ (question_mark ∷ [])) (optional e)
  -- a letter, a to z; ! and one member, or members in parentheses, which are no group; inside its parentheses a group holds a whole expression again
  is-letter : {k : ℕ} → k < labels → Is atom ((letter_a + k) ∷ []) (symbol (letter k))
  is_negated : {s : List ℕ} {a : Letter} → Member s a → Is atom (bang ∷ s) (symbol (none_of (a ∷ [])))
  is_set : {s : List ℕ} {w : List Letter} → Members s w → Is atom (bang ∷ open_group ∷ (s ++ (close_group ∷ []))) (symbol (none_of w))
  is_group : {s : List ℕ} {e : Expr} → Is alternatives s e → Is atom (open_group ∷ (s ++ (close_group ∷ []))) (group e)

pub data Verdict : Type 0 where
  accepted : Expr → Verdict
  long outside large : Verdict

pub data Judged (s : List ℕ) : Verdict → Type 0 where
  over_bytes : max_bytes < length s → Judged s long
  no_syntax : length s ≤ max_bytes → ((e : Expr) → Is alternatives s e → ⊥) → Judged s outside
  over_limits : {e : Expr} → length s ≤ max_bytes → Is alternatives s e → (max_letters < letters e) ⊎ (max_depth < depth e) → Judged s large
  good : {e : Expr} → length s ≤ max_bytes → Is alternatives s e → letters e ≤ max_letters → depth e ≤ max_depth → Judged s (accepted e)

unfoldable pub verdict_cause : Verdict → List (Cause × Bool)
verdict_cause (accepted e) = []
verdict_cause long = (too_many_bytes, true) ∷ []
verdict_cause outside = (no_expression, true) ∷ []
verdict_cause large = (too_large, true) ∷ []
