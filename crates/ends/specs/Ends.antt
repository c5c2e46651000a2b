-- The records that a chain joins to one record: its ends and its starts; and the answers of the questions for them, refusals included.
--   Exactly P l     the numbers of l ascend, and are those of which P holds
--   EndsAre g e x l
--                   the list l is the answer for the ends of x: the records y such that (x, y) has a chain
--   StartsAre g e y l
--                   that for the starts of y: the records x such that (x, y) has a chain
--   ends g e x, starts g e y
--                   those lists, computed: a row and a column of the relation
--   joined_by against g e x
--                   the ends, or the starts where a chain is gone against its sense
--   ends_of against b x v
--                   those of the record x, if the text is an expression
--   ends_causes b x v
--                   the causes against either question, in their order
--   ends_answer against b x v room
--                   its outcome with room for so many in the list: how many records there are in all, and the first of them, as many as there is room for
-- Assumes nothing: these are definitions.
use Rattle.std.specs.Prelude.{List, [], ◌∷◌, Bool, true, false, ℕ, length, take, leb}
use Rattle.book.specs.Basics.{In, Rises}
use Rattle.book.specs.Causes.{Cause, no_record, first_number}
use Rattle.book.specs.Book.{Book}
use Rattle.paths.specs.Expressions.{Expr}
use Rattle.paths.specs.Grammar.{Verdict, accepted, long, outside, large, verdict_cause}
use Rattle.paths.specs.Chains.{Graph, asked, Has}
use Rattle.paths.specs.Relations.{cells}
use Rattle.paths.specs.Questions.{Outcome, paired, unless}
use Rattle.rows.specs.Rows.{places}

pub record Exactly (P : ℕ → Type 0) (l : List ℕ) : Type 0 where
  pub ascending : Rises 0 l
  pub sound : (y : ℕ) → In y l → P y
  pub whole : (y : ℕ) → P y → In y l

abbrev pub EndsAre : Graph → Expr → ℕ → List ℕ → Type 0
EndsAre g e x l = Exactly (λ y. Has g e x y) l

abbrev pub StartsAre : Graph → Expr → ℕ → List ℕ → Type 0
StartsAre g e y l = Exactly (λ x. Has g e x y) l

unfoldable pub ends : Graph → Expr → ℕ → List ℕ
ends g e x = places (λ y. cells g e x y) g.n

unfoldable pub starts : Graph → Expr → ℕ → List ℕ
starts g e y = places (λ x. cells g e x y) g.n

unfoldable pub joined_by : Bool → Graph → Expr → ℕ → List ℕ
joined_by false g e x = ends g e x
joined_by true g e x = starts g e x

unfoldable pub ends_of : Bool → Book → ℕ → Verdict → List ℕ
ends_of against b x (accepted e) = joined_by against (asked b) e x
ends_of against b x long = []
ends_of against b x outside = []
ends_of against b x large = []

unfoldable pub ends_causes : Book → ℕ → Verdict → List (Cause × Bool)
ends_causes b x v = (no_record, leb b.n x) ∷ verdict_cause v

unfoldable pub ends_answer : Bool → Book → ℕ → Verdict → ℕ → Outcome
ends_answer against b x v room =
    unless (first_number (ends_causes b x v)) (paired (length (ends_of against b x v)) (take room (ends_of against b x v)))
