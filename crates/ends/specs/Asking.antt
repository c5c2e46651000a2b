-- What the questions for the ends and for the starts of a record promise.
--   AsksJoined against r x text before after a
--                   asked of the register r for the ends of the record x, or for its starts where a chain is gone against its sense
--   AsksEnds, AsksStarts
--                   the same for the ends, and for the starts
-- Assumes nothing: these are definitions.
use Rattle.std.specs.Prelude.{List, Bool, true, false, ℕ, length}
use Rattle.book.specs.Causes.{max_records}
use Rattle.answers.specs.declared.Counted.{Counted}
use Rattle.paths.specs.Verdicts.{verdict}
use Rattle.register.specs.declared.Register.{Register}
use Rattle.query.specs.Asking.{Asks}
use Rattle.ends.specs.Ends.{ends_answer}

abbrev pub AsksJoined : Bool → Register → ℕ → List ℕ → List ℕ → List ℕ → Counted → Type 0
AsksJoined against r x text before after a = Asks max_records r (λ b. ends_answer against b x (verdict text) (length before)) before after a

abbrev pub AsksEnds : Register → ℕ → List ℕ → List ℕ → List ℕ → Counted → Type 0
AsksEnds = AsksJoined false

abbrev pub AsksStarts : Register → ℕ → List ℕ → List ℕ → List ℕ → Counted → Type 0
AsksStarts = AsksJoined true
