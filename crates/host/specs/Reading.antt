-- What `dating_totals` and `dating_marks` promise: what the register keeps of every label and of every record, read as one list.
--   ReadsTotals before after r a
--                   the totals of the register r, from label 0 on, handed over into a list that held `before`: the first that it takes, and how many they
--                   are in all
--   ReadsMarks before after r a
--                   the marks of its records, from record 0 on, likewise
-- Assumes nothing: these are definitions.
use Rattle.std.specs.Prelude.{List, ℕ, take}
use Rattle.answers.specs.Answers.{FirstPart}
use Rattle.answers.specs.declared.Counted.{Counted}
use Rattle.register.specs.Questions.{Sized, MarkList, TotalList}
use Rattle.register.specs.declared.Register.{Register}

abbrev pub ReadsTotals : List ℕ → List ℕ → Register → Counted → Type 0
ReadsTotals before after r a = (ts : List ℕ) × TotalList r ts × FirstPart ts before after a

abbrev pub ReadsMarks : List ℕ → List ℕ → Register → Counted → Type 0
ReadsMarks before after r a = (n : ℕ) × (ms : List ℕ) × Sized r n × MarkList r ms × FirstPart (take n ms) before after a
