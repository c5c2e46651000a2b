-- What the reader answers.
--   read_answer v    the answer to a text whose verdict is v: the length of its code, or the number of the cause
--   code_array v     the array given with it: the code and zeros after it, or zeros alone
--   Reads text r    the reading r is that of the text
--   read_number a    an answer's number: 0 if the text is accepted
--   ReadAs text n code e
--                   the text is that of e, within the limits, n is the length of its code, and the array begins with that code
-- Assumes nothing: these are definitions.
use Rattle.std.specs.Prelude.{◌≡◌, List, ◌++◌, ℕ, ◌-◌, ◌≤◌, length, take, replicate}
use Rattle.book.specs.Causes.{first_number, max_bytes}
use Rattle.paths.specs.Expressions.{Expr}
use Rattle.paths.specs.Grammar.{Verdict, accepted, long, outside, large, verdict_cause}
use Rattle.paths.specs.Verdicts.{verdict, InLimits}
use Rattle.reader.specs.Code.{code}
use Rattle.reader.specs.declared.Answer.{Answer}
use Rattle.reader.specs.declared.Answer.TheVariants.{Accepted, Refused}
use Rattle.reader.specs.declared.Reading.{Reading}

unfoldable pub read_answer : Verdict → Answer
read_answer (accepted e) = Accepted (length (code e))
read_answer long = Refused (first_number (verdict_cause long))
read_answer outside = Refused (first_number (verdict_cause outside))
read_answer large = Refused (first_number (verdict_cause large))

unfoldable pub code_array : Verdict → List ℕ
code_array (accepted e) = code e ++ replicate (max_bytes - length (code e)) 0
code_array long = replicate max_bytes 0
code_array outside = replicate max_bytes 0
code_array large = replicate max_bytes 0

pub record Reads (text : List ℕ) (r : Reading) : Type 0 where
  pub answered : r.answer ≡ read_answer (verdict text)
  pub coded : r.code ≡ code_array (verdict text)

abbrev pub read_number : Answer → ℕ
read_number (Accepted n) = 0
read_number (Refused k) = k

pub record ReadAs (text : List ℕ) (n : ℕ) (array : List ℕ) (e : Expr) : Type 0 where
  pub is : verdict text ≡ accepted e
  pub limits : InLimits text e
  pub end : n ≡ length (code e)
  pub fits : n ≤ max_bytes
  pub front : take n array ≡ code e
