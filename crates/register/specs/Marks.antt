-- A record's mark, as the register keeps it and shows it: one number says whether the record is locked, withdrawn, or neither.
--   free_mark, lock_mark, withdrawn_mark
--                   the marks: 0 of a record in use that is not locked, 1 of a locked one, 2 of a withdrawn one
--   mark_of s x      the mark of the record x in the sheet s
--   has_mark m ms r  whether the record r has the mark m, of the marks ms of all records
--   Marked ms       every number of ms is a mark
-- Assumes nothing: these are definitions.
use Rattle.std.specs.Prelude.{List, Bool, ℕ, ◌≤◌, get_or, eqb}
use Rattle.book.specs.Basics.{pick}
use Rattle.book.specs.Book.{Sheet, is_locked, is_withdrawn}

abbrev pub free_mark : ℕ
free_mark = 0

abbrev pub lock_mark : ℕ
lock_mark = 1

abbrev pub withdrawn_mark : ℕ
withdrawn_mark = 2

abbrev pub mark_of : Sheet → ℕ → ℕ
mark_of s x = pick (is_withdrawn s x) withdrawn_mark (pick (is_locked s x) lock_mark free_mark)

abbrev pub has_mark : ℕ → List ℕ → ℕ → Bool
has_mark m ms r = eqb (get_or ms r free_mark) m

abbrev pub Marked : List ℕ → Type 0
Marked ms = (r : ℕ) → get_or ms r free_mark ≤ withdrawn_mark
