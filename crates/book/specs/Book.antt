-- The plain book: n, a sheet, and the pile of earlier sheets; what each call answers, and the book after it.
--   Link            from, label, to
--   Sheet           the set of links, the set of locked records and the set of withdrawn ones, each a list in which every member stands once
--   Book            n, the sheet as it stands, and the pile of earlier sheets, the latest on top
--   Edit, Call      add, remove, lock, unlock, withdraw and reinstate with any arguments; and undo, and closing up with a list of so many words
--   present, is_locked, is_withdrawn
--                   whether a link is in the sheet, and whether a record is locked, or withdrawn
--   touched r ks    whether a link of ks has the record r as an end
--   total s l       how many links of the sheet have the label l
--   total_number l   the answer to asking for the total of a label: 0, or 3 above 25
--   causes n s e    the causes against the edit e of the sheet s, in their order
--   edited e s      the sheet s with the link, lock or withdrawn record put in or taken out
--   used n s x      whether x is a record in use: below n, and not withdrawn
--   rank u x        how many of the records below x pass the test u; with u "in use", the new number of x
--   renamed_link f k, closed_sheet f s
--                   the link k with the record x called f x; and the sheet s so, with no record withdrawn
--   close_causes n s room
--                   the causes against closing up with a list of so many words, in their order
--   closed k b      the book b closed up, if the answer k is 0
--   no_number        what stands in a list for the new number of a withdrawn record
--   new_numbers u n  the new number of each record below n, by ascending old number
--   answer b c      the book's answer to a call: 0 if it is accepted, else the number of the first cause
--   next b c        the book after a call
--   given b c       the list that a call gives: of an accepted closing up, the new numbers; else nothing
--   fresh_answer n   the answer to asking for a register of n records
--   fresh n         the book at the start
--   answers b cs, after b cs, givens b cs
--                   a whole history: the answer to each call, the book at the end, and the list that each closing up gives
-- Assumes nothing: these are definitions.
use Rattle.std.specs.Prelude.{List, [], ◌∷◌, ◌++◌, map, Bool, false, not, ◌||◌, ◌&&◌, ℕ, zero, suc, length, take, leb, ltb, eqb}
use Rattle.book.specs.Basics.{pick, has, without, tally}
use Rattle.book.specs.Causes.{Cause, bad_size, no_record, bad_label, locked_end, already, missing, full, none_held, short_list, touched_record}
use Rattle.book.specs.Causes.{withdrawn_record, none_in_use, number, first_number, max_records, labels, max_links, max_held}

pub record Link : Type 0 where
  pub from : ℕ
  pub label : ℕ
  pub to : ℕ

pub record Sheet : Type 0 where
  pub links : List Link
  pub locks : List ℕ
  pub withdrawn : List ℕ

pub record Book : Type 0 where
  pub n : ℕ
  pub sheet : Sheet
  pub pile : List Sheet

pub data Edit : Type 0 where
  add remove : Link → Edit
  lock unlock : ℕ → Edit
  withdraw reinstate : ℕ → Edit

pub data Call : Type 0 where
  edit : Edit → Call
  undo : Call
  close : ℕ → Call

abbrev pub same_link : Link → Link → Bool
same_link j k = eqb j.from k.from && (eqb j.label k.label && eqb j.to k.to)

abbrev pub present : Sheet → Link → Bool
present s k = has same_link k s.links

abbrev pub is_locked : Sheet → ℕ → Bool
is_locked s r = has eqb r s.locks

abbrev pub is_withdrawn : Sheet → ℕ → Bool
is_withdrawn s r = has eqb r s.withdrawn

unfoldable pub touched : ℕ → List Link → Bool
touched r [] = false
touched r (k ∷ ks) = (eqb k.from r || eqb k.to r) || touched r ks

unfoldable pub total : Sheet → ℕ → ℕ
total s l = tally (λ k. eqb k.label l) s.links

unfoldable pub total_number : ℕ → ℕ
total_number l = first_number ((bad_label, leb labels l) ∷ [])

-- the causes against an edit, each with whether it is there, in the order of S6.6
unfoldable pub causes : ℕ → Sheet → Edit → List (Cause × Bool)
causes n s (add k) =
    (no_record, leb n k.from || leb n k.to) ∷
    (withdrawn_record, is_withdrawn s k.from || is_withdrawn s k.to) ∷
    (bad_label, leb labels k.label) ∷
    (locked_end, is_locked s k.from || is_locked s k.to) ∷
    (already, present s k) ∷
    (full, leb max_links (length s.links)) ∷ []
causes n s (remove k) =
    (no_record, leb n k.from || leb n k.to) ∷
    (withdrawn_record, is_withdrawn s k.from || is_withdrawn s k.to) ∷
    (bad_label, leb labels k.label) ∷
    (locked_end, is_locked s k.from || is_locked s k.to) ∷
    (missing, not (present s k)) ∷ []
causes n s (lock r) = (no_record, leb n r) ∷ (withdrawn_record, is_withdrawn s r) ∷ (already, is_locked s r) ∷ []
causes n s (unlock r) = (no_record, leb n r) ∷ (withdrawn_record, is_withdrawn s r) ∷ (missing, not (is_locked s r)) ∷ []
causes n s (withdraw r) =
    (no_record, leb n r) ∷ (locked_end, is_locked s r) ∷ (already, is_withdrawn s r) ∷ (touched_record, touched r s.links) ∷ []
causes n s (reinstate r) = (no_record, leb n r) ∷ (missing, not (is_withdrawn s r)) ∷ []

unfoldable pub edit_answer : ℕ → Sheet → Edit → ℕ
edit_answer n s e = first_number (causes n s e)

unfoldable pub edited : Edit → Sheet → Sheet
edited (add k) s = record { links = k ∷ s.links; locks = s.locks; withdrawn = s.withdrawn }
edited (remove k) s = record { links = without same_link k s.links; locks = s.locks; withdrawn = s.withdrawn }
edited (lock r) s = record { links = s.links; locks = r ∷ s.locks; withdrawn = s.withdrawn }
edited (unlock r) s = record { links = s.links; locks = without eqb r s.locks; withdrawn = s.withdrawn }
edited (withdraw r) s = record { links = s.links; locks = s.locks; withdrawn = r ∷ s.withdrawn }
edited (reinstate r) s = record { links = s.links; locks = s.locks; withdrawn = without eqb r s.withdrawn }

-- with the answer 0 the sheet goes on top of the pile, of which the latest 256 are kept, and the edited one takes its place; else nothing changes
unfoldable pub turned : ℕ → Book → Sheet → Book
turned zero b s = record { n = b.n; sheet = s; pile = take max_held (b.sheet ∷ b.pile) }
turned (suc k) b s = b

-- undo: 8 with an empty pile; else the top of the pile becomes the sheet
unfoldable pub undo_answer : List Sheet → ℕ
undo_answer [] = number none_held
undo_answer (s ∷ ss) = 0

unfoldable pub undone : Book → List Sheet → Book
undone b [] = b
undone b (s ∷ ss) = record { n = b.n; sheet = s; pile = ss }

-- closing up: the records in use are numbered from 0 in their old order
abbrev pub used : ℕ → Sheet → ℕ → Bool
used n s x = ltb x n && not (is_withdrawn s x)

unfoldable pub rank : (ℕ → Bool) → ℕ → ℕ
rank u zero = 0
rank u (suc x) = pick (u x) (suc (rank u x)) (rank u x)

abbrev pub renamed_link : (ℕ → ℕ) → Link → Link
renamed_link f k = record { from = f k.from; label = k.label; to = f k.to }

unfoldable pub closed_sheet : (ℕ → ℕ) → Sheet → Sheet
closed_sheet f s = record { links = map (renamed_link f) s.links; locks = map f s.locks; withdrawn = [] }

-- the causes against closing up, in the order of S14.4: the list is as long as the old n, or longer
unfoldable pub close_causes : ℕ → Sheet → ℕ → List (Cause × Bool)
close_causes n s room = (none_in_use, eqb (rank (used n s) n) 0) ∷ (short_list, ltb room n) ∷ []

unfoldable pub close_answer : ℕ → Sheet → ℕ → ℕ
close_answer n s room = first_number (close_causes n s room)

-- with the answer 0 their count is the new n, the sheet is renamed, and the pile is empty; else nothing changes
unfoldable pub closed : ℕ → Book → Book
closed zero b = record { n = rank (used b.n b.sheet) b.n; sheet = closed_sheet (rank (used b.n b.sheet)) b.sheet; pile = [] }
closed (suc k) b = b

abbrev pub no_number : ℕ
no_number = 65535

unfoldable pub new_numbers : (ℕ → Bool) → ℕ → List ℕ
new_numbers u zero = []
new_numbers u (suc x) = new_numbers u x ++ (pick (u x) (rank u x) no_number ∷ [])

unfoldable pub close_given : ℕ → Book → List ℕ
close_given zero b = new_numbers (used b.n b.sheet) b.n
close_given (suc k) b = []

unfoldable pub answer : Book → Call → ℕ
answer b (edit e) = edit_answer b.n b.sheet e
answer b undo = undo_answer b.pile
answer b (close room) = close_answer b.n b.sheet room

unfoldable pub next : Book → Call → Book
next b (edit e) = turned (edit_answer b.n b.sheet e) b (edited e b.sheet)
next b undo = undone b b.pile
next b (close room) = closed (close_answer b.n b.sheet room) b

unfoldable pub given : Book → Call → List ℕ
given b (edit e) = []
given b undo = []
given b (close room) = close_given (close_answer b.n b.sheet room) b

-- n is 1 to 1,024
unfoldable pub fresh_answer : ℕ → ℕ
fresh_answer n = first_number ((bad_size, ltb n 1 || ltb max_records n) ∷ [])

unfoldable pub fresh : ℕ → Book
fresh n = record { n = n; sheet = record { links = []; locks = []; withdrawn = [] }; pile = [] }

unfoldable pub answers : Book → List Call → List ℕ
answers b [] = []
answers b (c ∷ cs) = answer b c ∷ answers (next b c) cs

unfoldable pub after : Book → List Call → Book
after b [] = b
after b (c ∷ cs) = after (next b c) cs

unfoldable pub givens : Book → List Call → List (List ℕ)
givens b [] = []
givens b (edit e ∷ cs) = givens (next b (edit e)) cs
givens b (undo ∷ cs) = givens (next b undo) cs
givens b (close room ∷ cs) = given b (close room) ∷ givens (next b (close room)) cs
