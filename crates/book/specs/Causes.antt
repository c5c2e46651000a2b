-- The causes of a refusal, their numbers, and the first of several. The orders in which they are looked for are in CauseOrders.
--   Cause           a row of the table of S6.3; the row of number 10 is two, since its two halves stand at different places in an order
--   number c        the number of a cause
--   Caused k        k is the number of a cause
--   first_number cs  of causes, each with whether it is there: the number of the first that is there, or 0 if none is
--   max_records, labels, max_links, max_held, max_bytes, max_letters, max_depth
--                   the limits
-- Assumes nothing: these are definitions.
use Rattle.std.specs.Prelude.{◌≡◌, List, [], ◌∷◌, Bool, ℕ}
use Rattle.book.specs.Basics.{pick}

pub data Cause : Type 0 where
  -- n outside 1 to 1,024 (above 64 in the program)
  bad_size : Cause
  -- record not below n
  no_record : Cause
  -- label above 25
  bad_label : Cause
  -- add or remove where either end, or both, is locked; withdrawing a locked record
  locked_end : Cause
  -- link present already; record locked already; record withdrawn already
  already : Cause
  -- link absent; record not locked; reinstating a record in use
  missing : Cause
  -- 4,096 links present at an add
  full : Cause
  -- undo with none held
  none_held : Cause
  -- expression outside the grammar
  no_expression : Cause
  -- expression over 256 bytes
  too_many_bytes : Cause
  -- expression over 63 letters or 8 deep
  too_large : Cause
  -- lent tree not well formed
  bad_tree : Cause
  -- work shorter than stated
  short_work : Cause
  -- answer that is no use in part, longer than its list
  short_list : Cause
  -- frame broken; bytes that are not the pages of the expression
  broken_frame : Cause
  -- kind unknown
  unknown_kind : Cause
  -- no register opened
  not_open : Cause
  -- withdrawing a record that a link touches
  touched_record : Cause
  -- a withdrawn record named in add, remove, lock or unlock, as base or in a tie
  withdrawn_record : Cause
  -- a tie outside the limits of offsets, with least above most, or beyond the 1,024th
  bad_tie : Cause
  -- anchors out of order or repeated
  unordered_anchors : Cause
  -- closing up with no record in use
  none_in_use : Cause

unfoldable pub number : Cause → ℕ
number bad_size = 1
number no_record = 2
number bad_label = 3
number locked_end = 4
number already = 5
number missing = 6
number full = 7
number none_held = 8
number no_expression = 9
number too_many_bytes = 10
number too_large = 10
number bad_tree = 11
number short_work = 12
number short_list = 13
number broken_frame = 14
number unknown_kind = 15
number not_open = 16
number touched_record = 17
number withdrawn_record = 18
number bad_tie = 19
number unordered_anchors = 20
number none_in_use = 21

abbrev pub Caused : ℕ → Type 0
Caused k = (c : Cause) × (k ≡ number c)

unfoldable pub first_number : List (Cause × Bool) → ℕ
first_number [] = 0
first_number (c ∷ cs) = pick c.1 (number c.0) (first_number cs)

-- the limits
abbrev pub max_records : ℕ
max_records = 1024

abbrev pub labels : ℕ
labels = 26

abbrev pub max_links : ℕ
max_links = 4096

abbrev pub max_held : ℕ
max_held = 256

abbrev pub max_bytes : ℕ
max_bytes = 256

abbrev pub max_letters : ℕ
max_letters = 63

abbrev pub max_depth : ℕ
max_depth = 8
