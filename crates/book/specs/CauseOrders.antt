-- The orders in which causes are looked for, each as a list.
--   all_causes       every cause, in the order of Causes
--   edit_order, question_order, tree_order, close_order, support_order, offsets_order
--                   the causes of each kind of call, in the order in which they are looked for
--   InOrder cs os   the causes cs are some of the order os, in that order
-- Assumes nothing: these are definitions.
use Rattle.std.specs.Prelude.{List, [], ◌∷◌, Bool}
use Rattle.book.specs.Causes.{Cause, bad_size, no_record, bad_label, locked_end, already, missing, full, none_held, no_expression}
use Rattle.book.specs.Causes.{too_many_bytes, too_large, bad_tree, short_work, short_list, broken_frame, unknown_kind, not_open, touched_record}
use Rattle.book.specs.Causes.{withdrawn_record, bad_tie, unordered_anchors, none_in_use}

unfoldable pub all_causes : List Cause
all_causes =
    bad_size ∷ no_record ∷ bad_label ∷ locked_end ∷ already ∷ missing ∷ full ∷ none_held ∷ no_expression ∷ too_many_bytes ∷ too_large ∷ bad_tree ∷ short_work ∷
    short_list ∷ broken_frame ∷ unknown_kind ∷ not_open ∷ touched_record ∷ withdrawn_record ∷ bad_tie ∷ unordered_anchors ∷ none_in_use ∷ []

-- the orders: edits 2, 18, 3, 4, 5, 6, 7, 17; questions 2, 10 for bytes, 9, 10 for letters and depth, 12, 13; trees 1, 2, 11, 12, 13;
-- closing up 21, 13; sole support 2, 20, 10 for bytes, 9, 10 for letters and depth, 12, 13;
-- offsets 2, 18, 19, 12, 13, with "cannot all hold", which is no refusal, before 13
unfoldable pub edit_order : List Cause
edit_order = no_record ∷ withdrawn_record ∷ bad_label ∷ locked_end ∷ already ∷ missing ∷ full ∷ touched_record ∷ []

unfoldable pub question_order : List Cause
question_order = no_record ∷ too_many_bytes ∷ no_expression ∷ too_large ∷ short_work ∷ short_list ∷ []

unfoldable pub tree_order : List Cause
tree_order = bad_size ∷ no_record ∷ bad_tree ∷ short_work ∷ short_list ∷ []

unfoldable pub close_order : List Cause
close_order = none_in_use ∷ short_list ∷ []

unfoldable pub support_order : List Cause
support_order = no_record ∷ unordered_anchors ∷ too_many_bytes ∷ no_expression ∷ too_large ∷ short_work ∷ short_list ∷ []

unfoldable pub offsets_order : List Cause
offsets_order = no_record ∷ withdrawn_record ∷ bad_tie ∷ short_work ∷ short_list ∷ []

pub data InOrder : List (Cause × Bool) → List Cause → Type 0 where
  none_left : {os : List Cause} → InOrder [] os
  same_cause : {c : Cause} {t : Bool} {cs : List (Cause × Bool)} {os : List Cause} → InOrder cs os → InOrder ((c, t) ∷ cs) (c ∷ os)
  passed_over : {o : Cause} {cs : List (Cause × Bool)} {os : List Cause} → InOrder cs os → InOrder cs (o ∷ os)
