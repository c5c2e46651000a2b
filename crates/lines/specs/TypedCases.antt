-- Lines and what the program takes their frames for, as a table, and one theorem: each is taken so, by computation.
--   Case            a line, and what its frame is taken for, if it has one
--   table           every request; blank lines and comments; a word that is none; arguments that do not fit; blanks; leading zeros
--   Hold cs         every line of the table cs is taken for what stands beside it
-- Assumes nothing.
use Rattle.std.specs.Prelude.{◌≡◌, refl, List, [], ◌∷◌}
use Prim.Native.String.{String}
use Rattle.book.specs.Causes.{broken_frame, unknown_kind}
use Rattle.book.specs.Book.{edit, undo, add, remove, lock, unlock, withdraw, reinstate}
use Rattle.register.specs.History.{kind_call}
use Rattle.report.specs.Report.{bytes}
use Rattle.session.specs.Program.{number16, two_bytes, Request, Frame, asks, faulty, opens, call, pairs, chain, totalling, shape_of, fits, called, taken}
use Rattle.session.specs.Program.{decode}
use Rattle.lines.specs.Typed.{blank, skip, trim, word, rest, same_bytes, empty, figure, all_figures, number_after, number_of, is_number, is_label, label_of}
use Rattle.lines.specs.Typed.{text, kind_named, argued, begun, typed}
use Rattle.lines.specs.EncodingLaws.{saying}

pub record Case : Type 0 where
  pub line : String
  pub what : List Frame

abbrev pub request : String → Request → Case
request t q = record { line = t; what = asks q ∷ [] }

abbrev pub no_word : String → Case
no_word t = record { line = t; what = faulty unknown_kind ∷ [] }

abbrev pub no_fit : String → Case
no_fit t = record { line = t; what = faulty broken_frame ∷ [] }

abbrev pub silent : String → Case
silent t = record { line = t; what = [] }

unfoldable pub table : List Case
table =
    record { line = "open 4"; what = opens 4 ∷ [] } ∷
    request "add 0 a 1" (call (edit (add (record { from = 0; label = 0; to = 1 })))) ∷
    request "  remove   65535 z 0  " (call (edit (remove (record { from = 65535; label = 25; to = 0 })))) ∷
    request "lock 1" (call (edit (lock 1))) ∷
    request "unlock 0258 " (call (edit (unlock 258))) ∷
    request " undo " (call undo) ∷
    request "pairs a/^a" (pairs (bytes "a/^a")) ∷
    request "pairs" (pairs []) ∷
    request "chain 0 3 a/b " (chain 0 3 (bytes "a/b")) ∷
    request "chain 7 8" (chain 7 8 []) ∷
    request " total z " (totalling 25) ∷
    request "withdraw 3" (call (edit (withdraw 3))) ∷
    request " reinstate 065535" (call (edit (reinstate 65535))) ∷
    silent "" ∷
    silent "  " ∷
    silent "# open 4" ∷
    silent " #" ∷
    no_word "shut" ∷
    no_word "opening 4" ∷
    no_word "Open 4" ∷
    no_fit "open" ∷
    no_fit "open 65536" ∷
    no_fit "open -1" ∷
    no_fit "lock 1 2" ∷
    no_fit "add 0 A 1" ∷
    no_fit "add 0 ab 1" ∷
    no_fit "add 0 a" ∷
    no_fit "undo x" ∷
    no_fit "chain 1 x a" ∷
    no_fit "total" ∷
    no_fit "total A" ∷
    no_fit "total a b" ∷
    no_fit "withdraw" ∷
    no_fit "reinstate a" ∷
    []

pub data Hold : List Case → Type 0 where
  none_left : Hold []
  also : {c : Case} {cs : List Case} → saying (typed (bytes c.line)) ≡ c.what → Hold cs → Hold (c ∷ cs)

pub typed_cases : Hold table
unfolding table bytes blank skip trim word rest same_bytes empty figure all_figures number_after number_of is_number is_label label_of text kind_named
    argued begun typed number16 two_bytes shape_of fits kind_call called taken decode saying
typed_cases =
    also refl (also refl (also refl (also refl (also refl (also refl (also refl (also refl (also refl (also refl (also refl (also refl (also refl
    (also refl (also refl (also refl (also refl (also refl (also refl (also refl (also refl (also refl (also refl (also refl (also refl (also refl
    (also refl (also refl (also refl (also refl (also refl (also refl (also refl (also refl
    none_left)))))))))))))))))))))))))))))))))
