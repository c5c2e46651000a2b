-- The whole history: calls made one after the other, each on the register that the one before handed back; and a history as a list of words.
--   Lent                  a list as it was lent, and as it is then
--   CallsMade r cs told ls e
--                         from r on, the calls cs gave the numbers told and the register e at the end, by results that meet `Steps` and `Closes`; ls are the
--                         lists that the closings among them were lent, in their order
--   Gives gs ls           of lists given and lists lent: each given one is written over the front of the lent one at its place
--   add_kind .. close_kind  the kinds of calls, numbered as those of the program's frames; closing up has none there
--   Entry                 what a word of a history is: a call, or none
--   kind_call, word_call    the entry that a kind and arguments, or a word of 64 bits, stand for
--   entry_number b e       the number told to an entry: the book's answer to a call; 15, unknown kind, for no call, of which the book is not asked
--   entry_next b e         the book after an entry
--   word_answers           the number told to each word
--   entry_calls, calls_of   the calls among entries, and among words, in their order
--   is_call e              whether an entry is a call
--   told_calls             of the numbers told to words, those told to calls
--   is_close c, closings cs
--                         whether a call is a closing up, and how many of the calls are
--   laid gs l             the list l, 1,024 words for each of the lists gs, with each of these written over the front of its words
--   parts k l             k lists of 1,024 words each, one behind the other in the list l
--   replay_number          the answer to replaying a list of words: 1 for n outside 1 to 1,024; 12 for a list shorter than the answers, or fewer than 1,024
--                         words of numbers for each closing up among the calls
-- Assumes nothing: these are definitions.
use Rattle.std.specs.Prelude.{◌≡◌, List, [], ◌∷◌, ◌++◌, Bool, true, false, ◌||◌, ℕ, zero, suc, ◌*◌, ◌/◌, ◌%◌, length, take, drop, eqb, ltb}
use Rattle.book.specs.Basics.{pick, tally, over}
use Rattle.book.specs.Causes.{bad_size, short_work, unknown_kind, number, first_number, max_records}
use Rattle.book.specs.Book.{Book, Edit, add, remove, lock, unlock, withdraw, reinstate, Call, edit, undo, close, answer, next}
use Rattle.register.specs.Calls.{answer_number, Steps, Closes}
use Rattle.register.specs.declared.Register.{Register}
use Rattle.register.specs.declared.Outcome.{Outcome}

pub record Lent : Type 0 where
  pub before : List ℕ
  pub after : List ℕ

pub data CallsMade : Register → List Call → List ℕ → List Lent → Register → Type 0 where
  done : {r : Register} → CallsMade r [] [] [] r
  more_edit : {r e : Register} {cs : List Call} {told : List ℕ} {ls : List Lent} {a : Edit} (out : Outcome) → Steps r (edit a) out
      → CallsMade out.register cs told ls e → CallsMade r (edit a ∷ cs) (answer_number out.answer ∷ told) ls e
  more_undo : {r e : Register} {cs : List Call} {told : List ℕ} {ls : List Lent} (out : Outcome) → Steps r undo out
      → CallsMade out.register cs told ls e → CallsMade r (undo ∷ cs) (answer_number out.answer ∷ told) ls e
  more_close : {r e : Register} {cs : List Call} {told : List ℕ} {ls : List Lent} (l : Lent) (out : Outcome) → Closes r l.before l.after out
      → CallsMade out.register cs told ls e → CallsMade r (close (length l.before) ∷ cs) (answer_number out.answer ∷ told) (l ∷ ls) e

pub data Gives : List (List ℕ) → List Lent → Type 0 where
  none_given : Gives [] []
  more_given : {g : List ℕ} {gs : List (List ℕ)} {l : Lent} {ls : List Lent} → l.after ≡ over g l.before → Gives gs ls → Gives (g ∷ gs) (l ∷ ls)

-- ---- words
abbrev pub add_kind : ℕ
add_kind = 2

abbrev pub remove_kind : ℕ
remove_kind = 3

abbrev pub lock_kind : ℕ
lock_kind = 4

abbrev pub unlock_kind : ℕ
unlock_kind = 5

abbrev pub undo_kind : ℕ
undo_kind = 6

abbrev pub withdraw_kind : ℕ
withdraw_kind = 10

abbrev pub reinstate_kind : ℕ
reinstate_kind = 11

abbrev pub close_kind : ℕ
close_kind = 12

pub data Entry : Type 0 where
  is-call : Call → Entry
  no_call : Entry

unfoldable pub kind_call : ℕ → ℕ → ℕ → ℕ → Entry
kind_call k f l t =
    pick (eqb k add_kind) (is-call (edit (add (record { from = f; label = l; to = t }))))
    (pick (eqb k remove_kind) (is-call (edit (remove (record { from = f; label = l; to = t }))))
    (pick (eqb k lock_kind) (is-call (edit (lock f)))
    (pick (eqb k unlock_kind) (is-call (edit (unlock f)))
    (pick (eqb k undo_kind) (is-call undo)
    (pick (eqb k withdraw_kind) (is-call (edit (withdraw f)))
    (pick (eqb k reinstate_kind) (is-call (edit (reinstate f)))
    no_call))))))

-- bits 40 and up are the kind, bits 24 to 39 from or the record, 16 to 23 the label, 0 to 15 to; of a closing up, bits 0 to 39 the length of its list
unfoldable pub word_call : ℕ → Entry
word_call w =
    pick (eqb (w / 1099511627776) close_kind) (is-call (close (w % 1099511627776)))
    (kind_call (w / 1099511627776) (w / 16777216 % 65536) (w / 65536 % 256) (w % 65536))

unfoldable pub entry_number : Book → Entry → ℕ
entry_number b (is-call c) = answer b c
entry_number b no_call = number unknown_kind

unfoldable pub entry_next : Book → Entry → Book
entry_next b (is-call c) = next b c
entry_next b no_call = b

unfoldable pub word_answers : Book → List ℕ → List ℕ
word_answers b [] = []
word_answers b (w ∷ ws) = entry_number b (word_call w) ∷ word_answers (entry_next b (word_call w)) ws

unfoldable pub entry_calls : Entry → List Call
entry_calls (is-call c) = c ∷ []
entry_calls no_call = []

unfoldable pub calls_of : List ℕ → List Call
calls_of [] = []
calls_of (w ∷ ws) = entry_calls (word_call w) ++ calls_of ws

unfoldable pub is_call : Entry → Bool
is_call (is-call c) = true
is_call no_call = false

unfoldable pub told_calls : List ℕ → List ℕ → List ℕ
told_calls [] told = []
told_calls (w ∷ ws) [] = []
told_calls (w ∷ ws) (k ∷ told) = pick (is_call (word_call w)) (k ∷ told_calls ws told) (told_calls ws told)

-- ---- the lists of closings up
unfoldable pub is_close : Call → Bool
is_close (edit a) = false
is_close undo = false
is_close (close room) = true

abbrev pub closings : List Call → ℕ
closings cs = tally is_close cs

unfoldable pub laid : List (List ℕ) → List ℕ → List ℕ
laid [] l = l
laid (g ∷ gs) l = over g (take max_records l) ++ laid gs (drop max_records l)

unfoldable pub parts : ℕ → Lent → List Lent
parts zero l = []
parts (suc k) l =
    record { before = take max_records l.before; after = take max_records l.after } ∷
    parts k (record { before = drop max_records l.before; after = drop max_records l.after })

-- ---- replaying words
unfoldable pub replay_number : ℕ → List ℕ → List ℕ → List ℕ → ℕ
replay_number n words told numbers =
    first_number (
    (bad_size, ltb n 1 || ltb max_records n) ∷
    (short_work, ltb (length told) (length words) || ltb (length numbers) (max_records * closings (calls_of words))) ∷ [])
