-- The program: frames, requests, what each does to the session and what it prints.
--   program_records, program_words, min_frame, max_frame
--                   the most records, the words of work and of list that the program lends, and the least and the most that a frame's length may be
--   number16 s p    the two-byte number at place p of the bytes s, little-endian
--   following i     how many bytes follow the length at the front of the bytes i: that number, if it is there and a frame may have it, else 0
--   whole_front i    how many bytes the frame at the front of i is, with its length, if all of them are there; 0 if no whole frame stands there
--   two_bytes n, frame_of k s
--                   a number below 65,536 as two bytes, little-endian; the bytes of a frame of kind k with the body s
--   open_kind, pairs_kind, chain_kind, total_kind
--                   the kinds of frames that are no call; those of calls are a history's (register `add_kind` .. `reinstate_kind`)
--   Request         what is asked of an opened session: a call of the book; a pair question with its text; a chain question with from, to and its text;
--                   asking for the total of a label
--   Frame           what a frame says: opening with n, a request, or the cause why it says neither
--   shape_of k       the shape of the body of kind k: empty, a record, a link, a size, a label, an expression, or two ends and an expression; or no kind's
--   fits h n        whether a body of the shape h may have n bytes
--   called e        what a frame says whose kind and arguments are the entry e of a history
--   taken h k s     what a frame of kind k says whose body s has the shape h and fits
--   decode k s      what a frame of kind k with the body s says: an unknown kind comes before a wrong body size
--   Session         no register opened yet, or the book of the one that is
--   open_answer n    the answer to opening with n: in the program n is 1 to 64
--   row_records, engine_for n
--                   the most records whose pair questions are answered by rows; the engine: by rows up to so many records, by trees above
--   next_session s f the session after a frame
--   Right s f v t   v is the verdict on the frame's text, and t the reply to its chain question, where it has them and a register is opened
--   printing w l s f v t
--                   the bytes that the frame prints, if w words of work and a list that holds l are lent; and what the list holds after it: only a question
--                   to an opened session writes its answer there
--   frame_at i       what the whole frame at the front of i says
--   Run w s l i o s' l'
--                   a run with w words of work from the session s on, and a list that holds l: with the bytes i on standard input it prints the bytes o,
--                   and leaves the session s' and the list l'
-- Assumes nothing: these are definitions.
use Rattle.std.specs.Prelude.{◌≡◌, List, [], ◌∷◌, ◌++◌, Bool, true, ◌||◌, ℕ, ◌+◌, ◌-◌, ◌*◌, ◌/◌, ◌%◌, ◌<◌, length, get_or, take, drop, leb, ltb, eqb}
use Rattle.book.specs.Basics.{pick}
use Rattle.book.specs.Causes.{Cause, bad_size, broken_frame, unknown_kind, not_open, number, first_number}
use Rattle.book.specs.Book.{Book, Call, answer, next, fresh, total, total_number}
use Rattle.paths.specs.Grammar.{Verdict, Judged}
use Rattle.paths.specs.Chains.{asked, Reply}
use Rattle.paths.specs.Questions.{Engine, by_trees, by_rows, pairs_answer, chain_answer, ReplyTo, list_after}
use Rattle.register.specs.History.{add_kind, remove_kind, lock_kind, unlock_kind, undo_kind, withdraw_kind, reinstate_kind, Entry, is-call, no_call, kind_call}
use Rattle.report.specs.Report.{refused_text, answer_text, total_text, outcome_text}
use Rattle.session.specs.declared.Shape.{Shape}
use Rattle.session.specs.declared.Shape.TheVariants.{Empty, Record, Link, Size, Label, Expression, Ends, Unknown}

abbrev pub program_records : ℕ
program_records = 64

abbrev pub program_words : ℕ
program_words = 4096

abbrev pub min_frame : ℕ
min_frame = 2

abbrev pub max_frame : ℕ
max_frame = 1024

unfoldable pub number16 : List ℕ → ℕ → ℕ
number16 s p = get_or s p 0 + 256 * get_or s (p + 1) 0

unfoldable pub following : List ℕ → ℕ
following i = pick (leb 2 (length i)) (pick (leb min_frame (number16 i 0)) (pick (leb (number16 i 0) max_frame) (number16 i 0) 0) 0) 0

unfoldable pub whole_front : List ℕ → ℕ
whole_front i = pick (ltb 0 (following i)) (pick (leb (following i + 2) (length i)) (following i + 2) 0) 0

unfoldable pub two_bytes : ℕ → List ℕ
two_bytes n = n % 256 ∷ n / 256 ∷ []

unfoldable pub frame_of : ℕ → List ℕ → List ℕ
frame_of k s = two_bytes (length s + 2) ++ (two_bytes k ++ s)

abbrev pub open_kind : ℕ
open_kind = 1

abbrev pub pairs_kind : ℕ
pairs_kind = 7

abbrev pub chain_kind : ℕ
chain_kind = 8

abbrev pub total_kind : ℕ
total_kind = 9

pub data Request : Type 0 where
  call : Call → Request
  pairs : List ℕ → Request
  chain : ℕ → ℕ → List ℕ → Request
  totalling : ℕ → Request

pub data Frame : Type 0 where
  opens : ℕ → Frame
  asks : Request → Frame
  faulty : Cause → Frame

unfoldable pub shape_of : ℕ → Shape
shape_of k =
    pick (eqb k open_kind) Size
    (pick (eqb k add_kind || eqb k remove_kind) Link
    (pick (eqb k lock_kind || (eqb k unlock_kind || (eqb k withdraw_kind || eqb k reinstate_kind))) Record
    (pick (eqb k undo_kind) Empty
    (pick (eqb k pairs_kind) Expression
    (pick (eqb k chain_kind) Ends
    (pick (eqb k total_kind) Label
    Unknown))))))

-- n and records have two bytes, labels one
unfoldable pub fits : Shape → ℕ → Bool
fits Empty n = eqb n 0
fits Record n = eqb n 2
fits Link n = eqb n 5
fits Size n = eqb n 2
fits Label n = eqb n 1
fits Expression n = true
fits Ends n = leb 4 n
fits Unknown n = true

unfoldable pub called : Entry → Frame
called (is-call c) = asks (call c)
called no_call = faulty unknown_kind

unfoldable pub taken : Shape → ℕ → List ℕ → Frame
taken Empty k s = called (kind_call k 0 0 0)
taken Record k s = called (kind_call k (number16 s 0) 0 0)
taken Link k s = called (kind_call k (number16 s 0) (get_or s 2 0) (number16 s 3))
taken Size k s = opens (number16 s 0)
taken Label k s = asks (totalling (get_or s 0 0))
taken Expression k s = asks (pairs s)
taken Ends k s = asks (chain (number16 s 0) (number16 s 2) (drop 4 s))
taken Unknown k s = faulty unknown_kind

unfoldable pub decode : ℕ → List ℕ → Frame
decode k s = pick (fits (shape_of k) (length s)) (taken (shape_of k) k s) (faulty broken_frame)

pub data Session : Type 0 where
  unopened : Session
  opened : Book → Session

unfoldable pub open_answer : ℕ → ℕ
open_answer n = first_number ((bad_size, ltb n 1 || ltb program_records n) ∷ [])

abbrev pub row_records : ℕ
row_records = 32

unfoldable pub engine_for : ℕ → Engine
engine_for n = pick (leb n row_records) by_rows by_trees

-- a refused open keeps the old register
unfoldable pub next_session : Session → Frame → Session
next_session s (faulty c) = s
next_session s (opens n) = pick (eqb (open_answer n) 0) (opened (fresh n)) s
next_session unopened (asks (call c)) = unopened
next_session (opened b) (asks (call c)) = opened (next b c)
next_session s (asks (pairs u)) = s
next_session s (asks (chain x y u)) = s
next_session s (asks (totalling l)) = s

pub record Right (s : Session) (f : Frame) (v : Verdict) (t : Reply) : Type 0 where
  pub text : (b : Book) (u : List ℕ) → s ≡ opened b → f ≡ asks (pairs u) → Judged u v
  pub reply : (b : Book) (x y : ℕ) (u : List ℕ) → s ≡ opened b → f ≡ asks (chain x y u) → Judged u v × ReplyTo (asked b) v x y t

-- the frame's own causes first, then that no register is opened, then those of the call
unfoldable pub printing : ℕ → List ℕ → Session → Frame → Verdict → Reply → List ℕ × List ℕ
printing work l s (faulty c) v t = (refused_text (number c), l)
printing work l s (opens n) v t = (answer_text (open_answer n), l)
printing work l unopened (asks q) v t = (refused_text (number not_open), l)
printing work l (opened b) (asks (call c)) v t = (answer_text (answer b c), l)
printing work l (opened b) (asks (pairs u)) v t = let o = pairs_answer (engine_for b.n) b v work (length l) in (outcome_text o, list_after o l)
printing work l (opened b) (asks (chain x y u)) v t = let o = chain_answer b x y v t work (length l) in (outcome_text o, list_after o l)
printing work l (opened b) (asks (totalling k)) v t = (total_text (total_number k) (total b.sheet k), l)

-- the frame at the front of bytes: the length and the kind have two bytes each
abbrev pub frame_at : List ℕ → Frame
frame_at i = decode (number16 i 2) (take (whole_front i - 4) (drop 4 i))

pub data Run (work : ℕ) : Session → List ℕ → List ℕ → List ℕ → Session → List ℕ → Type 0 where
  -- input that stops between frames
  ended : {s : Session} {l : List ℕ} → Run work s l [] [] s l
  -- a frame that is cut in its length, has a length below 2 or above 1,024, or is cut after it
  broken : {s : Session} {l i : List ℕ} → 0 < length i → whole_front i ≡ 0 → Run work s l i (refused_text (number broken_frame)) s l
  framed : {s s' : Session} {l l' i o : List ℕ} (v : Verdict) (t : Reply) → 0 < whole_front i → Right s (frame_at i) v t
      → Run work (next_session s (frame_at i)) (printing work l s (frame_at i) v t).1 (drop (whole_front i) i) o s' l'
      → Run work s l i ((printing work l s (frame_at i) v t).0 ++ o) s' l'
