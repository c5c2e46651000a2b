-- What the program's state says, and what a frame promises.
--   StateOf st s    the state st is that of the session s: opened or not, and its register represents the book, of at most 64 records
--   printed_line, room list
--                   the most bytes of a line; and of all that a frame may print, if so many words of list are lent: a line for each, and one before them
--   Spares l l' out out' w
--                   w bytes were printed at the front of out, and past them it is as it was; a list that held l and then holds l' is as it was, or has
--                   the answer that those bytes say, and past it what it held
--   Turns st f work l l' out out' r
--                   what a frame that says f promises, from the state st, with so many words of work, a list that held l and then holds l', and room
--                   in out for what it prints. Over any contents it prints within out, and writes nothing into the list but the
--                   answer that it prints; for every session that st is the state of, it leaves the state of the session after it, prints what the
--                   program must, and leaves the list that it must
--   Framing st f work l l' out out' r
--                   the same with any room: if there is too little, nothing is done
-- Assumes nothing: these are definitions.
use Rattle.std.specs.Prelude.{◌≡◌, List, true, false, ℕ, ◌+◌, ◌*◌, ◌≤◌, ◌<◌, length}
use Rattle.book.specs.Book.{Book}
use Rattle.paths.specs.Grammar.{Verdict}
use Rattle.paths.specs.Chains.{Reply}
use Rattle.paths.specs.Questions.{Outcome, list_after}
use Rattle.register.specs.Representation.{Represents}
use Rattle.report.specs.Report.{outcome_text}
use Rattle.answers.specs.Written.{Wrote}
use Rattle.session.specs.Program.{program_records, Frame, Session, unopened, opened, next_session, Right, printing}
use Rattle.session.specs.declared.State.{State}
use Rattle.session.specs.declared.Framed.{Framed}

pub data StateOf : State → Session → Type 0 where
  is_closed : {st : State} → st.opened ≡ false → StateOf st unopened
  is_open : {st : State} {b : Book} → st.opened ≡ true → Represents st.register b → b.n ≤ program_records → StateOf st (opened b)

abbrev pub printed_line : ℕ
printed_line = 13

-- the line before them, and a refusal, take no more than three such
abbrev pub room : ℕ → ℕ
room list = printed_line * (list + 3)

pub data Spares (l l' out out' : List ℕ) (w : ℕ) : Type 0 where
  as_it_was : (t : List ℕ) → Wrote 0 t out out' w → l' ≡ l → Spares l l' out out' w
  answered : (o : Outcome) → Wrote 0 (outcome_text o) out out' w → l' ≡ list_after o l → Spares l l' out out' w

pub record Turns (st : State) (f : Frame) (work : ℕ) (l l' out out' : List ℕ) (r : Framed) : Type 0 where
  pub spares : Spares l l' out out' r.written
  pub next : (s : Session) → StateOf st s → StateOf r.state (next_session s f)
  pub prints : (s : Session) → StateOf st s → (v : Verdict) (t : Reply) → Right s f v t → Wrote 0 (printing work l s f v t).0 out out' r.written
  pub list : (s : Session) → StateOf st s → (v : Verdict) (t : Reply) → Right s f v t → l' ≡ (printing work l s f v t).1

pub record Framing (st : State) (f : Frame) (work : ℕ) (l l' out out' : List ℕ) (r : Framed) : Type 0 where
  pub nothing : length out < room (length l) → (r.state ≡ st) × (r.written ≡ 0) × (out' ≡ out) × (l' ≡ l)
  pub turns : room (length l) ≤ length out → Turns st f work l l' out out' r
