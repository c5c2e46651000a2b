-- What a run over lent input promises.
--   Came out out' r R
--                   r tells of a run that printed something at the front of out, and handed back the state of a session, of which R holds
--   Advances st i work l l' out out' r
--                   r tells how far a run came from the state st and the list l over the input i: how many bytes it read, how many it printed at the
--                   front of out, the state then, and whether there is more to do; the list holds l'. Over any contents it keeps within i and out.
--                   For every session that st is the state of, it ended or has more to do, as it says. If it ended, what it printed, the session
--                   and the list l' are those of a run over i. If it has more to do, what it printed, followed by what a run prints from the session
--                   and the list that it left over the rest of i, and whatever input comes after it, is what a run over all of it prints; and both
--                   leave the same
--   stayed st       nothing read, nothing printed, and more to do
--   OneTurn st i work l l' out out' r
--                   r tells of a turn that so advanced. Over any contents: past what was printed out is as it was, and the list is as it was or has
--                   the answer that was printed; if nothing was read, state and list are as they were; with too little room for what a frame may print
--                   nothing moves, and there is more to do; with room, the whole frame at the front of i is read, and there is more to do exactly if
--                   one stands there
--   and_then r q     two parts of a run as one
--   RunsOn work st i l l' out out' r
--                   r tells of a run: turns one after another, each over the rest of i and of out, until there is too little room, or no more to do
--   Lends work st l l' i out out' r
--                   r tells of a turn of the program: it lends i, at most one frame, and room enough
--   End             how the program ends: at the end of its input or where no whole frame stands, at a write that failed, or after so many turns
--   Loop work n st l i o st' l' e
--                   the program's loop, of at most n turns, from the state st and the list l: it goes on while there is more to do and what was printed
--                   could be written. In all it lends i and prints o, has the state st' and the list l' in the end, and ends by e
--   most_turns, Answered sent
--                   the most turns of the program; and the program: such a loop, from an unopened session and a list of zeros, which tells whether all
--                   that it printed could be written
-- Assumes nothing: these are definitions.
use Rattle.std.specs.Prelude.{◌≡◌, List, [], ◌++◌, Bool, true, false, ℕ, suc, ◌+◌, ◌-◌, ◌^◌, ◌≤◌, ◌<◌, ltb, length, take, drop, replicate}
use Rattle.answers.specs.Written.{Wrote}
use Rattle.session.specs.Program.{program_words, following, whole_front, Session, unopened, Run}
use Rattle.session.specs.Turns.{StateOf, room, Spares}
use Rattle.session.specs.declared.State.{State}
use Rattle.session.specs.declared.Ran.{Ran}

pub record Came (out out' : List ℕ) (r : Ran) (R : List ℕ → Session → Type 0) : Type 0 where
  pub output : List ℕ
  pub session : Session
  pub wrote : Wrote 0 output out out' r.written
  pub holds : StateOf r.state session
  pub runs : R output session

pub record Advances (st : State) (i : List ℕ) (work : ℕ) (l l' out out' : List ℕ) (r : Ran) : Type 0 where
  pub inside : r.read ≤ length i
  pub within : r.written ≤ length out
  pub ends : r.more ≡ false → (s : Session) → StateOf st s → Came out out' r (λ o s'. Run work s l i o s' l')
  pub goes : r.more ≡ true → (s : Session) → StateOf st s → Came out out' r (λ o s'. (j p : List ℕ) (s'' : Session) (l'' : List ℕ)
      → Run work s' l' (drop r.read i ++ j) p s'' l'' → Run work s l (i ++ j) (o ++ p) s'' l'')

abbrev pub stayed : State → Ran
stayed st = record { state = st; read = 0; written = 0; more = true }

pub record OneTurn (st : State) (i : List ℕ) (work : ℕ) (l l' out out' : List ℕ) (r : Ran) : Type 0 where
  pub advances : Advances st i work l l' out out' r
  pub spares : Spares l l' out out' r.written
  pub keeps : length l' ≡ length l
  pub still : r.read ≡ 0 → (r.state ≡ st) × (l' ≡ l)
  pub short : length out < room (length l) → (r ≡ stayed st) × (out' ≡ out)
  pub roomy : room (length l) ≤ length out → (r.read ≡ whole_front i) × (r.more ≡ ltb 0 (whole_front i))

abbrev pub and_then : Ran → Ran → Ran
and_then r q = record { state = q.state; read = r.read + q.read; written = r.written + q.written; more = q.more }

pub data RunsOn (work : ℕ) : State → List ℕ → List ℕ → List ℕ → List ℕ → List ℕ → Ran → Type 0 where
  full : {st : State} {i l out : List ℕ} → length out < room (length l) → RunsOn work st i l l out out (stayed st)
  done : {st : State} {i l l' out out' : List ℕ} {r : Ran} → OneTurn st i work l l' out out' r → r.more ≡ false → RunsOn work st i l l' out out' r
  reads : {st : State} {i l l' l'' out out' rest : List ℕ} {r q : Ran} → OneTurn st i work l l' out out' r → 0 < r.read
      → RunsOn work r.state (drop r.read i) l' l'' (drop r.written out') rest q
      → RunsOn work st i l l'' out (take r.written out' ++ rest) (and_then r q)

-- ---- the program
pub record Lends (work : ℕ) (st : State) (l l' i out out' : List ℕ) (r : Ran) : Type 0 where
  pub turn : OneTurn st i work l l' out out' r
  pub enough : room (length l) ≤ length out
  pub one : length i ≤ following i + 2

pub data End : Type 0 where
  ended : End
  unsent : End
  spent : End

pub data Loop (work : ℕ) : ℕ → State → List ℕ → List ℕ → List ℕ → State → List ℕ → End → Type 0 where
  no_turns : {st : State} {l : List ℕ} → Loop work 0 st l [] [] st l spent
  stops : {n : ℕ} {st : State} {l l' i out out' : List ℕ} {r : Ran} → Lends work st l l' i out out' r → r.more ≡ false
      → Loop work (suc n) st l i (take r.written out') r.state l' ended
  fails : {n : ℕ} {st : State} {l l' i out out' : List ℕ} {r : Ran} → Lends work st l l' i out out' r
      → Loop work (suc n) st l i (take r.written out') r.state l' unsent
  goes_on : {n : ℕ} {st st' : State} {l l' l'' i j p out out' : List ℕ} {r : Ran} {e : End} → Lends work st l l' i out out' r → r.more ≡ true
      → Loop work n r.state l' j p st' l'' e → Loop work (suc n) st l (i ++ j) (take r.written out' ++ p) st' l'' e

abbrev pub most_turns : ℕ
most_turns = 2 ^ 64 - 1

pub record Answered (sent : Bool) : Type 0 where
  pub start : State
  pub state : State
  pub list : List ℕ
  pub input : List ℕ
  pub output : List ℕ
  pub end : End
  pub begins : StateOf start unopened
  pub loops : Loop program_words most_turns start (replicate program_words 0) input output state list end
  pub tells : (sent ≡ false → end ≡ unsent) × (end ≡ unsent → sent ≡ false)
