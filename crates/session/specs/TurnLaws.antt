-- Laws of the program's frames: what a frame's promise follows from, case by case.
--   both_ways      a test does not come out both ways
--   open_none, open_many, open_fine, fresh_fine
--                  opening with n: 1 for none or more than 64, else accepted
--   next_size      a call keeps n, or lowers it
--   decode_taken, decode_unfit
--                  a body that fits is taken by the shape of its kind; one that does not says that the frame is broken
--   decode_long    the body of a chain question has its two record numbers in front of its text
--   faulty_turns   a frame that says no request
--   closed_turns   any request but open while no register is opened
--   open_turns     a request while one is
--   kept_turns, fresh_turns
--                  a refused open keeps the session, an accepted one begins afresh
--   call_turns     an edit, undo or closing up
--   pairs_turns, chain_turns
--                  the two questions, which leave the session as it was
--   total_turns    asking for a total
--   part_turns     a chain question's text is the part of its body from byte 4 on
--   none_framed, turned_framed
--                  with too little room for out nothing is done; with enough, what a turn promises
-- Assumes nothing.
use Rattle.std.specs.Prelude.{◌≡◌, List, [], ◌∷◌, Bool, true, false, ℕ, zero, suc, ◌-◌, ◌≤◌, ◌<◌, length, take, drop}
use Rattle.std.proofs.Math.Path.{refl, ap}
use Rattle.std.proofs.Common.{sym, subst, ◌∙◌, arith, length-drop, take_all, lt-ltb, le-ltb, leb-true}
use Rattle.book.specs.Basics.{pick}
use Rattle.book.specs.Causes.{Cause, bad_size, broken_frame, not_open, number, first_number, max_records}
use Rattle.book.proofs.RankLaws.{rank_le}
use Rattle.book.specs.Book.{Book, Sheet, Call, edit, undo, close, turned, undone, used, closed, edit_answer, edited, close_answer, answer, next, fresh_answer}
use Rattle.book.specs.Book.{fresh, total, total_number}
use Rattle.paths.specs.Grammar.{Verdict}
use Rattle.paths.specs.Chains.{asked, Reply}
use Rattle.paths.specs.Questions.{Outcome, ReplyTo, pairs_answer, chain_answer, list_after}
use Rattle.paths.specs.Verdicts.{verdict}
use Rattle.paths.proofs.VerdictLaws.{verdict_only}
use Rattle.register.specs.declared.Outcome.{Outcome as Told}
use Rattle.register.specs.Representation.{Represents}
use Rattle.register.specs.Calls.{answer_number, Steps}
use Rattle.register.specs.HistoryLaws.{number_answer}
use Rattle.register.specs.History.{Entry, is-call, no_call}
use Rattle.register.specs.Questions.{Totals}
use Rattle.answers.specs.declared.Counted.{Counted}
use Rattle.report.specs.Report.{refused_text, answer_text, ok_text, outcome_text}
use Rattle.answers.specs.Written.{Wrote}
use Rattle.answers.specs.WrittenLaws.{wrote_as}
use Rattle.session.specs.Program.{program_records, Request, Frame, asks, faulty, opens, call, pairs, chain, totalling, Session, unopened, opened}
use Rattle.session.specs.Program.{shape_of, fits, called, taken, decode, open_answer, engine_for, next_session, Right, printing}
use Rattle.session.specs.Turns.{StateOf, is_closed, is_open, room, Spares, as_it_was, answered, Turns, Framing}
use Rattle.session.specs.Listing.{total_said, total-said}
use Rattle.session.specs.declared.Shape.{Shape}
use Rattle.session.specs.declared.Shape.TheVariants.{Empty, Record, Link, Size, Label, Expression, Ends, Unknown}
use Rattle.session.specs.declared.State.{State}
use Rattle.session.specs.declared.Framed.{Framed}

pub both_ways : (b : Bool) → b ≡ true → b ≡ false → ⊥
both_ways b h k = let z : ◌≡◌ {A = ℕ} 0 1 = cc in omega arith

-- ---- opening
pub open_none : (n : ℕ) → n < 1 → open_answer n ≡ number bad_size
unfolding open_answer first_number number
open_none n h = rw (lt-ltb n 1 h)

pub open_many : (n : ℕ) → 1 ≤ n → program_records < n → open_answer n ≡ number bad_size
unfolding open_answer first_number number
open_many n h k = rw (le-ltb n 1 h, lt-ltb program_records n k)

pub open_fine : (n : ℕ) → 1 ≤ n → n ≤ program_records → open_answer n ≡ 0
unfolding open_answer first_number number
open_fine n h k = rw (le-ltb n 1 h, le-ltb program_records n k)

pub fresh_fine : (n : ℕ) → 1 ≤ n → n ≤ program_records → fresh_answer n ≡ 0
unfolding fresh_answer first_number number
fresh_fine n h k = rw (le-ltb n 1 h, le-ltb max_records n (omega arith))

-- ---- a call keeps n, or lowers it
turned_size : (k : ℕ) (b : Book) (s : Sheet) → (turned k b s).n ≡ b.n
unfolding turned
turned_size zero b s = refl
turned_size (suc k) b s = refl

undone_size : (b : Book) (ss : List Sheet) → (undone b ss).n ≡ b.n
unfolding undone
undone_size b [] = refl
undone_size b (s ∷ ss) = refl

closed_size : (k : ℕ) (b : Book) → (closed k b).n ≤ b.n
unfolding closed
closed_size zero b = rank_le (used b.n b.sheet) b.n
closed_size (suc k) b = omega arith

pub next_size : (b : Book) (c : Call) → (next b c).n ≤ b.n
unfolding next
next_size b (edit e) = omega (arith, turned_size (edit_answer b.n b.sheet e) b (edited e b.sheet))
next_size b undo = omega (arith, undone_size b b.pile)
next_size b (close room) = closed_size (close_answer b.n b.sheet room) b

-- ---- a body by the shape h of its kind
module _ {h : Shape} (k : ℕ) (s : List ℕ) (e : h ≡ shape_of k) where
  pub decode_taken : fits h (length s) ≡ true → taken h k s ≡ decode k s
  unfolding decode
  decode_taken f = rw (← e, f)

  pub decode_unfit : fits h (length s) ≡ false → faulty broken_frame ≡ decode k s
  unfolding decode
  decode_unfit f = rw (← e, f)

-- ---- the body of a chain question
picked : {f : Frame} {q : Request} (b : Bool) → pick b f (faulty broken_frame) ≡ asks q → (b ≡ true) × (f ≡ asks q)
picked true e = (refl, e)
picked false e = absurd (let z : ◌≡◌ {A = ℕ} 0 1 = cc in omega arith)

not_called : (e : Entry) (x y : ℕ) (u : List ℕ) → called e ≡ asks (chain x y u) → ⊥
unfolding called
not_called (is-call c) x y u e = let z : ◌≡◌ {A = ℕ} 0 1 = cc in omega arith
not_called no_call x y u e = let z : ◌≡◌ {A = ℕ} 0 1 = cc in omega arith

taken_long : (h : Shape) (k : ℕ) (s : List ℕ) (x y : ℕ) (u : List ℕ) → fits h (length s) ≡ true → taken h k s ≡ asks (chain x y u) → 4 ≤ length s
unfolding fits taken
taken_long Empty k s x y u f e = absurd (not_called _ x y u e)
taken_long Record k s x y u f e = absurd (not_called _ x y u e)
taken_long Link k s x y u f e = absurd (not_called _ x y u e)
taken_long Size k s x y u f e = absurd (let z : ◌≡◌ {A = ℕ} 0 1 = cc in omega arith)
taken_long Label k s x y u f e = absurd (let z : ◌≡◌ {A = ℕ} 0 1 = cc in omega arith)
taken_long Expression k s x y u f e = absurd (let z : ◌≡◌ {A = ℕ} 0 1 = cc in omega arith)
taken_long Ends k s x y u f e = leb-true 4 (length s) f
taken_long Unknown k s x y u f e = absurd (let z : ◌≡◌ {A = ℕ} 0 1 = cc in omega arith)

pub decode_long : (k : ℕ) (s : List ℕ) (x y : ℕ) (u : List ℕ) → decode k s ≡ asks (chain x y u) → 4 ≤ length s
unfolding decode
decode_long k s x y u e = let p = picked (fits (shape_of k) (length s)) e in taken_long (shape_of k) k s x y u p.0 p.1

-- ---- what a frame promises
module _ (st : State) (work : ℕ) (l l' out out' : List ℕ) (r : Framed) where
  -- a frame that says no request
  pub faulty_turns : (c : Cause) → r.state ≡ st → l' ≡ l → Wrote 0 (refused_text (number c)) out out' r.written → Turns st (faulty c) work l l' out out' r
  unfolding next_session printing
  faulty_turns c kept same w =
      record { spares = as_it_was _ w same; next = λ s h. rw kept h; prints = λ s h v t q. w; list = λ s h v t q. same }

  -- any request but open while no register is opened
  pub closed_turns : (f : Frame) → next_session unopened f ≡ unopened
      → ((v : Verdict) (t : Reply) → (printing work l unopened f v t).0 ≡ refused_text (number not_open))
      → ((v : Verdict) (t : Reply) → (printing work l unopened f v t).1 ≡ l)
      → st.opened ≡ false → r.state ≡ st → l' ≡ l → Wrote 0 (refused_text (number not_open)) out out' r.written → Turns st f work l l' out out' r
  closed_turns f n p k shut kept same w = record { spares = as_it_was _ w same; next = after; prints = told; list = left }
    where
      after : (s : Session) → StateOf st s → StateOf r.state (next_session s f)
      after unopened h = rw (n, kept) h
      after (opened b) (is_open up x m) = absurd (both_ways st.opened up shut)

      told : (s : Session) → StateOf st s → (v : Verdict) (t : Reply) → Right s f v t → Wrote 0 (printing work l s f v t).0 out out' r.written
      told unopened h v t q = rw (p v t) w
      told (opened b) (is_open up x m) v t q = absurd (both_ways st.opened up shut)

      left : (s : Session) → StateOf st s → (v : Verdict) (t : Reply) → Right s f v t → l' ≡ (printing work l s f v t).1
      left unopened h v t q = same ∙ sym (k v t)
      left (opened b) (is_open up x m) v t q = absurd (both_ways st.opened up shut)

  -- a request while one is
  pub open_turns : (f : Frame) → st.opened ≡ true → Spares l l' out out' r.written
      → ((b : Book) → Represents st.register b → b.n ≤ program_records → StateOf r.state (next_session (opened b) f))
      → ((b : Book) → Represents st.register b → (v : Verdict) (t : Reply) → Right (opened b) f v t
      → Wrote 0 (printing work l (opened b) f v t).0 out out' r.written × (l' ≡ (printing work l (opened b) f v t).1))
      → Turns st f work l l' out out' r
  open_turns f up spared n p =
      record { spares = spared; next = after; prints = λ s h v t q. (told s h v t q).0; list = λ s h v t q. (told s h v t q).1 }
    where
      after : (s : Session) → StateOf st s → StateOf r.state (next_session s f)
      after unopened (is_closed shut) = absurd (both_ways st.opened up shut)
      after (opened b) (is_open o x m) = n b x m

      told : (s : Session) → StateOf st s → (v : Verdict) (t : Reply) → Right s f v t
          → Wrote 0 (printing work l s f v t).0 out out' r.written × (l' ≡ (printing work l s f v t).1)
      told unopened (is_closed shut) v t q = absurd (both_ways st.opened up shut)
      told (opened b) (is_open o x m) v t q = p b x v t q

  -- a refused open keeps the session, an accepted one begins afresh
  pub kept_turns : (n : ℕ) → open_answer n ≡ number bad_size → r.state ≡ st → l' ≡ l → Wrote 0 (refused_text (number bad_size)) out out' r.written
      → Turns st (opens n) work l l' out out' r
  unfolding next_session printing number answer_text
  kept_turns n e kept same w =
      record { spares = as_it_was _ w same; next = λ s h. rw (e, kept) h; prints = λ s h v t q. rw e w; list = λ s h v t q. same }

  pub fresh_turns : (n : ℕ) → open_answer n ≡ 0 → n ≤ program_records → r.state.opened ≡ true → Represents r.state.register (fresh n) → l' ≡ l
      → Wrote 0 ok_text out out' r.written → Turns st (opens n) work l l' out out' r
  unfolding next_session printing answer_text fresh
  fresh_turns n e small up x same w =
      record { spares = as_it_was _ w same; next = λ s h. rw e (is_open up x small); prints = λ s h v t q. rw e w; list = λ s h v t q. same }

  -- an edit or undo
  pub call_turns : (c : Call) (o : Told) → Steps st.register c o → st.opened ≡ true → r.state.opened ≡ true → r.state.register ≡ o.register → l' ≡ l
      → Wrote 0 (answer_text (answer_number o.answer)) out out' r.written → Turns st (asks (call c)) work l l' out out' r
  unfolding next_session printing
  call_turns c o steps up up' kept same w =
      open_turns (asks (call c)) up (as_it_was _ w same)
      (λ b x m. is_open up' (rw kept (steps.follows b x)) (omega (arith, next_size b c)))
      (λ b x v t q. (wrote_as (ap answer_text (ap answer_number (steps.answers b x) ∙ number_answer (answer b c))) w, same))

  -- the two questions, which leave the session as it was
  pub pairs_turns : (u : List ℕ) (o : Outcome) → st.opened ≡ true → r.state ≡ st → l' ≡ list_after o l
      → ((b : Book) → Represents st.register b → (o ≡ pairs_answer (engine_for b.n) b (verdict u) work (length l))
      × (l' ≡ list_after (pairs_answer (engine_for b.n) b (verdict u) work (length l)) l))
      → Wrote 0 (outcome_text o) out out' r.written → Turns st (asks (pairs u)) work l l' out out' r
  unfolding next_session printing
  pairs_turns u o up kept left says w =
      open_turns (asks (pairs u)) up (answered o w left)
      (λ b x m. rw kept (is_open up x m))
      (λ b x v t q.
      let same = ap (λ (e : Verdict). pairs_answer (engine_for b.n) b e work (length l)) (sym (verdict_only (q.text b u refl refl))) in
      (wrote_as (ap outcome_text ((says b x).0 ∙ same)) w, (says b x).1 ∙ ap (λ (a : Outcome). list_after a l) same))

  pub chain_turns : (x y : ℕ) (u : List ℕ) (o : Outcome) → st.opened ≡ true → r.state ≡ st → l' ≡ list_after o l
      → ((b : Book) → Represents st.register b → (t : Reply) → ReplyTo (asked b) (verdict u) x y t
      → (o ≡ chain_answer b x y (verdict u) t work (length l)) × (l' ≡ list_after (chain_answer b x y (verdict u) t work (length l)) l))
      → Wrote 0 (outcome_text o) out out' r.written → Turns st (asks (chain x y u)) work l l' out out' r
  unfolding next_session printing
  chain_turns x y u o up kept left says w =
      open_turns (asks (chain x y u)) up (answered o w left)
      (λ b h m. rw kept (is_open up h m))
      (λ b h v t q.
      let right = q.reply b x y u refl refl in
      let e = verdict_only right.0 in
      let told = says b h t (subst (λ (d : Verdict). ReplyTo (asked b) d x y t) e right.1) in
      let same = ap (λ (d : Verdict). chain_answer b x y d t work (length l)) (sym e) in
      (wrote_as (ap outcome_text (told.0 ∙ same)) w, told.1 ∙ ap (λ (a : Outcome). list_after a l) same))

  -- asking for a total
  pub total_turns : (x : ℕ) (a : Counted) → Totals st.register x a → st.opened ≡ true → r.state ≡ st → l' ≡ l
      → Wrote 0 (total_said a) out out' r.written → Turns st (asks (totalling x)) work l l' out out' r
  unfolding next_session printing
  total_turns x a told up kept same w =
      open_turns (asks (totalling x)) up (as_it_was _ w same)
      (λ b h m. rw kept (is_open up h m))
      (λ b h v t q. (wrote_as (ap total_said (told.told b h) ∙ total-said (total_number x) (total b.sheet x)) w, same))

  -- a chain question's text is the part of its body from byte 4 on
  pub part_turns : (x y : ℕ) (s : List ℕ) → Turns st (asks (chain x y (take (length s - 4) (drop 4 s)))) work l l' out out' r
      → Turns st (asks (chain x y (drop 4 s))) work l l' out out' r
  part_turns x y s t =
      subst (λ (u : List ℕ). Turns st (asks (chain x y u)) work l l' out out' r) (take_all (length s - 4) (drop 4 s) (omega (arith, length-drop 4 s))) t

  -- any room: with too little, nothing is done
  pub none_framed : (f : Frame) → length out < room (length l) → r.state ≡ st → r.written ≡ 0 → out' ≡ out → l' ≡ l → Framing st f work l l' out out' r
  none_framed f short kept none same still = record { nothing = λ h. (kept, none, same, still); turns = λ h. absurd (omega arith) }

  pub turned_framed : (f g : Frame) → f ≡ g → room (length l) ≤ length out → Turns st f work l l' out out' r → Framing st g work l l' out out' r
  turned_framed f g e h t = record { nothing = λ short. absurd (omega arith); turns = λ k. subst (λ (x : Frame). Turns st x work l l' out out' r) e t }
