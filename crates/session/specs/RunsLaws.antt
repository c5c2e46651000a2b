-- Laws of runs over lent input: how a run keeps its promise turn by turn, and what a run and the program's loop are.
--   Frames i n           the first n bytes of i are whole frames, one after another
--   runs_advance         a run advances as its turns do
--   runs_wrote, runs_keeps, runs_frames, runs_ends, runs_full
--                        over any contents: past what a run printed out is as it was; the list keeps its length; what it read is whole frames; it has no
--                        more to do only where no whole frame stands, and more only if less is left of out than a frame may print
--   Leads st i l out st' l' m read written
--                        from the state st, the list l and out on a run came to the state st', the list l' and m, with so many bytes read and
--                        written, so that any run on from there is a run from the start: the invariant of the loop
--   leads_start          it holds before the first turn
--   rest-is              out, with what was written into the rest of it
--   part_turn            a turn over the rest of input and out, which are lent as parts
--   with_turn read w q b  a run that had read and written so much, with the turn q, if it tells b of whether there is more to do
--   leads_done, leads_full, leads_more
--                        a turn more: with no more to do, with too little room, one that read
--   all_sent, sent_told   what the program tells: that not all was sent, exactly if a write failed
--   wrote_front          a text that was written stands at the front of out
--   prints_run           a run with no more to do has printed the one output that the definition of a run says, and left its one session and list
--   lent_read            a turn of the program that has more to do has read all that it lent
--   loop_runs            the program's loop that came to its end has printed the one output of what it lent, and left its session and list
--   LoopsOn n st l m st' l'
--                        from the state st and the list l on a loop of at most n turns came to the state st' and the list l', with m turns left, so that any
--                        loop on from there is a loop from the start: the invariant of the program
--   Looped n st l e      a loop that ended by e, and what it left
--   loops_start, loops_more
--                        it holds before the first turn, and after one that has more to do
--   loops_stop, loops_fail, loops_spent
--                        a loop that ends: with no more to do, at a write that failed, with no turns left
--   looped_answered      such a loop from the start is the program
-- Assumes nothing.
use Rattle.std.specs.Prelude.{◌≡◌, refl, Bool, true, false, ℕ, suc, ◌+◌, ◌-◌, ◌≤◌, ◌<◌, drop, replicate}
use Rattle.std.proofs.Common.{sym, subst, ◌∙◌, add_assoc, arith, drop_of_length-le, take_all, take_at, drop-drop, length-take-le, ltb-true, ltb-false, le-ltb}
use Rattle.std.proofs.Common.{lt-ltb}
use Rattle.std.proofs.Math.Path.{ap}
use mathlib.Core.List.{List, [], ◌++◌, append_assoc, append-nil}
use Rattle.std.proofs.Math.Nat.{zero-add}
use Rattle.std.proofs.Math.Decide.{dec_lt}
use Rattle.std.proofs.Math.ListN.{length, take, length-drop}
use Rattle.std.proofs.Math.Seq.{take-append-add, drop-append-add}
use borrow.Rule.Slice.PartMut.{put_mid}
use Rattle.report.specs.Report.{outcome_text}
use Rattle.answers.specs.Written.{written, Wrote}
use Rattle.answers.specs.WrittenLaws.{length_written, wrote_as, wrote_none, wrote_then}
use Rattle.session.specs.Program.{program_words, whole_front, Session, unopened, Run}
use Rattle.session.specs.RunLaws.{run_only}
use Rattle.session.specs.StepLaws.{whole_some, GoesOn, stays}
use Rattle.session.specs.TurnLaws.{both_ways}
use Rattle.session.specs.Turns.{StateOf, room, Spares, as_it_was, answered}
use Rattle.session.specs.Runs.{Came, Advances, stayed, OneTurn, and_then, RunsOn, full, done, reads}
use Rattle.session.specs.Runs.{Lends, End, ended, unsent, spent, Loop, no_turns, stops, fails, goes_on, most_turns, Answered}
use Rattle.session.specs.declared.State.{State}
use Rattle.session.specs.declared.Ran.{Ran}

pub data Frames : List ℕ → ℕ → Type 0 where
  no_frames : {i : List ℕ} → Frames i 0
  frames : {i : List ℕ} {n : ℕ} → 0 < whole_front i → Frames (drop (whole_front i) i) n → Frames i (whole_front i + n)

module _ (work : ℕ) where
  -- ---- turns one after another
  -- a text written into a part of out is written into out
  wrote_part : (w q : ℕ) (p m part : List ℕ) → w ≤ length m → Wrote 0 p (drop w m) part q → Wrote w p m (take w m ++ part) (w + q)
  unfolding written
  wrote_part w q p m part h r =
      let size : w + q ≡ w + length p = omega (arith, r.place) in
      record {
        contents = ap (λ (l : List ℕ). take w m ++ l) (r.contents ∙ rw zero-add (ap (λ (l : List ℕ). p ++ l) (drop-drop (length p) w m)));
        place = size;
        fits = omega (arith, r.fits, length-drop w m);
      }

  -- a turn, and what advances from there
  goes_further : (st : State) (i l k k' out m part : List ℕ) (r q : Ran) → length m ≡ length out → Advances st i work l k out m r → r.more ≡ true
      → Advances r.state (drop r.read i) work k k' (drop r.written m) part q
      → Advances st i work l k' out (take r.written m ++ part) (and_then r q)
  goes_further st i l k k' out m part r q same a more b =
      record {
        inside = omega (arith, a.inside, b.inside, length-drop r.read i);
        within = omega (arith, a.within, b.within, length-drop r.written m);
        ends = ending;
        goes = going;
      }
    where
      wrote : (o p : List ℕ) → Wrote 0 o out m r.written → Wrote 0 p (drop r.written m) part q.written
          → Wrote 0 (o ++ p) out (take r.written m ++ part) (r.written + q.written)
      wrote o p u v = wrote_then u (wrote_part r.written q.written p m part (omega (arith, a.within)) v)

      ending : q.more ≡ false → (s : Session) → StateOf st s
          → Came out (take r.written m ++ part) (and_then r q) (λ o s'. Run work s l i o s' k')
      ending e s h =
          let x = a.goes more s h in
          let y = b.ends e x.session x.holds in
          record {
            output = x.output ++ y.output;
            session = y.session;
            wrote = wrote x.output y.output x.wrote y.wrote;
            holds = y.holds;
            runs =
                subst (λ (d : List ℕ). Run work s l d (x.output ++ y.output) y.session k') (append-nil i)
                (x.runs [] y.output y.session k'
                (subst (λ (d : List ℕ). Run work x.session k d y.output y.session k') (sym (append-nil (drop r.read i))) y.runs));
          }

      going : q.more ≡ true → (s : Session) → StateOf st s → GoesOn work s l k' i out (take r.written m ++ part) (and_then r q)
      going e s h =
          let x = a.goes more s h in
          let y = b.goes e x.session x.holds in
          record {
            output = x.output ++ y.output;
            session = y.session;
            wrote = wrote x.output y.output x.wrote y.wrote;
            holds = y.holds;
            runs = λ j p s' l'' run.
                subst (λ (d : List ℕ). Run work s l (i ++ j) d s' l'') (sym (append_assoc x.output y.output p))
                (x.runs j (y.output ++ p) s' l''
                (y.runs j p s' l'' (subst (λ (d : List ℕ). Run work y.session k' (d ++ j) p s' l'') (sym (drop-drop q.read r.read i)) run)));
          }

  -- ---- what a turn and a run say over any contents
  spares_wrote : {l l' out out' : List ℕ} {w : ℕ} → Spares l l' out out' w → (t : List ℕ) × Wrote 0 t out out' w
  spares_wrote (as_it_was t w e) = (t, w)
  spares_wrote (answered o w e) = (outcome_text o, w)

  wrote_length : {t out out' : List ℕ} {w : ℕ} → Wrote 0 t out out' w → length out' ≡ length out
  wrote_length {t} {out} w = ap length w.contents ∙ length_written 0 t out (omega (arith, w.place, w.fits))

  -- a turn that read had room for a frame that stands there, and has more to do
  turn_read : {st : State} {i l l' out out' : List ℕ} {r : Ran} → OneTurn st i work l l' out out' r → 0 < r.read
      → record { whole : r.read ≡ whole_front i; goes : r.more ≡ true }
  turn_read {i = i} {l = l} {out = out} {r = r} a h = at (dec_lt (length out) (room (length l)))
    where
      at : Dec (length out < room (length l)) → record { whole : r.read ≡ whole_front i; goes : r.more ≡ true }
      at (yes k) = absurd (let e : r.read ≡ 0 = ap (λ (q : Ran). q.read) (a.short k).0 in omega arith)
      at (no k) =
          let (read_whole, more-whole) = a.roomy (omega arith) in
          record { whole = read_whole; goes = more-whole ∙ lt-ltb 0 (whole_front i) (omega (arith, read_whole)) }

  pub runs_advance : {st : State} {i l l' out out' : List ℕ} {r : Ran} → RunsOn work st i l l' out out' r → Advances st i work l l' out out' r
  runs_advance (full {st = st} {i = i} {l = l} {out = out} h) = (stays work st i l out h).advances
  runs_advance (done a e) = a.advances
  runs_advance (reads {st = st} {i = i} {l = l} {l' = k} {l'' = k'} {out = out} {out' = m} {rest = part} {r = r} {q = q} a h on) =
      goes_further st i l k k' out m part r q (wrote_length (spares_wrote a.spares).1) a.advances (turn_read a h).goes (runs_advance on)

  -- past what was printed, out is as it was
  pub runs_wrote : {st : State} {i l l' out out' : List ℕ} {r : Ran} → RunsOn work st i l l' out out' r → (t : List ℕ) × Wrote 0 t out out' r.written
  runs_wrote (full {out = out} h) = ([], wrote_none 0 out (omega arith))
  runs_wrote (done a e) = spares_wrote a.spares
  runs_wrote (reads {out' = m} {rest = part} {r = r} {q = q} a h on) =
      let (t, first) = spares_wrote a.spares in
      let (u, others) = runs_wrote on in
      (t ++ u, wrote_then first (wrote_part r.written q.written u m part (omega (arith, first.fits, wrote_length first)) others))

  pub runs_keeps : {st : State} {i l l' out out' : List ℕ} {r : Ran} → RunsOn work st i l l' out out' r → length l' ≡ length l
  runs_keeps (full h) = refl
  runs_keeps (done a e) = a.keeps
  runs_keeps (reads a h on) = runs_keeps on ∙ a.keeps

  -- what was read is whole frames
  pub runs_frames : {st : State} {i l l' out out' : List ℕ} {r : Ran} → RunsOn work st i l l' out out' r → Frames i r.read
  runs_frames (full h) = no_frames
  runs_frames (done {i = i} {l = l} {out = out} {r = r} a e) = subst (λ (n : ℕ). Frames i n) (sym (none (dec_lt 0 r.read))) no_frames
    where
      none : Dec (0 < r.read) → r.read ≡ 0
      none (yes h) = absurd (both_ways r.more (turn_read a h).goes e)
      none (no h) = omega arith
  runs_frames (reads {i = i} {r = r} {q = q} a h on) =
      let e = (turn_read a h).whole in
      subst (λ (n : ℕ). Frames i (n + q.read)) (sym e)
      (frames (omega (arith, e, h)) (subst (λ (n : ℕ). Frames (drop n i) q.read) e (runs_frames on)))

  -- there is no more to do only where no whole frame stands, and more only if less is left of out than a frame may print
  pub runs_ends : {st : State} {i l l' out out' : List ℕ} {r : Ran} → RunsOn work st i l l' out out' r → r.more ≡ false → whole_front (drop r.read i) ≡ 0
  runs_ends (full h) e = absurd (both_ways true refl e)
  runs_ends (done {i = i} {l = l} {out = out} {r = r} a f) e = at (dec_lt (length out) (room (length l)))
    where
      at : Dec (length out < room (length l)) → whole_front (drop r.read i) ≡ 0
      at (yes k) = absurd (both_ways r.more (ap (λ (q : Ran). q.more) (a.short k).0) e)
      at (no k) =
          let (read_whole, more-whole) = a.roomy (omega arith) in
          let none = ltb-false 0 (whole_front i) (sym more-whole ∙ e) in
          let z : r.read ≡ 0 = omega (arith, read_whole, none) in
          ap (λ (n : ℕ). whole_front (drop n i)) z ∙ omega (arith, none)
  runs_ends (reads {i = i} {r = r} {q = q} a h on) e = ap whole_front (sym (drop-drop q.read r.read i)) ∙ runs_ends on e

  pub runs_full : {st : State} {i l l' out out' : List ℕ} {r : Ran}
      → RunsOn work st i l l' out out' r → r.more ≡ true → length out < r.written + room (length l)
  runs_full (full h) e = omega arith
  runs_full (done a f) e = absurd (both_ways _ e f)
  runs_full (reads {out' = m} {r = r} a h on) e =
      let x = (spares_wrote a.spares).1 in
      let y = runs_full on e in
      omega (arith, y, a.keeps, x.fits, wrote_length x, length-drop r.written m)

  -- ---- a run that goes on
  abbrev pub Leads : State → List ℕ → List ℕ → List ℕ → State → List ℕ → List ℕ → ℕ → ℕ → Type 0
  Leads st i l out st' l' m read written =
      (k rest : List ℕ) (q : Ran) → RunsOn work st' (drop read i) l' k (drop written m) rest q
      → RunsOn work st i l k out (take written m ++ rest) (and_then (record { state = st'; read = read; written = written; more = true }) q)

  pub leads_start : (st : State) (i l out : List ℕ) → Leads st i l out st l out 0 0
  leads_start st i l out k rest q on =
      let same : and_then (stayed st) q ≡ q =
      ap (λ (n : ℕ). record { state = q.state; read = n; written = 0 + q.written; more = q.more }) (zero-add q.read)
      ∙ ap (λ (n : ℕ). record { state = q.state; read = q.read; written = n; more = q.more }) (zero-add q.written) in
      subst (λ (r : Ran). RunsOn work st i l k out rest r) (sym same) on

  -- out, with what was written into the rest of it
  pub rest-is : (w : ℕ) (m part : List ℕ) → w ≤ length m → put_mid w (length m - w) m part ≡ take w m ++ part
  rest-is w m part h =
      let none : drop (length m - w) (drop w m) ≡ [] = drop_of_length-le (drop w m) {i = length m - w} (omega (arith, length-drop w m)) in
      rw none (ap (λ (l : List ℕ). take w m ++ l) (append-nil part))

  -- a turn over the rest of the input and of out, which are lent as parts
  pub part_turn : {st : State} {l l' part : List ℕ} {r : Ran} (i m : List ℕ) (read w words : ℕ) → words ≡ work
      → OneTurn st (take (length i - read) (drop read i)) words l l' (take (length m - w) (drop w m)) part r
      → OneTurn st (drop read i) work l l' (drop w m) part r
  part_turn i m read w words e a =
      let input : take (length i - read) (drop read i) ≡ drop read i = take_all (length i - read) (drop read i) (omega (arith, length-drop read i)) in
      let rest : take (length m - w) (drop w m) ≡ drop w m = take_all (length m - w) (drop w m) (omega (arith, length-drop w m)) in
      rw (e, input, rest) at a

  -- a run that had read and written so much, with the turn q, if it tells whether there is more to do
  abbrev pub with_turn : ℕ → ℕ → Ran → Bool → Ran
  with_turn read w q b = record { state = q.state; read = read + q.read; written = w + q.written; more = b }

  module _ {st st' : State} {i l k k' out part : List ℕ} {q : Ran} (m : List ℕ) (read w : ℕ) (f : Leads st i l out st' k m read w)
      (a : OneTurn st' (drop read i) work k k' (drop w m) part q) (h : w ≤ length m) where
    -- its last turn: no more to do
    pub leads_done : q.more ≡ false → RunsOn work st i l k' out (put_mid w (length m - w) m part) (with_turn read w q false)
    leads_done e =
        subst (λ (o : List ℕ). RunsOn work st i l k' out o (with_turn read w q false)) (sym (rest-is w m part h))
        (subst (λ (b : Bool). RunsOn work st i l k' out (take w m ++ part) (with_turn read w q b)) e (f k' part q (done a e)))

    -- more to do, and nothing read: there was too little room
    pub leads_full : q.more ≡ true → q.read ≡ 0 → RunsOn work st i l k' out (put_mid w (length m - w) m part) (with_turn read w q true)
    leads_full e z = at (dec_lt (length (drop w m)) (room (length k)))
      where
        at : Dec (length (drop w m) < room (length k)) → RunsOn work st i l k' out (put_mid w (length m - w) m part) (with_turn read w q true)
        at (no g) =
            let (read_whole, more-whole) = a.roomy (omega arith) in
            absurd (both_ways q.more e (more-whole ∙ le-ltb 0 (whole_front (drop read i)) (omega (arith, read_whole))))
        at (yes g) =
            let (same_turn, same_out) = a.short g in
            subst (λ (o : List ℕ). RunsOn work st i l k' out o (with_turn read w q true)) (sym (rest-is w m part h))
            (subst (λ (b : Bool). RunsOn work st i l k' out (take w m ++ part) (with_turn read w q b)) e
            (f k' part q
            (subst (λ (r : Ran). RunsOn work st' (drop read i) k k' (drop w m) part r) (sym same_turn)
            (subst (λ (o : List ℕ). RunsOn work st' (drop read i) k k' (drop w m) o (stayed st')) (sym same_out)
            (subst (λ (t : List ℕ). RunsOn work st' (drop read i) k t (drop w m) (drop w m) (stayed st')) (sym (a.still z).1) (full g))))))

    -- a turn that read
    pub leads_more : 0 < q.read → Leads st i l out q.state k' (put_mid w (length m - w) m part) (read + q.read) (w + q.written)
    leads_more some k'' rest t on =
        let e = rest-is w m part h in
        let n = length-take-le w m h in
        let front : take (w + q.written) (put_mid w (length m - w) m part) ++ rest ≡ take w m ++ (take q.written part ++ rest) =
        ap (λ (x : List ℕ). take (w + q.written) x ++ rest) e
        ∙ ap (λ (j : ℕ). take (j + q.written) (take w m ++ part) ++ rest) (sym n)
        ∙ ap (λ (x : List ℕ). x ++ rest) (take-append-add (take w m) part q.written)
        ∙ append_assoc (take w m) (take q.written part) rest in
        let back : drop (w + q.written) (put_mid w (length m - w) m part) ≡ drop q.written part =
        ap (λ (x : List ℕ). drop (w + q.written) x) e
        ∙ ap (λ (j : ℕ). drop (j + q.written) (take w m ++ part)) (sym n)
        ∙ drop-append-add (take w m) part q.written in
        let rest-run : RunsOn work q.state (drop q.read (drop read i)) k' k'' (drop q.written part) rest t =
        subst (λ (x : List ℕ). RunsOn work q.state x k' k'' (drop q.written part) rest t) (sym (drop-drop q.read read i))
        (subst (λ (x : List ℕ). RunsOn work q.state (drop (read + q.read) i) k' k'' x rest t) back on) in
        let sums : and_then (with_turn read w q true) t ≡ and_then (record { state = st'; read = read; written = w; more = true }) (and_then q t) =
        ap (λ (j : ℕ). record { state = t.state; read = j; written = w + q.written + t.written; more = t.more }) (add_assoc read q.read t.read)
        ∙ ap (λ (j : ℕ). record { state = t.state; read = read + (q.read + t.read); written = j; more = t.more }) (add_assoc w q.written t.written) in
        subst (λ (r : Ran). RunsOn work st i l k'' out (take (w + q.written) (put_mid w (length m - w) m part) ++ rest) r) (sym sums)
        (subst (λ (x : List ℕ). RunsOn work st i l k'' out x (and_then (record { state = st'; read = read; written = w; more = true }) (and_then q t)))
        (sym front)
        (f k'' (take q.written part ++ rest) (and_then q t) (reads a some rest-run)))

-- what the program tells of how it ended
abbrev pub all_sent : End → Bool
all_sent ended = true
all_sent unsent = false
all_sent spent = true

pub sent_told : (e : End) → (all_sent e ≡ false → e ≡ unsent) × (e ≡ unsent → all_sent e ≡ false)
sent_told ended = (λ h. absurd (both_ways true refl h), λ h. absurd (let z : ◌≡◌ {A = ℕ} 0 1 = cc in omega arith))
sent_told unsent = (λ h. refl, λ h. refl)
sent_told spent = (λ h. absurd (both_ways true refl h), λ h. absurd (let z : ◌≡◌ {A = ℕ} 0 1 = cc in omega arith))

abbrev NotEnded : End → Type 0
NotEnded ended = ⊥
NotEnded unsent = Unit
NotEnded spent = Unit

ends_apart : (e : End) → e ≡ ended → NotEnded e → ⊥
ends_apart e z = subst (λ (x : End). NotEnded x → ⊥) (sym z) (λ h. h)

-- ---- what is printed
-- what stands at the front of out is the text
pub wrote_front : {o out out' : List ℕ} {w : ℕ} → Wrote 0 o out out' w → take w out' ≡ o
unfolding written
wrote_front {o} {out} {out'} {w} h = ap (λ (l : List ℕ). take w l) h.contents ∙ take_at o (drop (0 + length o) out) w (omega (arith, h.place))

module _ (work : ℕ) where
  pub prints_run : {st : State} {s s' : Session} {i l l' m out out' : List ℕ} {r : Ran} → Advances st i work l l' out out' r → r.more ≡ false → StateOf st s
      → (o : List ℕ) → Run work s l i o s' m → Wrote 0 o out out' r.written × StateOf r.state s' × (l' ≡ m)
  prints_run {s = s} {r = r} a e h o run =
      let x = a.ends e s h in
      let (same-output, same-session, same_list) = run_only work x.runs run in
      (wrote_as same-output x.wrote, subst (λ (t : Session). StateOf r.state t) same-session x.holds, same_list)

  -- a turn of the program that has more to do has read all that it lent
  lent_read : {st : State} {l l' i out out' : List ℕ} {r : Ran} → Lends work st l l' i out out' r → r.more ≡ true → r.read ≡ length i
  lent_read {i = i} {r = r} t e =
      let (read_whole, more-whole) = t.turn.roomy t.enough in
      let w = whole_some i (ltb-true 0 (whole_front i) (sym more-whole ∙ e)) in
      omega (arith, read_whole, w, t.one)

  pub loop_runs : {n : ℕ} {st st' : State} {l l' i o : List ℕ} {e : End} → Loop work n st l i o st' l' e → e ≡ ended
      → (s : Session) → StateOf st s → (s' : Session) × StateOf st' s' × Run work s l i o s' l'
  loop_runs no_turns z s h = absurd (ends_apart spent z tt)
  loop_runs (fails t) z s h = absurd (ends_apart unsent z tt)
  loop_runs (stops {l = l} {l' = l'} {i = i} t e) z s h =
      let x = t.turn.advances.ends e s h in
      (x.session, x.holds, subst (λ (d : List ℕ). Run work s l i d x.session l') (sym (wrote_front x.wrote)) x.runs)
  loop_runs (goes_on {l = l} {l' = l'} {l'' = l''} {i = i} {j = j} {p = p} {r = r} t e on) z s h =
      let x = t.turn.advances.goes e s h in
      let (s', holds, on-run) = loop_runs on z x.session x.holds in
      let none : drop r.read i ≡ [] = drop_of_length-le i {i = r.read} (omega (arith, lent_read t e)) in
      let run : Run work x.session l' (drop r.read i ++ j) p s' l'' =
      subst (λ (d : List ℕ). Run work x.session l' (d ++ j) p s' l'') (sym none) on-run in
      (s', holds, subst (λ (d : List ℕ). Run work s l (i ++ j) (d ++ p) s' l'') (sym (wrote_front x.wrote)) (x.runs j p s' l'' run))

  -- ---- the program's loop
  abbrev pub LoopsOn : ℕ → State → List ℕ → ℕ → State → List ℕ → Type 0
  LoopsOn n st l m st' l' =
      (i o l'' : List ℕ) (st'' : State) (e : End) → Loop work m st' l' i o st'' l'' e → (j : List ℕ) × (p : List ℕ) × Loop work n st l j p st'' l'' e

  pub record Looped (n : ℕ) (st : State) (l : List ℕ) (e : End) : Type 0 where
    pub input : List ℕ
    pub output : List ℕ
    pub state : State
    pub list : List ℕ
    pub loop : Loop work n st l input output state list e

  pub loops_start : (n : ℕ) (st : State) (l : List ℕ) → LoopsOn n st l n st l
  loops_start n st l i o l'' st'' e x = (i, o, x)

  module _ (n : ℕ) (st : State) (l : List ℕ) where
    pub loops_more : (m : ℕ) (st' : State) (l' l'' i out out' : List ℕ) (r : Ran) → 0 < m → LoopsOn n st l m st' l' → Lends work st' l' l'' i out out' r
        → r.more ≡ true → LoopsOn n st l (m - 1) r.state l''
    loops_more m st' l' l'' i out out' r h f t more j o k s e x =
        let one : suc (m - 1) ≡ m = omega arith in
        f (i ++ j) (take r.written out' ++ o) k s e
        (subst (λ (q : ℕ). Loop work q st' l' (i ++ j) (take r.written out' ++ o) s k e) one (goes_on t more x))

    looped : (m : ℕ) (st' : State) (l' i o k : List ℕ) (s : State) (e : End) → 0 < m → LoopsOn n st l m st' l' → Loop work (suc (m - 1)) st' l' i o s k e
        → Looped n st l e
    looped m st' l' i o k s e h f x =
        let one : suc (m - 1) ≡ m = omega arith in
        let (j, p, all) = f i o k s e (subst (λ (j : ℕ). Loop work j st' l' i o s k e) one x) in
        record { input = j; output = p; state = s; list = k; loop = all }

    pub loops_stop : (m : ℕ) (st' : State) (l' l'' i out out' : List ℕ) (r : Ran) → 0 < m → LoopsOn n st l m st' l' → Lends work st' l' l'' i out out' r
        → r.more ≡ false → Looped n st l ended
    loops_stop m st' l' l'' i out out' r h f t more = looped m st' l' i (take r.written out') l'' r.state ended h f (stops t more)

    pub loops_fail : (m : ℕ) (st' : State) (l' l'' i out out' : List ℕ) (r : Ran) → 0 < m → LoopsOn n st l m st' l' → Lends work st' l' l'' i out out' r
        → Looped n st l unsent
    loops_fail m st' l' l'' i out out' r h f t = looped m st' l' i (take r.written out') l'' r.state unsent h f (fails t)

    pub loops_spent : (m : ℕ) (st' : State) (l' : List ℕ) → m ≡ 0 → LoopsOn n st l m st' l' → Looped n st l spent
    loops_spent m st' l' z f =
        let (j, p, all) = f [] [] l' st' spent (subst (λ (j : ℕ). Loop work j st' l' [] [] st' l' spent) (sym z) no_turns) in
        record { input = j; output = p; state = st'; list = l'; loop = all }

pub looped_answered : (st : State) (e : End) → StateOf st unopened → Looped program_words most_turns st (replicate program_words 0) e → Answered (all_sent e)
looped_answered st e h x =
    record {
      start = st;
      state = x.state;
      list = x.list;
      input = x.input;
      output = x.output;
      end = e;
      begins = h;
      loops = x.loop;
      tells = sent_told e;
    }
