-- Laws of one turn of a run over lent input: the frame at the front, and how a turn keeps its promise.
--   following_few, following_low, following_high, following_is
--                        what follows the length at the front, case by case: too few bytes, a length out of range, one in range
--   Follows i            bytes follow the length at the front of i: their number is the length, in range
--   following_some, following_most
--                        where bytes follow, `Follows` holds; and they are at most those of a frame in any case
--   following_front      only the first two bytes tell: what is put after them changes nothing
--   whole_unframed, whole_cut, whole_is, whole_some
--                        the whole frame at the front: none where nothing follows or bytes are missing, else all of it
--   whole_long           it has a length, a kind, and all its bytes
--   Whole i n            the whole frame at the front of i is n bytes
--   frame_in n i          of bytes i that follow a length n, the frame's kind and body
--   lone_byte            a lone byte is a cut frame
--   framed_as            a turn of a run, if it is known which frame stands in the bytes and what follows it
--   front_frame           the frame at the front of the input, if it is n bytes
--   front_run            a run from a whole frame on: what it prints, then the run over what follows
--   GoesOn               what `Advances` says of a turn that has more to do
--   stays, no_frame, at-end, one_frame
--                        a turn: with too little room, where no whole frame stands, at the end, over one frame
-- Assumes nothing.
use Rattle.std.specs.Prelude.{◌≡◌, refl, Bool, true, false, leb, ltb, length, take}
use Rattle.std.proofs.Common.{sym, ◌∙◌, take-take, leb-true, ltb-true, le-leb, le-ltb, lt-ltb}
use Rattle.std.proofs.Math.Path.{ap, subst}
use mathlib.Core.List.{List, [], ◌∷◌, ◌++◌}
use Prim.Native.Nat.{ℕ, suc, ◌+◌, ◌-◌, ◌*◌, ◌≤◌, ◌<◌}
use Rattle.std.proofs.Math.Decide.{dec_lt}
use native.Mathlib.Omega.{arith}
use Rattle.std.proofs.Math.ListN.{drop, length-append}
use Rattle.std.proofs.lemmas.List.{take-append-le, drop-append-le}
use Rattle.std.proofs.lemmas.Bool.{lt-leb}
use borrow.Rule.Slice.PartMut.{put_mid, take_put}
use Rattle.book.specs.Basics.{pick}
use Rattle.book.specs.Causes.{broken_frame, number}
use Rattle.paths.specs.Grammar.{Verdict}
use Rattle.paths.specs.Chains.{Reply}
use Rattle.register.specs.HistoryLaws.{represents_sound}
use Rattle.report.specs.Report.{refused_text}
use Rattle.answers.specs.Written.{written, Wrote}
use Rattle.answers.specs.WrittenLaws.{wrote_none}
use Rattle.session.specs.Program.{min_frame, max_frame, number16, following, whole_front, Frame, decode, Session, next_session, Right, printing}
use Rattle.session.specs.Program.{frame_at, Run, ended, broken, framed}
use Rattle.session.specs.ProgramLaws.{Steady, right_exists}
use Rattle.session.specs.TurnLaws.{both_ways}
use Rattle.session.specs.Turns.{StateOf, is_closed, is_open, room, Spares, as_it_was, answered, Turns}
use Rattle.session.specs.Runs.{Came, stayed, OneTurn}
use Rattle.session.specs.declared.State.{State}
use Rattle.session.specs.declared.Framed.{Framed}
use Rattle.session.specs.declared.Ran.{Ran}

-- ---- the front of the input
pick_some : (b : Bool) (n : ℕ) → 0 < pick b n 0 → record { holds : b ≡ true; is : pick b n 0 ≡ n; positive : 0 < n }
pick_some true n h = record { holds = refl; is = refl; positive = h }
pick_some false n h = absurd (omega arith)

pub following_few : (i : List ℕ) → length i < 2 → 0 ≡ following i
unfolding following
following_few i h = rw (lt-leb 2 (length i) h)

pub following_low : (i : List ℕ) → 2 ≤ length i → number16 i 0 < min_frame → 0 ≡ following i
unfolding following
following_low i h k = rw (le-leb 2 (length i) h, lt-leb min_frame (number16 i 0) k)

pub following_high : (i : List ℕ) → 2 ≤ length i → min_frame ≤ number16 i 0 → max_frame < number16 i 0 → 0 ≡ following i
unfolding following
following_high i h k g = rw (le-leb 2 (length i) h, le-leb min_frame (number16 i 0) k, lt-leb (number16 i 0) max_frame g)

pub following_is : (i : List ℕ) → 2 ≤ length i → min_frame ≤ number16 i 0 → number16 i 0 ≤ max_frame → number16 i 0 ≡ following i
unfolding following
following_is i h k g = rw (le-leb 2 (length i) h, le-leb min_frame (number16 i 0) k, le-leb (number16 i 0) max_frame g)

pub record Follows (i : List ℕ) : Type 0 where
  pub is : following i ≡ number16 i 0
  pub least : min_frame ≤ number16 i 0
  pub most : number16 i 0 ≤ max_frame
  pub long : 2 ≤ length i

pub following_some : (i : List ℕ) → 0 < following i → Follows i
unfolding following
following_some i h =
    let a = pick_some (leb 2 (length i)) _ h in
    let b = pick_some (leb min_frame (number16 i 0)) _ a.positive in
    let d = pick_some (leb (number16 i 0) max_frame) _ b.positive in
    record { is = a.is ∙ b.is ∙ d.is; least = leb-true _ _ b.holds; most = leb-true _ _ d.holds; long = leb-true _ _ a.holds }

pub following_most : (i : List ℕ) → following i ≤ max_frame
following_most i = most (dec_lt 0 (following i))
  where
    most : Dec (0 < following i) → following i ≤ max_frame
    most (yes h) = let f = following_some i h in omega (arith, f)
    most (no h) = omega arith

-- only the first two bytes tell
following_two : (i : List ℕ) → following i ≡ following (take 2 i)
unfolding following number16
following_two [] = refl
following_two (a ∷ []) = refl
following_two (a ∷ b ∷ i) = rw (le-leb 2 (length (a ∷ b ∷ i)) (omega arith))

-- so what is put after them changes nothing
pub following_front : (b part : List ℕ) (n r : ℕ) → 2 ≤ length b → 2 ≤ r → following (take r (put_mid 2 n b part)) ≡ following (take 2 b)
following_front b part n r h k =
    following_two (take r (put_mid 2 n b part)) ∙ ap following (take-take 2 r (put_mid 2 n b part) k ∙ take_put 2 n b part h)

pub whole_unframed : (i : List ℕ) → following i ≡ 0 → 0 ≡ whole_front i
unfolding whole_front
whole_unframed i e = rw (le-ltb 0 (following i) (omega arith))

pub whole_cut : (i : List ℕ) → 0 < following i → length i < following i + 2 → 0 ≡ whole_front i
unfolding whole_front
whole_cut i h k = rw (lt-ltb 0 (following i) h, lt-leb (following i + 2) (length i) k)

pub whole_is : (i : List ℕ) → 0 < following i → following i + 2 ≤ length i → following i + 2 ≡ whole_front i
unfolding whole_front
whole_is i h k = rw (lt-ltb 0 (following i) h, le-leb (following i + 2) (length i) k)

pub whole_some : (i : List ℕ) → 0 < whole_front i
    → record { is : whole_front i ≡ following i + 2; some : 0 < following i; inside : following i + 2 ≤ length i }
unfolding whole_front
whole_some i h =
    let a = pick_some (ltb 0 (following i)) _ h in
    let b = pick_some (leb (following i + 2) (length i)) _ a.positive in
    record { is = a.is ∙ b.is; some = ltb-true _ _ a.holds; inside = leb-true _ _ b.holds }

-- a whole frame has a length, a kind, and all its bytes
pub whole_long : (i : List ℕ) (n : ℕ) → n ≡ whole_front i → 0 < n → (4 ≤ n) × (n ≤ length i)
whole_long i n e h =
    let w = whole_some i (omega arith) in
    let f = following_some i w.some in
    (omega (arith, e, w, f), omega (arith, e, w, f))

-- the whole frame at the front of i is n bytes, with its length
pub record Whole (i : List ℕ) (n : ℕ) : Type 0 where
  pub size : n ≡ number16 i 0 + 2
  pub least : min_frame ≤ number16 i 0
  pub most : number16 i 0 ≤ max_frame
  pub inside : number16 i 0 + 2 ≤ length i

-- of bytes that follow a length n: the frame's kind and body
abbrev pub frame_in : ℕ → List ℕ → Frame
frame_in n i = decode (number16 i 0) (take (n - 2) (drop 2 i))

front_whole : (a b : ℕ) (i : List ℕ) → min_frame ≤ a + 256 * b → a + 256 * b ≤ max_frame → a + 256 * b ≤ length i
    → whole_front (a ∷ b ∷ i) ≡ suc (suc (a + 256 * b))
unfolding number16
front_whole a b i h k x =
    let n : a + 256 * b ≡ following (a ∷ b ∷ i) = following_is (a ∷ b ∷ i) (omega arith) h k in
    let w = whole_is (a ∷ b ∷ i) (omega (arith, n)) (omega (arith, n)) in
    let z : whole_front (a ∷ b ∷ i) ≡ suc (suc (a + 256 * b)) = omega (arith, n, w) in z

spares_within : {l l' out out' : List ℕ} {w : ℕ} → Spares l l' out out' w → w ≤ length out
spares_within (as_it_was t h e) = h.fits
spares_within (answered o h e) = h.fits

state_steady : {st : State} {s : Session} → StateOf st s → Steady s
state_steady (is_closed e) = tt
state_steady (is_open e r k) = (represents_sound r, k)

module _ (work : ℕ) where
  pub lone_byte : {s : Session} {l : List ℕ} {a : ℕ} → Run work s l (a ∷ []) (refused_text (number broken_frame)) s l
  lone_byte {a = a} = broken {i = a ∷ []} (omega arith) (sym (whole_unframed (a ∷ []) (sym (following_few (a ∷ []) (omega arith)))))

  pub framed_as : {s s' : Session} {l l' : List ℕ} (a b : ℕ) (i j o : List ℕ) (f : Frame) (v : Verdict) (t : Reply)
      → frame_in (a + 256 * b) i ≡ f → drop (a + 256 * b) i ≡ j
      → min_frame ≤ a + 256 * b → a + 256 * b ≤ max_frame → a + 256 * b ≤ length i
      → Right s f v t → Run work (next_session s f) (printing work l s f v t).1 j o s' l'
      → Run work s l (a ∷ b ∷ i) ((printing work l s f v t).0 ++ o) s' l'
  unfolding number16
  framed_as {s} {s'} {l} {l'} a b i j o f v t e d h k x =
      let w = front_whole a b i h k x in
      let size : whole_front (a ∷ b ∷ i) - 4 ≡ a + 256 * b - 2 = omega (arith, w) in
      let same : frame_at (a ∷ b ∷ i) ≡ f = ap (λ (n : ℕ). decode (number16 i 0) (take n (drop 2 i))) size ∙ e in
      let rest : drop (whole_front (a ∷ b ∷ i)) (a ∷ b ∷ i) ≡ j = ap (λ (n : ℕ). drop n (a ∷ b ∷ i)) w ∙ d in
      subst (λ (g : Frame). Right s g v t → Run work (next_session s g) (printing work l s g v t).1 j o s' l'
      → Run work s l (a ∷ b ∷ i) ((printing work l s g v t).0 ++ o) s' l') same
      (λ r m. framed {i = a ∷ b ∷ i} v t (omega (arith, w)) r
      (subst (λ (c : List ℕ). Run work (next_session s (frame_at (a ∷ b ∷ i))) (printing work l s (frame_at (a ∷ b ∷ i)) v t).1 c o s' l') (sym rest) m))

  -- ---- a whole frame at the front, and more input after what is lent
  whole : {s s' : Session} {l l' : List ℕ} (a b c d m : ℕ) (k j p : List ℕ) (v : Verdict) (t : Reply)
      → a + 256 * b ≡ suc (suc m) → a + 256 * b ≤ max_frame → m ≤ length k
      → Right s (decode (c + 256 * d) (take m k)) v t
      → Run work (next_session s (decode (c + 256 * d) (take m k))) (printing work l s (decode (c + 256 * d) (take m k)) v t).1 (drop m k ++ j) p s' l'
      → Run work s l (a ∷ b ∷ c ∷ d ∷ (k ++ j)) ((printing work l s (decode (c + 256 * d) (take m k)) v t).0 ++ p) s' l'
  unfolding number16
  whole a b c d m k j p v t e h x right run =
      let size : a + 256 * b - 2 ≡ m = omega arith in
      framed_as a b (c ∷ d ∷ (k ++ j)) (drop m k ++ j) p (decode (c + 256 * d) (take m k)) v t
      (rw size (ap (λ (s : List ℕ). decode (c + 256 * d) s) (take-append-le m k j x)))
      (rw e (drop-append-le m k j x))
      (omega arith) h (omega (arith, length-append k j)) right run

  -- the frame at the front of i, if it is n bytes with its length
  abbrev pub front_frame : List ℕ → ℕ → Frame
  front_frame i n = decode (number16 i 2) (take (n - 4) (drop 4 i))

  pub front_run : {s s' : Session} {l l' : List ℕ} (i : List ℕ) (n : ℕ) (j p : List ℕ) (v : Verdict) (t : Reply) → Whole i n
      → Right s (front_frame i n) v t → Run work (next_session s (front_frame i n)) (printing work l s (front_frame i n) v t).1 (drop n i ++ j) p s' l'
      → Run work s l (i ++ j) ((printing work l s (front_frame i n) v t).0 ++ p) s' l'
  unfolding number16
  front_run [] n j p v t w right run = absurd (omega arith)
  front_run (a ∷ []) n j p v t w right run = absurd (omega arith)
  front_run (a ∷ b ∷ []) n j p v t w right run = absurd (omega arith)
  front_run (a ∷ b ∷ c ∷ []) n j p v t w right run = absurd (omega arith)
  front_run (a ∷ b ∷ c ∷ d ∷ i) n j p v t w right run =
      let after : n ≡ suc (suc (suc (suc (n - 4)))) = omega arith in
      let rest : drop n (a ∷ b ∷ c ∷ d ∷ i) ≡ drop (n - 4) i = ap (λ (x : ℕ). drop x (a ∷ b ∷ c ∷ d ∷ i)) after in
      whole a b c d (n - 4) i j p v t (omega arith) (omega arith) (omega arith) right (rw rest at run)

  -- ---- a turn
  abbrev pub GoesOn : Session → List ℕ → List ℕ → List ℕ → List ℕ → List ℕ → Ran → Type 0
  GoesOn s l l' i out out' r = Came out out' r (λ o s'. (j p : List ℕ) (s'' : Session) (l'' : List ℕ)
      → Run work s' l' (drop r.read i ++ j) p s'' l'' → Run work s l (i ++ j) (o ++ p) s'' l'')

  stands : (st : State) (s : Session) (l i out : List ℕ) → StateOf st s → GoesOn s l l i out out (stayed st)
  stands st s l i out h = record { output = []; session = s; wrote = wrote_none 0 out (omega arith); holds = h; runs = λ j p s' l'' r. r }

  pub stays : (st : State) (i l out : List ℕ) → length out < room (length l) → OneTurn st i work l l out out (stayed st)
  stays st i l out none =
      record {
        advances = record {
          inside = omega arith;
          within = omega arith;
          ends = λ e s h. absurd (both_ways false (sym e) refl);
          goes = λ e s h. stands st s l i out h;
        };
        spares = as_it_was [] (wrote_none 0 out (omega arith)) refl;
        keeps = refl;
        still = λ e. (refl, refl);
        short = λ h. (refl, refl);
        roomy = λ h. absurd (omega arith);
      }

  -- where no whole frame stands at the front of i: the text t is all that a run over it prints
  pub no_frame : (st : State) (i l out out' t : List ℕ) (w : ℕ) → room (length l) ≤ length out → whole_front i ≡ 0 → Wrote 0 t out out' w
      → ((s : Session) (m : List ℕ) → Run work s m i t s m)
      → OneTurn st i work l l out out' (record { state = st; read = 0; written = w; more = false })
  no_frame st i l out out' t w enough e wrote runs =
      record {
        advances = record {
          inside = omega arith;
          within = wrote.fits;
          ends = λ e s h. record { output = t; session = s; wrote = wrote; holds = h; runs = runs s l };
          goes = λ e s h. absurd (both_ways false e refl);
        };
        spares = as_it_was t wrote refl;
        keeps = refl;
        still = λ e. (refl, refl);
        short = λ h. absurd (omega arith);
        roomy = λ h. (sym e, sym (le-ltb 0 (whole_front i) (omega arith)));
      }

  pub at-end : (st : State) (i l out : List ℕ) → room (length l) ≤ length out → length i ≡ 0
      → OneTurn st i work l l out out (record { state = st; read = 0; written = 0; more = false })
  at-end st [] l out enough h =
      no_frame st [] l out out [] 0 enough (sym (whole_unframed [] (sym (following_few [] (omega arith))))) (wrote_none 0 out (omega arith)) (λ s m. ended)
  at-end st (a ∷ i) l out enough h = absurd (omega arith)

  pub one_frame : (st : State) (i l l' out out' : List ℕ) (n k : ℕ) (f : Framed)
      → room (length l) ≤ length out → length l' ≡ length l → n ≡ whole_front i → 0 < n → k ≡ number16 i 2
      → Turns st (decode k (take (n - 4) (drop 4 i))) work l l' out out' f
      → OneTurn st i work l l' out out' (record { state = f.state; read = n; written = f.written; more = true })
  one_frame st i l l' out out' n k f enough same e some kind turned =
      record {
        advances = record {
          inside = omega (arith, facts);
          within = spares_within turned.spares;
          ends = λ e s h. absurd (both_ways true refl e);
          goes = going;
        };
        spares = turned.spares;
        keeps = same;
        still = λ z. absurd (omega arith);
        short = λ h. absurd (omega arith);
        roomy = λ h. (e, sym (lt-ltb 0 (whole_front i) (omega arith)));
      }
    where
      facts : Whole i n
      facts =
          let w = whole_some i (omega arith) in
          let g = following_some i w.some in
          record { size = omega (arith, e, w, g); least = g.least; most = g.most; inside = omega (arith, w, g) }

      right : Turns st (front_frame i n) work l l' out out' f
      right = subst (λ (x : ℕ). Turns st (decode x (take (n - 4) (drop 4 i))) work l l' out out' f) kind turned

      going : true ≡ true → (s : Session) → StateOf st s
          → GoesOn s l l' i out out' (record { state = f.state; read = n; written = f.written; more = true })
      going e s h =
          let (v, t, judged) = right_exists s (front_frame i n) (state_steady h) in
          record {
            output = (printing work l s (front_frame i n) v t).0;
            session = next_session s (front_frame i n);
            wrote = right.prints s h v t judged;
            holds = right.next s h;
            runs = λ j p s' l'' run.
                front_run i n j p v t facts judged
                (subst (λ (m : List ℕ). Run work (next_session s (front_frame i n)) m (drop n i ++ j) p s' l'')
                (right.list s h v t judged) run);
          }
