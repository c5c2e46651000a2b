-- A run is determined: for every session, list and input there is one output, one session and one list at the end, and only one.
--   run_exists      there are such
--   run_only        there are no others
-- Assumes nothing.
use Rattle.std.specs.Prelude.{◌≡◌, List, [], ◌∷◌, ◌++◌, Bool, true, false, ◌||◌, ℕ, zero, suc, ◌≤◌, ◌<◌, length, drop}
use Rattle.std.proofs.Math.Path.{refl, ap}
use Rattle.std.proofs.Common.{sym, ap₂, subst, ◌∙◌, arith, length-drop}
use Rattle.std.proofs.Math.Decide.{dec_lt}
use Rattle.std.proofs.Math.Dec.{leb}
use Rattle.book.specs.Basics.{pick}
use Rattle.book.specs.Causes.{number, first_number}
use Rattle.book.specs.Book.{Book}
use Rattle.paths.specs.Grammar.{Verdict, accepted, long, outside, large, Judged, verdict_cause}
use Rattle.paths.specs.Chains.{asked, Reply}
use Rattle.paths.specs.Questions.{Outcome, unless, replied, ReplyTo, pairs_answer, chain_causes, chain_answer, list_after}
use Rattle.paths.proofs.VerdictLaws.{verdict_only}
use Rattle.paths.proofs.FirstChainLaws.{reply_only}
use Rattle.report.specs.Report.{outcome_text}
use Rattle.session.specs.Program.{following, whole_front, Frame, asks, faulty, opens, call, pairs, chain, totalling, Session, unopened, opened}
use Rattle.session.specs.Program.{next_session, engine_for, Right, printing, frame_at, Run, ended, broken, framed}
use Rattle.session.specs.ProgramLaws.{Steady, next_steady, right_exists}

module _ (work : ℕ) where
  abbrev Results : Session → List ℕ → List ℕ → Type 0
  Results s l i = (o : List ℕ) × (s' : Session) × (l' : List ℕ) × Run work s l i o s' l'

  -- there are such for the inputs of at most k bytes
  abbrev Outputs : ℕ → Type 0
  Outputs k = (s : Session) → Steady s → (l i : List ℕ) → length i ≤ k → Results s l i

  one_more : (k : ℕ) → Outputs k → Outputs (suc k)
  one_more k outputs s h l [] m = ([], s, l, ended)
  one_more k outputs s h l (a ∷ i) m = go (dec_lt 0 (whole_front (a ∷ i)))
    where
      go : Dec (0 < whole_front (a ∷ i)) → Results s l (a ∷ i)
      go (no p) = (_, s, l, broken {i = a ∷ i} (omega arith) (omega arith))
      go (yes p) =
          let f = frame_at (a ∷ i) in
          let t = right_exists s f h in
          let more = outputs (next_session s f) (next_steady s f h) (printing work l s f t.0 t.1).1
          (drop (whole_front (a ∷ i)) (a ∷ i)) (omega (arith, length-drop (whole_front (a ∷ i)) (a ∷ i))) in
          (_, more.1, more.2, framed {i = a ∷ i} t.0 t.1 p t.2 more.3)

  outputs : (k : ℕ) → Outputs k
  outputs zero s h l [] m = ([], s, l, ended)
  outputs zero s h l (a ∷ i) m = absurd (omega arith)
  outputs (suc k) s h l i m = one_more k (outputs k) s h l i m

  pub run_exists : (s : Session) → Steady s → (l i : List ℕ) → Results s l i
  run_exists s h l i = outputs (length i) s h l i (omega arith)

  -- a refusal for the text does not depend on the reply
  text_refused : (records : Bool) (k : ℕ) (o p : Outcome) → unless (pick records 2 (suc k)) o ≡ unless (pick records 2 (suc k)) p
  text_refused true k o p = refl
  text_refused false k o p = refl

  -- the outcome of a question is the same for every verdict and reply that are right
  pairs_only : (room : ℕ) (b : Book) (u : List ℕ) (v w : Verdict) → Judged u v → Judged u w
      → pairs_answer (engine_for b.n) b v work room ≡ pairs_answer (engine_for b.n) b w work room
  pairs_only room b u v w h k = ap (λ (d : Verdict). pairs_answer (engine_for b.n) b d work room) (verdict_only h ∙ sym (verdict_only k))

  reply_same : (room : ℕ) (b : Book) (x y : ℕ) (v : Verdict) (t u : Reply) → ReplyTo (asked b) v x y t → ReplyTo (asked b) v x y u
      → chain_answer b x y v t work room ≡ chain_answer b x y v u work room
  unfolding chain_answer chain_causes verdict_cause first_number number
  reply_same room b x y (accepted e) t u h k = ap (λ (r : Reply). chain_answer b x y (accepted e) r work room) (reply_only (h e refl) (k e refl))
  reply_same room b x y long t u h k = text_refused (leb b.n x || leb b.n y) 9 (replied t) (replied u)
  reply_same room b x y outside t u h k = text_refused (leb b.n x || leb b.n y) 8 (replied t) (replied u)
  reply_same room b x y large t u h k = text_refused (leb b.n x || leb b.n y) 9 (replied t) (replied u)

  chain_only : (room : ℕ) (b : Book) (x y : ℕ) (e : List ℕ) (v w : Verdict) (t u : Reply)
      → Judged e v × ReplyTo (asked b) v x y t → Judged e w × ReplyTo (asked b) w x y u
      → chain_answer b x y v t work room ≡ chain_answer b x y w u work room
  chain_only room b x y e v w t u h k =
      let same = verdict_only h.0 ∙ sym (verdict_only k.0) in
      ap (λ (d : Verdict). chain_answer b x y d t work room) same
      ∙ reply_same room b x y w t u (subst (λ (d : Verdict). ReplyTo (asked b) d x y t) same h.1) k.1

  -- so are what a frame prints and the list that it leaves
  abbrev Same : List ℕ → Session → Frame → Verdict → Verdict → Reply → Reply → Type 0
  Same l s f v w t u = ((printing work l s f v t).0 ≡ (printing work l s f w u).0) × ((printing work l s f v t).1 ≡ (printing work l s f w u).1)

  frame_only : (l : List ℕ) (s : Session) (f : Frame) (v w : Verdict) (t u : Reply) → Right s f v t → Right s f w u → Same l s f v w t u
  unfolding printing
  frame_only l unopened (faulty c) v w t u h k = (refl, refl)
  frame_only l unopened (opens n) v w t u h k = (refl, refl)
  frame_only l unopened (asks (call c)) v w t u h k = (refl, refl)
  frame_only l unopened (asks (pairs e)) v w t u h k = (refl, refl)
  frame_only l unopened (asks (chain x y e)) v w t u h k = (refl, refl)
  frame_only l unopened (asks (totalling x)) v w t u h k = (refl, refl)
  frame_only l (opened b) (faulty c) v w t u h k = (refl, refl)
  frame_only l (opened b) (opens n) v w t u h k = (refl, refl)
  frame_only l (opened b) (asks (call c)) v w t u h k = (refl, refl)
  frame_only l (opened b) (asks (totalling x)) v w t u h k = (refl, refl)
  frame_only l (opened b) (asks (pairs e)) v w t u h k =
      let same = pairs_only (length l) b e v w (h.text b e refl refl) (k.text b e refl refl) in
      (ap outcome_text same, ap (λ (o : Outcome). list_after o l) same)
  frame_only l (opened b) (asks (chain x y e)) v w t u h k =
      let same = chain_only (length l) b x y e v w t u (h.reply b x y e refl refl) (k.reply b x y e refl refl) in
      (ap outcome_text same, ap (λ (o : Outcome). list_after o l) same)

  -- no frame stands where there are no bytes
  none_front : whole_front [] ≡ 0
  unfolding whole_front following
  none_front = refl

  -- two runs from lists that are the same
  only : {s s' t : Session} {l l' m m' i o p : List ℕ} → l ≡ m → Run work s l i o s' l' → Run work s m i p t m' → (o ≡ p) × (s' ≡ t) × (l' ≡ m')
  only e ended ended = (refl, refl, e)
  only e ended (broken h z) = absurd (omega arith)
  only e ended (framed v t h r q) = absurd (omega (arith, h, none_front))
  only e (broken h z) ended = absurd (omega arith)
  only e (broken h z) (broken k y) = (refl, refl, e)
  only e (broken h z) (framed v t k r q) = absurd (omega (arith, z, k))
  only e (framed v t h r q) ended = absurd (omega (arith, h, none_front))
  only e (framed v t h r q) (broken k z) = absurd (omega (arith, z, h))
  only e (framed {s = s} {l = l} {i = i} v t h r q) (framed {l = m} w u h' r' q') =
      let f = frame_at i in
      let same = frame_only l s f v w t u r r' in
      let rest = only (same.1 ∙ ap (λ (d : List ℕ). (printing work d s f w u).1) e) q q' in
      (ap₂ (λ (c d : List ℕ). c ++ d) (same.0 ∙ ap (λ (d : List ℕ). (printing work d s f w u).0) e) rest.0, rest.1, rest.2)

  pub run_only : {s s' t : Session} {l l' m i o p : List ℕ} → Run work s l i o s' l' → Run work s l i p t m → (o ≡ p) × (s' ≡ t) × (l' ≡ m)
  run_only q r = only refl q r
