-- The walk forward: the steps written so far, put before any best walk from where they lead, are a best walk from the start.
--   step-of, word_of, words_of
--                  step words and steps, to and fro
--   Going g M y n w seen x steps t r st out
--                  the t steps written so far, put before any best walk from r and the states st, are a best walk from the start
--   going_ends     at the end they are a best walk
--   going_more     one step more: the smallest that leads on
--   going_start    at the start none is written
-- Assumes nothing.
use mathlib.Core.Path.{◌≡◌, refl, sym, ap, ap₂, ◌∙◌, subst}
use mathlib.Core.Logic.{◌⊎◌, inl, inr}
use mathlib.Core.List.{List, [], ◌∷◌, ◌++◌, map, append_assoc, append-nil}
use Prim.Native.Nat.{ℕ, suc, ◌+◌, ◌-◌, ◌*◌, ◌/◌, ◌%◌, ◌≤◌, ◌<◌}
use native.Mathlib.Numerals.{add-one}
use native.Mathlib.Omega.{arith}
use lib.ListN.{length, set, take}
use lib.Seq.{take-suc-set}
use Rattle.k2.specs.Bits.{digit}
use Rattle.k2.specs.DigitLaws.{digit_none}
use Rattle.paths.specs.Expressions.{Letter}
use Rattle.paths.specs.Chains.{Graph, Step, step_word, step_words}
use Rattle.automaton.specs.Automata.{On, is, Automaton}
use Rattle.automaton.proofs.SetLaws.{on_is, is_on}
use Rattle.automaton.specs.Masks.{letter_number}
use Rattle.automaton.specs.Searches.{Walk, Moves, Reach, Known, Best, Picks}
use Rattle.automaton.proofs.LevelLaws.{reach_less, exact}
use Rattle.automaton.proofs.WalkLaws.{best_more, best_none}
use Rattle.arcs.specs.Arcs.{arc_to, arc_letter, arc_step_word, letter_of, arc_step}
use Rattle.arcs.specs.ArcLaws.{number_letter, letter-number}
use Rattle.search.specs.Levels.{Setting, distance, Spread}
use Rattle.search.specs.Steps.{Serve, Chosen, step_of}
use Rattle.search.proofs.MarkLaws.{arc_small, bit_off, bit-at}
use Rattle.search.proofs.LevelLaws.{distance_on, distance_seen, step_arc, shut, arc_moves}

-- ---- step words
pub step-of : (s : Step) → s.reached < 1024 → step_of (step_word s) ≡ s
step-of s h =
    let a : step_word s / 1024 ≡ letter_number s.spelt = omega arith in
    let b : step_word s % 1024 ≡ s.reached = omega arith in
    ap₂ (λ (c : ℕ) (t : ℕ). record { spelt = letter_of c; reached = t }) a b
    ∙ ap (λ (l : Letter). record { spelt = l; reached = s.reached }) (letter-number s.spelt)

pub word_of : (w : ℕ) → step_word (step_of w) ≡ w
word_of w = let e = number_letter (w / 1024) in omega arith

pub words_of : (ws : List ℕ) → step_words (map step_of ws) ≡ ws
unfolding step_words
words_of [] = refl
words_of (w ∷ ws) = ap₂ (λ (a : ℕ) (l : List ℕ). a ∷ l) (word_of w) (words_of ws)

-- the step of an arc's step word is the arc's
step_arc_of : (cs : List ℕ) (j word : ℕ) → arc_step_word cs j ≡ word → step_of word ≡ arc_step cs j
step_arc_of cs j word e =
    let s = arc_small cs j in
    let a : word / 1024 ≡ arc_letter cs j = omega arith in
    let b : word % 1024 ≡ arc_to cs j = omega arith in
    ap₂ (λ (c : ℕ) (t : ℕ). record { spelt = letter_of c; reached = t }) a b

-- ---- a turn of the walk
pub record Going (g : Graph) (M : Automaton) (y n : ℕ) (w seen : List ℕ) (x steps t r st : ℕ) (out : List ℕ) : Type 0 where
  pub below : r < n
  pub at : (q : ℕ) → On (digit st q) → (q < 64) × (distance w seen r q ≡ suc (steps - t))
  pub some : (q : ℕ) × On (digit st q)
  pub goes_on : (ss : List Step) → Best g M y (digit st) r (steps - t) ss → Best g M y (is 0) x steps (map step_of (take t out) ++ ss)

module _ {g : Graph} {M : Automaton} {fs ps es : List ℕ} {f n : ℕ} {cs : List ℕ} {k : ℕ} (S : Setting g M fs ps es f n cs k) (hn : n ≤ 1024)
    {y l : ℕ} {w seen : List ℕ} (K : Known g M y n l (distance w seen)) {x steps t r st : ℕ} {out : List ℕ} (G : Going g M y n w seen x steps t r st out) where
  -- at the end
  pub going_ends : steps ≡ t → Best g M y (is 0) x steps (map step_of (take t out))
  going_ends e =
      let q = G.some in
      let a = G.at q.0 q.1 in
      let z : steps - t ≡ 0 = omega arith in
      let b : Best g M y (digit st) r (steps - t) [] = rw z (best_none q.1 (K.sound r q.0 0 G.below a.0 (rw z at a.1))) in
      subst (λ (ss : List Step). Best g M y (is 0) x steps ss) (append-nil (map step_of (take t out))) (G.goes_on [] b)

  module _ (m : ℕ) (em : steps - t ≡ suc m) (follows word states : ℕ)
      (F : Spread fs st 0 follows) (C : Chosen cs es w seen n r follows (suc m) k 0 word states) where
    -- a step that leads on is one of an arc that serves
    leads : (q q' : ℕ) (s : Step) → On (digit st q) → Moves g M r q s q' → Reach g M y m s.reached q'
        → (j : ℕ) × (arc_step_word cs j ≡ step_word s) × (s.reached < 1024) ×
        ((word < arc_step_word cs j) ⊎ ((word ≡ arc_step_word cs j) × On (digit states q')))
    leads q q' s o v h =
        let a = G.at q o in
        let b = shut S r q q' s v in
        let e = exact (shut S) K r q q' m s G.below a.0 v (a.1 ∙ ap suc em) h in
        let i = distance_seen w seen s.reached q' (omega arith) in
        let c = step_arc S r q q' s v in
        let follows_on = F.all q' q o (digit_none q) (rw (S.masked.follow q q') v.follow) in
        let sv : Serve cs es w seen n r follows (suc m) c.0 q' = record {
          from = c.2;
          small = b.1;
          to = rw c.3 b.0;
          among = follows_on;
          enters = rw (c.4, S.masked.enters q' s.spelt) v.enters;
          seen_at = rw c.3 i;
          number = rw c.3 (sym (distance_on w seen s.reached q' i) ∙ e);
        } in
        (c.0, ap₂ (λ (c : ℕ) (d : ℕ). c * 1024 + d) c.4 c.3, omega (arith, b.0), C.all c.0 q' c.1 (omega arith) sv)

    picks : Picks g M y (digit st) r m (step_of word) (digit states)
    picks = record { came = cm; least = ls }
      where
        cm : (q' : ℕ) → On (digit states q') → (q : ℕ) × On (digit st q) × Moves g M r q (step_of word) q'
        cm q' o =
            let c = C.from q' o in
            let p = F.from q' c.3.among in
            let follows_on : On (M.follow p.0 q') = (let z = S.masked.follow p.0 q' in let h = p.3 in omega arith) in (
              p.0,
              p.2,
              subst (λ (s : Step). Moves g M r p.0 s q') (sym (step_arc_of cs c.0 word c.2))
                  (arc_moves S c.0 r p.0 q' c.1 c.3.from follows_on c.3.enters),
            )

        ls : (q q' : ℕ) (s : Step) → On (digit st q) → Moves g M r q s q' → Reach g M y m s.reached q'
            → (step_word (step_of word) < step_word s) ⊎ ((step_of word ≡ s) × On (digit states q'))
        ls q q' s o v h = let z = leads q q' s o v h in go z.0 z.1 z.2 z.3
          where
            go : (j : ℕ) → arc_step_word cs j ≡ step_word s → s.reached < 1024
                → (word < arc_step_word cs j) ⊎ ((word ≡ arc_step_word cs j) × On (digit states q'))
                → (step_word (step_of word) < step_word s) ⊎ ((step_of word ≡ s) × On (digit states q'))
            go j e b (inl h) = inl (let z = word_of word in omega arith)
            go j e b (inr h) = inr (ap step_of (h.0 ∙ e) ∙ step-of s b, h.1)

    -- some state is chosen
    chosen_some : (q : ℕ) × On (digit states q)
    chosen_some =
        let q = G.some in
        let a = G.at q.0 q.1 in
        let v = reach_less (K.sound r q.0 (suc m) G.below a.0 (a.1 ∙ ap suc em)) in
        let z = leads q.0 v.1 v.0 q.1 v.2 v.3 in
        go z.0 v.1 z.3
      where
        go : (j q' : ℕ) → (word < arc_step_word cs j) ⊎ ((word ≡ arc_step_word cs j) × On (digit states q')) → (q : ℕ) × On (digit states q)
        go j q' (inl h) = C.some (let s = arc_small cs j in omega arith)
        go j q' (inr h) = (q', h.1)

    pub going_more : t < length out → Going g M y n w seen x steps (t + 1) (word % 1024) states (set out t word)
    going_more lt = record { below = bl; at = ex; some = chosen_some; goes_on = go }
      where
        left : steps - (t + 1) ≡ m
        left = omega arith

        -- the record reached is the arc's
        there : (q : ℕ) (o : On (digit states q)) → word % 1024 ≡ arc_to cs (C.from q o).0
        there q o = let c = C.from q o in ap (λ (s : Step). s.reached) (step_arc_of cs c.0 word c.2)

        bl : word % 1024 < n
        bl = let q = chosen_some in let z = (C.from q.0 q.1).3.to in rw (there q.0 q.1) z

        ex : (q : ℕ) → On (digit states q) → (q < 64) × (distance w seen (word % 1024) q ≡ suc (steps - (t + 1)))
        ex q o = let c = (C.from q o).3 in (c.small, rw (left, there q o) (distance_on w seen _ q c.seen_at ∙ c.number))

        go : (ss : List Step) → Best g M y (digit states) (word % 1024) (steps - (t + 1)) ss
            → Best g M y (is 0) x steps (map step_of (take (t + 1) (set out t word)) ++ ss)
        go ss b =
            let b₁ : Best g M y (digit states) (word % 1024) m ss = rw left at b in
            let b₂ : Best g M y (digit st) r (steps - t) (step_of word ∷ ss) = rw em (best_more picks b₁) in
            subst (λ (d : List Step). Best g M y (is 0) x steps d) (sym (joined ss)) (G.goes_on (step_of word ∷ ss) b₂)
          where
            map-append : (u v : List ℕ) → map step_of (u ++ v) ≡ map step_of u ++ map step_of v
            map-append [] v = refl
            map-append (a ∷ u) v = ap (λ (d : List Step). step_of a ∷ d) (map-append u v)

            joined : (ss : List Step) → map step_of (take (t + 1) (set out t word)) ++ ss ≡ map step_of (take t out) ++ (step_of word ∷ ss)
            joined ss =
                ap (λ (u : List ℕ). map step_of u ++ ss) (ap (λ (i : ℕ). take i (set out t word)) (add-one t) ∙ take-suc-set out t word lt)
                ∙ ap (λ (d : List Step). d ++ ss) (map-append (take t out) (word ∷ []))
                ∙ append_assoc (map step_of (take t out)) (step_of word ∷ []) ss

-- at the start
pub going_start : (g : Graph) (M : Automaton) (y n : ℕ) (w seen : List ℕ) (x steps : ℕ) (out : List ℕ)
    → x < n → distance w seen x 0 ≡ suc steps → Going g M y n w seen x steps 0 x 1 out
going_start g M y n w seen x steps out h e = record {
  below = h;
  at = λ q o. (let z = bit_off 0 q o in (omega arith, rw (z, left) e));
  some = (0, bit-at 0);
  goes_on = λ ss b. whole ss (rw left at b);
}
  where
    left : steps - 0 ≡ steps
    left = omega arith

    whole : (ss : List Step) → Best g M y (digit 1) x steps ss → Best g M y (is 0) x steps ss
    whole ss b =
        record {
          from = 0;
          among = is_on 0;
          walk = subst (λ (q : ℕ). Walk g M y x q ss) (bit_off 0 b.from b.among) b.walk;
          long = b.long;
          least = λ q ts o. b.least q ts (rw (on_is 0 q o) (bit-at 0));
        }
