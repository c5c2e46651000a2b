-- A graph with its records renamed in their order: what the questions give is the same, renamed.
--   Maps f g h       f takes records in use of g to records in use of h, and links to links
--   Renames f r g h  f and r rename to and fro, and f keeps the order
--   first_renamed    the first chain between two records is the earlier one renamed
--   reply_renamed, none_back
--                    so is the reply to a chain question, none too; and none after is none before
--   pairs_renamed    so are the pairs that have a chain
-- Assumes nothing.
use Rattle.std.specs.Prelude.{◌≡◌, Bool, true, false, length}
use Rattle.std.proofs.Math.Path.{refl, sym, ap, ap₂, subst}
use Rattle.std.proofs.Common.{◌∙◌, arith}
use mathlib.Core.List.{List, [], ◌∷◌, map}
use Prim.Native.Nat.{ℕ, suc, ◌+◌, ◌*◌, ◌/◌, ◌%◌, ◌≤◌, ◌<◌}
use Rattle.std.proofs.Math.Decide.{dec_lt}
use Rattle.book.specs.Basics.{bit, In, here, there, Rises, ended, rises}
use Rattle.book.specs.Book.{Link, renamed_link}
use Rattle.book.proofs.ListLaws.{rises_least}
use Rattle.k2.specs.PairSets.{pair_word}
use Rattle.paths.specs.Expressions.{Letter, Expr}
use Rattle.paths.specs.Chains.{Graph, Step, crossing, step_word, Chain, stay, cross, spell, step_words, Answers, Has, Before, same, smaller, alike}
use Rattle.paths.specs.Chains.{NotAfter, shorter, as_long, First, Reply, none, chain, ChainIs, no_chain, first_chain}
use Rattle.paths.specs.Relations.{PairsAre}
use Rattle.paths.specs.Inside.{Inside}
use Rattle.paths.proofs.ChainLaws.{crossing_in}
use Rattle.paths.proofs.ChainOrderLaws.{before_back}
use Rattle.paths.specs.Renaming.{renamed_pair, renamed_step, renamed_reply}

pub record Maps (f : ℕ → ℕ) (g h : Graph) : Type 0 where
  pub uses : (x : ℕ) → g.in_use x ≡ true → h.in_use (f x) ≡ true
  pub links : (k : Link) → g.present k ≡ true → h.present (renamed_link f k) ≡ true

pub record Renames (f r : ℕ → ℕ) (g h : Graph) : Type 0 where
  pub to : Maps f g h
  pub from : Maps r h g
  pub there : (x : ℕ) → g.in_use x ≡ true → r (f x) ≡ x
  pub back : (u : ℕ) → h.in_use u ≡ true → f (r u) ≡ u
  pub order : (x y : ℕ) → g.in_use x ≡ true → g.in_use y ≡ true → x < y → f x < f y

-- ---- steps renamed
abbrev pub reaching : (ℕ → ℕ) → Step → Step
reaching f s = record { spelt = s.spelt; reached = f s.reached }

unfoldable pub renamed : (ℕ → ℕ) → List Step → List Step
renamed f [] = []
renamed f (s ∷ ss) = reaching f s ∷ renamed f ss

spell_renamed : (f : ℕ → ℕ) (ss : List Step) → spell (renamed f ss) ≡ spell ss
unfolding spell renamed
spell_renamed f [] = refl
spell_renamed f (s ∷ ss) = ap (λ (w : List Letter). s.spelt ∷ w) (spell_renamed f ss)

crossing_renamed : (f : ℕ → ℕ) (a : Letter) (x y : ℕ) → crossing a (f x) (f y) ≡ renamed_link f (crossing a x y)
crossing_renamed f a x y = go a.inverted
  where
    go : (b : Bool) → crossing (record { label = a.label; inverted = b }) (f x) (f y)
        ≡ renamed_link f (crossing (record { label = a.label; inverted = b }) x y)
    go true = refl
    go false = refl

module _ (f : ℕ → ℕ) (g h : Graph) (M : Maps f g h) where
  chain_renamed : {x y : ℕ} {ss : List Step} → Chain g x ss y → Chain h (f x) (renamed f ss) (f y)
  unfolding renamed
  chain_renamed stay = stay
  chain_renamed {x} (cross {s = s} p c) =
      cross {x = f x} {s = reaching f s} (rw (crossing_renamed f s.spelt x s.reached) (M.links (crossing s.spelt x s.reached) p)) (chain_renamed c)

  answers_renamed : (e : Expr) (x y : ℕ) (ss : List Step) → Answers g e x y ss → Answers h e (f x) (f y) (renamed f ss)
  answers_renamed e x y ss a = record {
    begins = M.uses x a.begins;
    ends = M.uses y a.ends;
    chain = chain_renamed a.chain;
    spells = rw (spell_renamed f ss) a.spells;
  }

-- the steps of a chain reach records in use
data Reach (g : Graph) : List Step → Type 0 where
  nowhere : Reach g []
  further : {s : Step} {ss : List Step} → g.in_use s.reached ≡ true → Reach g ss → Reach g (s ∷ ss)

chain_reach : (g : Graph) → Inside g → {x y : ℕ} {ss : List Step} → Chain g x ss y → Reach g ss
chain_reach g I stay = nowhere
chain_reach g I {x} (cross {s = s} p c) = further (crossing_in g I s.spelt x s.reached p).1 (chain_reach g I c)

-- of two numbers, each a part times 1,024 and a rest, the rests changed in their order
shift : (a b r t r' t' : ℕ) → r < 1024 → t < 1024 → r' < 1024 → (r < t → r' < t') → a * 1024 + r < b * 1024 + t → a * 1024 + r' < b * 1024 + t'
shift a b r t r' t' hr ht hr' f l = go (dec_lt r t)
  where
    go : Dec (r < t) → a * 1024 + r' < b * 1024 + t'
    go (yes k) = omega (arith, f k)
    go (no k) = omega arith

-- the number of a step's letter
abbrev letter_part : Step → ℕ
letter_part s = s.spelt.label * 2 + bit s.spelt.inverted

front_none : {v w l : List ℕ} {a : ℕ} → Before v w → v ≡ [] → w ≡ a ∷ l → ⊥
front_none same p q = let z : ◌≡◌ {A = ℕ} 0 1 = cc in omega arith
front_none (smaller k) p q = let z : ◌≡◌ {A = ℕ} 0 1 = cc in omega arith
front_none (alike k) p q = let z : ◌≡◌ {A = ℕ} 0 1 = cc in omega arith

none_front : {v w l : List ℕ} {a : ℕ} → Before v w → v ≡ a ∷ l → w ≡ [] → ⊥
none_front same p q = let z : ◌≡◌ {A = ℕ} 0 1 = cc in omega arith
none_front (smaller k) p q = let z : ◌≡◌ {A = ℕ} 0 1 = cc in omega arith
none_front (alike k) p q = let z : ◌≡◌ {A = ℕ} 0 1 = cc in omega arith

module _ (f r : ℕ → ℕ) (g h : Graph) (R : Renames f r g h) (I : Inside g) (J : Inside h) (m : g.n ≤ 1024) (m' : h.n ≤ 1024) where
  small : (x : ℕ) → g.in_use x ≡ true → x < 1024
  small x u = omega (arith, I.below x u)

  small' : (x : ℕ) → h.in_use x ≡ true → x < 1024
  small' x u = omega (arith, J.below x u)

  -- ---- the order of chains
  before_renamed : {ss ts : List Step} → Reach g ss → Reach g ts
      → Before (step_words ss) (step_words ts) → Before (step_words (renamed f ss)) (step_words (renamed f ts))
  unfolding renamed step_words
  before_renamed nowhere nowhere b = same
  before_renamed nowhere (further v q) b = absurd (front_none b refl refl)
  before_renamed (further v q) nowhere b = absurd (none_front b refl refl)
  before_renamed (further {s = s} {ss = ss} u p) (further {s = t} {ss = ts} v q) b = go (dec_lt (step_word s) (step_word t)) (before_renamed p q)
    where
      go : Dec (step_word s < step_word t) → (Before (step_words ss) (step_words ts) → Before (step_words (renamed f ss)) (step_words (renamed f ts)))
          → Before (step_word (reaching f s) ∷ step_words (renamed f ss)) (step_word (reaching f t) ∷ step_words (renamed f ts))
      go (yes l) ih =
          smaller (shift (letter_part s) (letter_part t) s.reached t.reached (f s.reached) (f t.reached) (small s.reached u) (small t.reached v)
          (small' (f s.reached) (R.to.uses s.reached u)) (R.order s.reached t.reached u v) l)
      go (no l) ih =
          let k = before_back b l (step_words ss) (step_words ts) refl refl in
          let hs = small s.reached u in
          let ht = small t.reached v in
          let e : s.reached ≡ t.reached = omega (arith, k.0) in
          let c : letter_part s ≡ letter_part t = omega (arith, k.0) in
          let w : step_word (reaching f t) ≡ step_word (reaching f s) = sym (ap₂ (λ (a b : ℕ). a * 1024 + f b) c e) in
          rw w (alike (ih k.1))

  length_renamed : (ss : List Step) → length (step_words (renamed f ss)) ≡ length (step_words ss)
  unfolding renamed step_words
  length_renamed [] = refl
  length_renamed (s ∷ ss) = ap suc (length_renamed ss)

  not_after_renamed : {ss ts : List Step} → Reach g ss → Reach g ts
      → NotAfter (step_words ss) (step_words ts) → NotAfter (step_words (renamed f ss)) (step_words (renamed f ts))
  not_after_renamed {ss} {ts} p q (shorter l) = shorter (omega (arith, length_renamed ss, length_renamed ts))
  not_after_renamed {ss} {ts} p q (as_long e b) = as_long (length_renamed ss ∙ e ∙ sym (length_renamed ts)) (before_renamed p q b)

  back_again : {ts : List Step} → Reach h ts → renamed f (renamed r ts) ≡ ts
  unfolding renamed
  back_again nowhere = refl
  back_again (further {s = s} u v) = ap₂ (λ (x : ℕ) (l : List Step). record { spelt = s.spelt; reached = x } ∷ l) (R.back s.reached u) (back_again v)

  -- ---- chains
  -- a chain between the new records is one between the old ones
  answers_back : (e : Expr) (x y : ℕ) (ts : List Step) → g.in_use x ≡ true → g.in_use y ≡ true → Answers h e (f x) (f y) ts → Answers g e x y (renamed r ts)
  answers_back e x y ts u v a =
      subst (λ (z : ℕ). Answers g e x z (renamed r ts)) (R.there y v)
      (subst (λ (z : ℕ). Answers g e z (r (f y)) (renamed r ts)) (R.there x u) (answers_renamed r h g R.from e (f x) (f y) ts a))

  pub first_renamed : (e : Expr) (x y : ℕ) (ss : List Step) → First g e x y ss → First h e (f x) (f y) (renamed f ss)
  first_renamed e x y ss q = record {
    answers = answers_renamed f g h R.to e x y ss q.answers;
    least = λ ts a.
        let b = answers_back e x y ts q.answers.begins q.answers.ends a in
        let k = not_after_renamed (chain_reach g I q.answers.chain) (chain_reach g I b.chain) (q.least (renamed r ts) b) in
        subst (λ (l : List Step). NotAfter (step_words (renamed f ss)) (step_words l)) (back_again (chain_reach h J a.chain)) k;
  }

  -- the words of steps renamed are the words renamed
  word_parts : (c x w : ℕ) → x < 1024 → w ≡ c * 1024 + x → (w / 1024 ≡ c) × (w % 1024 ≡ x)
  word_parts c x w l e = (omega arith, omega arith)

  words_renamed : {ss : List Step} → Reach g ss → step_words (renamed f ss) ≡ map (renamed_step f) (step_words ss)
  unfolding renamed step_words
  words_renamed nowhere = refl
  words_renamed (further {s = s} u p) =
      let q = word_parts (letter_part s) s.reached (step_word s) (small s.reached u) refl in
      ap₂ (λ (w : ℕ) (l : List ℕ). w ∷ l) (sym (ap₂ (λ (c x : ℕ). c * 1024 + f x) q.0 q.1)) (words_renamed p)

  -- no chain between the new records is none between the old ones
  pub none_back : (e : Expr) (x y : ℕ) → g.in_use x ≡ true → g.in_use y ≡ true → ChainIs h e (f x) (f y) none → ChainIs g e x y none
  none_back e x y u v (no_chain n) = no_chain (λ ss a. n (renamed f ss) (answers_renamed f g h R.to e x y ss a))

  pub reply_renamed : (e : Expr) (x y : ℕ) → g.in_use x ≡ true → g.in_use y ≡ true
      → (t : Reply) → ChainIs g e x y t → ChainIs h e (f x) (f y) (renamed_reply f t)
  unfolding renamed_reply
  reply_renamed e x y u v none (no_chain n) = no_chain (λ ts a. n (renamed r ts) (answers_back e x y ts u v a))
  reply_renamed e x y u v (chain ws) (first_chain ss q) =
      subst (λ (l : List ℕ). ChainIs h e (f x) (f y) (chain l)) (words_renamed (chain_reach g I q.answers.chain))
      (first_chain (renamed f ss) (first_renamed e x y ss q))

  -- ---- pairs
  parts : (w x y : ℕ) → y < 1024 → w ≡ pair_word x y → (w / 1024 ≡ x) × (w % 1024 ≡ y)
  parts w x y l e = (omega arith, omega arith)

  -- the words of a list are of pairs in use
  abbrev InUse : ℕ → Type 0
  InUse w = (g.in_use (w / 1024) ≡ true) × (g.in_use (w % 1024) ≡ true)

  above : (v w : ℕ) → InUse v → InUse w → v < w → renamed_pair f v < renamed_pair f w
  above v w a b l = step (dec_lt (v / 1024) (w / 1024))
    where
      step : Dec (v / 1024 < w / 1024) → renamed_pair f v < renamed_pair f w
      step (yes k) = omega (arith, R.order (v / 1024) (w / 1024) a.0 b.0 k, small' (f (v % 1024)) (R.to.uses (v % 1024) a.1))
      step (no k) =
          let e : v / 1024 ≡ w / 1024 = omega arith in
          let c : f (v / 1024) ≡ f (w / 1024) = ap f e in
          omega (arith, R.order (v % 1024) (w % 1024) a.1 b.1 (omega arith))

  in_map : {w : ℕ} {k : List ℕ} → In w k → In (renamed_pair f w) (map (renamed_pair f) k)
  in_map here = here
  in_map (there i) = there (in_map i)

  rises_renamed : (k : List ℕ) (c c' : ℕ) → Rises c k → ((w : ℕ) → In w k → InUse w)
      → ((w : ℕ) → In w k → c' ≤ renamed_pair f w) → Rises c' (map (renamed_pair f) k)
  rises_renamed [] c c' q u b = ended
  rises_renamed (w ∷ k) c c' (rises p q) u b =
      rises (b w here)
      (rises_renamed k (suc w) (suc (renamed_pair f w)) q (λ v i. u v (there i)) (λ v i. above w v (u w here) (u v (there i)) (rises_least q i)))

  pub pairs_renamed : (e : Expr) (l : List ℕ) → PairsAre g e l → PairsAre h e (map (renamed_pair f) l)
  pairs_renamed e l p = record {
    ascending = rises_renamed l 0 0 p.ascending used (λ w i. omega arith);
    sound = λ w i. go l w i p.sound;
    whole = λ x y a.
        let b : Has g e (r x) (r y) = (renamed r a.0, answers_renamed r h g R.from e x y a.0 a.1) in
        let i = in_map (p.whole (r x) (r y) b) in
        let q = parts (pair_word (r x) (r y)) (r x) (r y) (small (r y) b.1.ends) refl in
        subst (λ (v : ℕ). In v (map (renamed_pair f) l))
        (ap₂ (λ (c d : ℕ). pair_word (f c) (f d)) q.0 q.1 ∙ ap₂ pair_word (R.back x a.1.begins) (R.back y a.1.ends)) i;
  }
    where
      used : (w : ℕ) → In w l → InUse w
      used w i =
          let k = p.sound w i in
          let q = parts w k.0 k.1 (small k.1 k.3.1.ends) k.2 in
          (rw q.0 k.3.1.begins, rw q.1 k.3.1.ends)

      go : (k : List ℕ) (w : ℕ) → In w (map (renamed_pair f) k) → ((v : ℕ) → In v k → (x y : ℕ) × (v ≡ pair_word x y) × Has g e x y)
          → (x y : ℕ) × (w ≡ pair_word x y) × Has h e x y
      go [] w i c = elim i [ ]
      go (v ∷ k) w here c =
          let d = c v here in
          let q = parts v d.0 d.1 (small d.1 d.3.1.ends) d.2 in (
            f d.0,
            f d.1,
            ap₂ (λ (a b : ℕ). pair_word (f a) (f b)) q.0 q.1,
            (renamed f d.3.0, answers_renamed f g h R.to e d.0 d.1 d.3.0 d.3.1),
          )
      go (v ∷ k) w (there i) c = go k w i (λ u j. c u (there j))
