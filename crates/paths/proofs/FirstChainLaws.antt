-- If a pair has a chain it has a first one. It is found by looking at every chain of at most so many steps; no engine searches so.
--   best_is            the best of some lists of steps, computed
--   in_walks, in_walks_to, walks_in, walks_to_in, end_is
--                      the chains of so many steps, and of at most so many, are those listed
--   answers_serve, answers_listed
--                      a chain that spells a word of e is among them
--   found_first, first_found
--                      what is found is the first of all chains, and something is found if there is one
--   has_first          a pair that has a chain has a first one
--   chain_to m g e x y  the first of the chains of at most m steps from x to y that spell a word of e, computed
--   chain_first        what it finds is the first of all chains
--   reply, reply_only  a chain question has an answer, and one only
-- Assumes nothing.
use Rattle.std.proofs.Math.Path.{◌≡◌, refl, ap, subst}
use Rattle.std.proofs.Common.{sym, ◌∙◌, eqb-true, eq-eqb}
use Rattle.std.proofs.Math.Logic.{⊎_elim}
use mathlib.Core.List.{List, [], ◌∷◌, ◌++◌}
use Rattle.std.specs.Prelude.{Bool, ◌&&◌, eqb}
use Rattle.std.proofs.Math.Bool.{true, false}
use Prim.Native.Nat.{ℕ, zero, suc, min, ◌≤◌, ◌<◌}
use native.Mathlib.Omega.{arith}
use Rattle.std.proofs.Math.Decide.{dec_lt, dec_le}
use Rattle.std.proofs.Math.ListN.{length}
use Rattle.book.specs.Basics.{pick, bit, In, here, there}
use Rattle.book.proofs.SetLaws.{and_both}
use Rattle.book.proofs.ListLaws.{in_left, in_right, in_either, in_none, in_front}
use Rattle.k2.specs.PairSetLaws.{bit_on, on_bit}
use Rattle.paths.specs.Expressions.{Letter, Expr}
use Rattle.paths.specs.Chains.{Graph, Step, crossing, step_words, spell, Chain, stay, cross, Answers, Has, NotAfter, shorter, as_long, First, Reply}
use Rattle.paths.specs.Chains.{none as no-reply, chain as chain-reply, ChainIs, no_chain, first_chain}
use Rattle.paths.specs.Relations.{cells}
use Rattle.paths.specs.Inside.{Inside}
use Rattle.paths.proofs.ChainLaws.{crossing_in, crossing_label}
use Rattle.paths.proofs.RelationLaws.{cells_has}
use Rattle.paths.proofs.ChainOrderLaws.{leads, leads_yes, leads_no, before_self, not_after_then, first_only}
use Rattle.paths.proofs.AcceptanceLaws.{accepts, accepts_words, words_accepts}

-- ---- each x with a number below n
abbrev put_front : Bool → {A : Type 0} → A → List A → List A
put_front true a l = a ∷ l
put_front false a l = l

-- the steps from x that reach a record below m, over a label below k
unfoldable pub reach : Graph → ℕ → ℕ → Bool → ℕ → List Step
reach g x l b zero = []
reach g x l b (suc m) =
    let s : Step = record { spelt = record { label = l; inverted = b }; reached = m } in
    put_front (g.present (crossing s.spelt x s.reached)) s (reach g x l b m)

unfoldable pub steps_below : Graph → ℕ → ℕ → List Step
steps_below g x zero = []
steps_below g x (suc l) = reach g x l false g.n ++ (reach g x l true g.n ++ steps_below g x l)

abbrev pub steps_from : Graph → ℕ → List Step
steps_from g x = steps_below g x 26

-- a step put before each
unfoldable pub before_each : Step → List (List Step) → List (List Step)
before_each s [] = []
before_each s (ss ∷ l) = (s ∷ ss) ∷ before_each s l

unfoldable pub after_each : (Step → List (List Step)) → List Step → List (List Step)
after_each f [] = []
after_each f (s ∷ l) = before_each s (f s) ++ after_each f l

-- the chains of m steps from x
unfoldable pub walks : Graph → ℕ → ℕ → List (List Step)
walks g zero x = [] ∷ []
walks g (suc m) x = after_each (λ s. walks g m s.reached) (steps_from g x)

-- the chains of at most m steps
unfoldable pub walks_to : Graph → ℕ → ℕ → List (List Step)
walks_to g zero x = walks g zero x
walks_to g (suc m) x = walks_to g m x ++ walks g (suc m) x

-- where a chain from x ends
unfoldable pub end : ℕ → List Step → ℕ
end x [] = x
end x (s ∷ ss) = end s.reached ss

pub data Maybe : Type 0 where
  nothing : Maybe
  just : List Step → Maybe

abbrev pub choose : ℕ → List Step → Maybe → Maybe
choose zero ss m = m
choose (suc v) ss nothing = just ss
choose (suc v) ss (just ts) = pick (leads (step_words ss) (step_words ts)) (just ss) (just ts)

-- of those for which t is not 0, the first in the order of chains
unfoldable pub best : (List Step → ℕ) → List (List Step) → Maybe
best t [] = nothing
best t (ss ∷ l) = choose (t ss) ss (best t l)

abbrev pub serves : Expr → ℕ → ℕ → List Step → ℕ
serves e x y ss = min (bit (eqb (end x ss) y)) (accepts e (spell ss))

-- the first of the chains of at most m steps
unfoldable pub first_to : ℕ → Graph → Expr → ℕ → ℕ → Maybe
first_to m g e x y = best (serves e x y) (walks_to g m x)

-- ---- what `best` finds
pub data Best (t : List Step → ℕ) (l : List (List Step)) : Maybe → Type 0 where
  none : ((ss : List Step) → In ss l → 1 ≤ t ss → ⊥) → Best t l nothing
  some : {ss : List Step} → In ss l → 1 ≤ t ss → ((ts : List Step) → In ts l → 1 ≤ t ts → NotAfter (step_words ss) (step_words ts)) → Best t l (just ss)

not_after_self : (v : List ℕ) → NotAfter v v
not_after_self v = as_long refl (before_self v)

module _ (t : List Step → ℕ) where
  choose_best : (ss : List Step) (l : List (List Step)) (v : ℕ) (m : Maybe) → t ss ≡ v → Best t l m → Best t (ss ∷ l) (choose v ss m)
  choose_best ss l zero nothing e (none f) = none (λ ts i p. ⊎_elim (λ q. let z : t ts ≡ 0 = ap t q ∙ e in omega arith) (λ j. f ts j p) (in_front i refl))
  choose_best ss l zero (just us) e (some i p f) =
      some (there i) p (λ ts j q. ⊎_elim (λ r. absurd (let z : t ts ≡ 0 = ap t r ∙ e in omega arith)) (λ k. f ts k q) (in_front j refl))
  choose_best ss l (suc v) nothing e (none f) =
      some here (omega arith)
      (λ ts i p. ⊎_elim (λ q. subst (λ (u : List Step). NotAfter (step_words ss) (step_words u)) (sym q) (not_after_self (step_words ss)))
      (λ j. absurd (f ts j p)) (in_front i refl))
  choose_best ss l (suc v) (just us) e (some i p f) = go (leads (step_words ss) (step_words us)) refl
    where
      go : (b : Bool) → leads (step_words ss) (step_words us) ≡ b → Best t (ss ∷ l) (pick b (just ss) (just us))
      go true q = let h = leads_yes (step_words ss) (step_words us) q in
          some here (omega arith)
          (λ ts j r. ⊎_elim (λ z. subst (λ (u : List Step). NotAfter (step_words ss) (step_words u)) (sym z) (not_after_self (step_words ss)))
          (λ k. not_after_then h (f ts k r)) (in_front j refl))
      go false q = let h = leads_no (step_words ss) (step_words us) q in
          some (there i) p
          (λ ts j r. ⊎_elim (λ z. subst (λ (u : List Step). NotAfter (step_words us) (step_words u)) (sym z) h) (λ k. f ts k r) (in_front j refl))

  pub best_is : (l : List (List Step)) → Best t l (best t l)
  unfolding best
  best_is [] = none (λ ss i p. in_none i refl)
  best_is (ss ∷ l) = choose_best ss l (t ss) (best t l) refl (best_is l)

-- ---- what `walks` lists
module _ (g : Graph) where
  in_reach : (x l : ℕ) (b : Bool) (m r : ℕ) → r < m → g.present (crossing (record { label = l; inverted = b }) x r) ≡ true
      → In (record { spelt = record { label = l; inverted = b }; reached = r }) (reach g x l b m)
  unfolding reach
  in_reach x l b zero r h p = absurd (omega arith)
  in_reach x l b (suc m) r h p = go (dec_lt r m) (in_reach x l b m r)
    where
      s : Step
      s = record { spelt = record { label = l; inverted = b }; reached = m }

      on : (c : Bool) (a : Step) (k : List Step) → In a k → In a (put_front c s k)
      on true a k i = there i
      on false a k i = i

      go : Dec (r < m)
          → (r < m → g.present (crossing (record { label = l; inverted = b }) x r) ≡ true
          → In (record { spelt = record { label = l; inverted = b }; reached = r }) (reach g x l b m))
          → In (record { spelt = record { label = l; inverted = b }; reached = r })
          (put_front (g.present (crossing s.spelt x s.reached)) s (reach g x l b m))
      go (yes k) ih =
          on (g.present (crossing s.spelt x s.reached)) (record { spelt = record { label = l; inverted = b }; reached = r }) (reach g x l b m) (ih k p)
      go (no k) ih =
          let e : r ≡ m = omega arith in
          let q : g.present (crossing s.spelt x s.reached) ≡ true =
          subst (λ (v : ℕ). g.present (crossing (record { label = l; inverted = b }) x v) ≡ true) e p in
          rw (q, e) here

  in_steps : (x k : ℕ) (s : Step) → s.spelt.label < k → s.reached < g.n → g.present (crossing s.spelt x s.reached) ≡ true → In s (steps_below g x k)
  unfolding steps_below
  in_steps x zero s h r p = absurd (omega arith)
  in_steps x (suc l) s h r p = go (dec_lt s.spelt.label l) (in_steps x l s)
    where
      at_label : (b : Bool) → s.spelt.inverted ≡ b → s.spelt.label ≡ l → In s (reach g x l b g.n)
      at_label b q e =
          let j : s.spelt ≡ record { label = l; inverted = b } = λ i. record { label = e i; inverted = q i } in
          let i : In (record { spelt = record { label = l; inverted = b }; reached = s.reached }) (reach g x l b g.n) =
          in_reach x l b g.n s.reached r (subst (λ (a : Letter). g.present (crossing a x s.reached) ≡ true) j p) in
          subst (λ (a : Letter). In (record { spelt = a; reached = s.reached }) (reach g x l b g.n)) (sym j) i

      by_sense : (b : Bool) → s.spelt.inverted ≡ b → s.spelt.label ≡ l → In s (reach g x l false g.n ++ (reach g x l true g.n ++ steps_below g x l))
      by_sense true q e = in_right (reach g x l false g.n) (in_left (steps_below g x l) (at_label true q e))
      by_sense false q e = in_left (reach g x l true g.n ++ steps_below g x l) (at_label false q e)

      go : Dec (s.spelt.label < l)
          → (s.spelt.label < l → s.reached < g.n → g.present (crossing s.spelt x s.reached) ≡ true → In s (steps_below g x l))
          → In s (reach g x l false g.n ++ (reach g x l true g.n ++ steps_below g x l))
      go (yes k) ih = in_right (reach g x l false g.n) (in_right (reach g x l true g.n) (ih k r p))
      go (no k) ih = by_sense s.spelt.inverted refl (omega arith)

  in_before : {ss : List Step} (s : Step) {l : List (List Step)} → In ss l → In (s ∷ ss) (before_each s l)
  unfolding before_each
  in_before s here = here
  in_before s (there i) = there (in_before s i)

  in_after : (f : Step → List (List Step)) {s : Step} {ss : List Step} {l : List Step} → In s l → In ss (f s) → In (s ∷ ss) (after_each f l)
  unfolding after_each
  in_after f {s} (here {l}) j = in_left (after_each f l) (in_before s j)
  in_after f (there {v = u} {l = l} i) j = in_right (before_each u (f u)) (in_after f i j)

  pub in_walks : {x y : ℕ} {ss : List Step} → Inside g → Chain g x ss y → In ss (walks g (length ss) x)
  unfolding walks
  in_walks I stay = here
  in_walks {x} I (cross {s = s} {ss = ss} p c) =
      in_after (λ s. walks g (length ss) s.reached)
      (in_steps x 26 s (crossing_label g I s.spelt x s.reached p) (I.below _ (crossing_in g I s.spelt x s.reached p).1) p)
      (in_walks I c)

  pub in_walks_to : (m x : ℕ) (ss : List Step) → length ss ≤ m → In ss (walks g (length ss) x) → In ss (walks_to g m x)
  unfolding walks_to
  in_walks_to zero x ss h i = let e : length ss ≡ 0 = omega arith in subst (λ (v : ℕ). In ss (walks g v x)) e i
  in_walks_to (suc m) x ss h i = go (dec_le (length ss) m) (λ k. in_walks_to m x ss k i)
    where
      go : Dec (length ss ≤ m) → (length ss ≤ m → In ss (walks_to g m x)) → In ss (walks_to g m x ++ walks g (suc m) x)
      go (yes k) ih = in_left (walks g (suc m) x) (ih k)
      go (no k) ih = let e : length ss ≡ suc m = omega arith in in_right (walks_to g m x) (subst (λ (v : ℕ). In ss (walks g v x)) e i)

  -- and only chains
  reach_in : (x l : ℕ) (b : Bool) (m : ℕ) (s : Step) → In s (reach g x l b m) → g.present (crossing s.spelt x s.reached) ≡ true
  unfolding reach
  reach_in x l b zero s i = absurd (in_none i refl)
  reach_in x l b (suc m) s i = go (g.present (crossing (record { label = l; inverted = b }) x m)) refl i (reach_in x l b m s)
    where
      go : (c : Bool) → g.present (crossing (record { label = l; inverted = b }) x m) ≡ c
          → In s (put_front c (record { spelt = record { label = l; inverted = b }; reached = m }) (reach g x l b m))
          → (In s (reach g x l b m) → g.present (crossing s.spelt x s.reached) ≡ true) → g.present (crossing s.spelt x s.reached) ≡ true
      go true q i ih = ⊎_elim (λ e. rw e q) ih (in_front i refl)
      go false q i ih = ih i

  steps_in : (x k : ℕ) (s : Step) → In s (steps_below g x k) → g.present (crossing s.spelt x s.reached) ≡ true
  unfolding steps_below
  steps_in x zero s i = absurd (in_none i refl)
  steps_in x (suc l) s i = ⊎_elim (reach_in x l false g.n s)
      (λ j. ⊎_elim (reach_in x l true g.n s) (steps_in x l s) (in_either (reach g x l true g.n) (steps_below g x l) j))
      (in_either (reach g x l false g.n) (reach g x l true g.n ++ steps_below g x l) i)

  before_in : (s : Step) (l : List (List Step)) (ss : List Step) → In ss (before_each s l) → (us : List Step) × (ss ≡ s ∷ us) × In us l
  unfolding before_each
  before_in s [] ss i = absurd (in_none i refl)
  before_in s (us ∷ l) ss i = ⊎_elim (λ e. (us, e, here)) (λ j. let r = before_in s l ss j in (r.0, r.1, there r.2)) (in_front i refl)

  after_in : (f : Step → List (List Step)) (l : List Step) (ss : List Step)
      → In ss (after_each f l) → (s : Step) × (us : List Step) × (ss ≡ s ∷ us) × In s l × In us (f s)
  unfolding after_each
  after_in f [] ss i = absurd (in_none i refl)
  after_in f (s ∷ l) ss i = ⊎_elim
      (λ j. let r = before_in s (f s) ss j in (s, r.0, r.1, here, r.2))
      (λ j. let r = after_in f l ss j in (r.0, r.1, r.2, there r.3, r.4))
      (in_either (before_each s (f s)) (after_each f l) i)

  pub walks_in : (m x : ℕ) (ss : List Step) → In ss (walks g m x) → Chain g x ss (end x ss) × (length ss ≡ m)
  unfolding walks end
  walks_in zero x ss i = ⊎_elim (λ e. rw e (stay, refl)) (λ j. absurd (in_none j refl)) (in_front i refl)
  walks_in (suc m) x ss i =
      let r = after_in (λ s. walks g m s.reached) (steps_from g x) ss i in
      let q = walks_in m r.0.reached r.1 r.4 in
      subst (λ (t : List Step). Chain g x t (end x t) × (length t ≡ suc m)) (sym r.2) (cross (steps_in x 26 r.0 r.3) q.0, ap suc q.1)

  pub walks_to_in : (m x : ℕ) (ss : List Step) → In ss (walks_to g m x) → Chain g x ss (end x ss) × (length ss ≤ m)
  unfolding walks_to
  walks_to_in zero x ss i = let r = walks_in zero x ss i in (r.0, omega (arith, r.1))
  walks_to_in (suc m) x ss i = ⊎_elim
      (λ j. let r = walks_to_in m x ss j in (r.0, omega (arith, r.1)))
      (λ j. let r = walks_in (suc m) x ss j in (r.0, omega (arith, r.1)))
      (in_either (walks_to g m x) (walks g (suc m) x) i)

  pub end_is : {x y : ℕ} {ss : List Step} → Chain g x ss y → end x ss ≡ y
  unfolding end
  end_is stay = refl
  end_is (cross p c) = end_is c

-- ---- the first chain
pub length_step_words : (ss : List Step) → length (step_words ss) ≡ length ss
unfolding step_words
length_step_words [] = refl
length_step_words (s ∷ ss) = ap suc (length_step_words ss)

module _ (g : Graph) (I : Inside g) (e : Expr) (x y : ℕ) (u : g.in_use x ≡ true) (v : g.in_use y ≡ true) where
  pub answers_serve : (ss : List Step) → Answers g e x y ss → 1 ≤ serves e x y ss
  answers_serve ss a =
      let p : 1 ≤ bit (eqb (end x ss) y) = omega (arith, on_bit (eqb (end x ss) y) (eq-eqb (end x ss) y (end_is g a.chain))) in
      let q = words_accepts a.spells in
      omega arith

  serves_answer : (m : ℕ) (ss : List Step) → In ss (walks_to g m x) → 1 ≤ serves e x y ss → Answers g e x y ss
  serves_answer m ss i h =
      let p : end x ss ≡ y = eqb-true (end x ss) y (bit_on (eqb (end x ss) y) (omega arith)) in
      record {
        begins = u;
        ends = v;
        chain = subst (λ (z : ℕ). Chain g x ss z) p (walks_to_in g m x ss i).0;
        spells = accepts_words e (spell ss) (omega arith);
      }

  pub answers_listed : (m : ℕ) (ss : List Step) → length ss ≤ m → Answers g e x y ss → In ss (walks_to g m x)
  answers_listed m ss h a = in_walks_to g m x ss h (in_walks g I a.chain)

  -- what is found is the first of all chains
  pub found_first : (m : ℕ) (ss : List Step) → first_to m g e x y ≡ just ss → First g e x y ss
  unfolding first_to
  found_first m ss q = go (best_is (serves e x y) (walks_to g m x)) q
    where
      go : {r : Maybe} → Best (serves e x y) (walks_to g m x) r → r ≡ just ss → First g e x y ss
      go (none f) q = absurd (let z : ◌≡◌ {A = ℕ} 0 1 = cc in omega arith)
      go (some {ss = us} i p f) q =
          let k : us ≡ ss = cc in
          subst (λ (t : List Step). First g e x y t) k (record {
            answers = serves_answer m us i p;
            least = λ ts a. shut ts a (dec_le (length ts) m);
          })
        where
          shut : (ts : List Step) → Answers g e x y ts → Dec (length ts ≤ m) → NotAfter (step_words us) (step_words ts)
          shut ts a (yes l) = f ts (answers_listed m ts l a) (answers_serve ts a)
          shut ts a (no l) = shorter (omega (arith, length_step_words us, length_step_words ts, (walks_to_in g m x us i).1))

  -- and something is found if there is a chain
  pub first_found : (ts : List Step) → Answers g e x y ts → (ss : List Step) × (first_to (length ts) g e x y ≡ just ss)
  unfolding first_to
  first_found ts a = go (best_is (serves e x y) (walks_to g (length ts) x))
    where
      go : {r : Maybe} → Best (serves e x y) (walks_to g (length ts) x) r → (ss : List Step) × (r ≡ just ss)
      go (none f) = absurd (f ts (answers_listed (length ts) ts (omega arith) a) (answers_serve ts a))
      go (some {ss = us} i p f) = (us, refl)

-- if a pair has a chain, it has a first one
pub has_first : (g : Graph) → Inside g → (e : Expr) (x y : ℕ) → Has g e x y → (ss : List Step) × First g e x y ss
has_first g I e x y h =
    let r = first_found g I e x y h.1.begins h.1.ends h.0 h.1 in
    (r.0, found_first g I e x y h.1.begins h.1.ends (length h.0) r.0 r.1)

-- the same, none where a record is not in use
unfoldable pub chain_to : ℕ → Graph → Expr → ℕ → ℕ → Maybe
chain_to m g e x y = pick (g.in_use x && g.in_use y) (first_to m g e x y) nothing

pub chain_first : (g : Graph) → Inside g → (m : ℕ) (e : Expr) (x y : ℕ) (ss : List Step) → chain_to m g e x y ≡ just ss → First g e x y ss
unfolding chain_to
chain_first g I m e x y ss q = go (g.in_use x && g.in_use y) refl q
  where
    go : (b : Bool) → (g.in_use x && g.in_use y) ≡ b → pick b (first_to m g e x y) nothing ≡ just ss → First g e x y ss
    go true p q = let h = and_both (g.in_use x) (g.in_use y) p in found_first g I e x y h.0 h.1 m ss q
    go false p q = absurd (let z : ◌≡◌ {A = ℕ} 0 1 = cc in omega arith)

-- ---- the answer of a chain question: there is one, and no other
pub reply_only : {g : Graph} {e : Expr} {x y : ℕ} {t u : Reply} → ChainIs g e x y t → ChainIs g e x y u → t ≡ u
reply_only (no_chain f) (no_chain h) = refl
reply_only (no_chain f) (first_chain ss h) = absurd (f ss h.answers)
reply_only (first_chain ss f) (no_chain h) = absurd (h ss f.answers)
reply_only {g} {e} {x} {y} (first_chain ss f) (first_chain ts h) = ap chain-reply (first_only g e x y ss ts f h)

pub reply : (g : Graph) → Inside g → (e : Expr) (x y : ℕ) → (t : Reply) × ChainIs g e x y t
reply g I e x y = go (dec_le 1 (cells g e x y))
  where
    go : Dec (1 ≤ cells g e x y) → (t : Reply) × ChainIs g e x y t
    go (yes h) = let r = has_first g I e x y ((cells_has g I e x y).0 h) in (chain-reply (step_words r.0), first_chain r.0 r.1)
    go (no h) = (no-reply, no_chain (λ ss a. h ((cells_has g I e x y).1 (ss, a))))
