-- A first chain is short: it has at most as many steps as the expression has letters, times n. A chain can be shortened if its run comes to one record in
-- one state twice, and there are no more records and states than that.
--   distinct_few    different numbers below k are at most k
--   first_short     length ss ≤ letters e * n for the first chain ss
--   chains_63       so at most 63 × n for an expression within the limits
-- Assumes nothing.
use Rattle.std.specs.Prelude.{◌≡◌, ◌⊎◌, Bool, not, ◌||◌}
use Rattle.std.proofs.Math.Path.{refl, subst}
use Rattle.std.proofs.Common.{sym, ap, ◌∙◌, mul-le-mul_right}
use Rattle.std.proofs.Math.Logic.{inl, inr}
use mathlib.Core.List.{List, [], ◌∷◌}
use Rattle.std.proofs.Math.Bool.{true, false}
use Rattle.std.proofs.lemmas.Bool.{false≢true}
use Prim.Native.Nat.{ℕ, zero, suc, ◌+◌, ◌-◌, ◌*◌, ◌≤◌, ◌<◌}
use Rattle.std.proofs.Math.Decide.{dec_lt}
use native.Mathlib.Omega.{arith}
use Rattle.std.proofs.Math.ListN.{length}
use Rattle.std.proofs.Math.Dec.{eqb}
use borrow.Author.Tests.{eq-eqb, eqb-true}
use Rattle.book.specs.Basics.{has, without}
use Rattle.book.specs.Sheets.{Distinct}
use Rattle.book.proofs.SetLaws.{and_both, eqb_test, has_without, without_absent, distinct_without, length_without}
use Rattle.paths.specs.Expressions.{Expr, letters}
use Rattle.paths.specs.Chains.{Graph, Step, spell, Answers, NotAfter, shorter, as_long, First}
use Rattle.paths.specs.Inside.{Inside}
use Rattle.paths.proofs.ChainLaws.{crossing_in}
use Rattle.paths.proofs.FirstChainLaws.{length_step_words}
use Rattle.automaton.specs.Automata.{Automaton, automaton, started}
use Rattle.automaton.proofs.AutomatonLaws.{words_run}
use Rattle.automaton.proofs.TraceLaws.{within}
use Rattle.automaton.specs.Searches.{Walk, Moves}
use Rattle.automaton.proofs.LevelLaws.{walk_more, walk_less}
use Rattle.automaton.proofs.WalkLaws.{answers_walk}

pub distinct_few : (k : ℕ) (l : List ℕ) → Distinct eqb l → ((v : ℕ) → has eqb v l ≡ true → v < k) → length l ≤ k
distinct_few zero l d b = go l b
  where
    go : (l : List ℕ) → ((v : ℕ) → has eqb v l ≡ true → v < 0) → length l ≤ 0
    go [] b = omega arith
    go (x ∷ l) b = absurd (let h : x < 0 = b x (unfold has in (rw (eq-eqb x x refl))) in omega arith)
distinct_few (suc k) l d b = go (has eqb k l) refl (distinct_few k (without eqb k l) (distinct_without eqb_test k l d) below)
  where
    below : (v : ℕ) → has eqb v (without eqb k l) ≡ true → v < k
    below v h =
        let r = and_both (not (eqb k v)) (has eqb v l) (sym (has_without eqb_test k v l) ∙ h) in
        let n : (k ≡ v → ⊥) = λ e. false≢true (sym (ap not (eq-eqb k v e)) ∙ r.0) in
        omega (arith, b v r.1)

    go : (t : Bool) → has eqb k l ≡ t → length (without eqb k l) ≤ k → length l ≤ suc k
    go true h i = omega (arith, length_without eqb_test k l d h)
    go false h i = let e = ap length (without_absent eqb_test k l h) in omega arith

module _ (g : Graph) (I : Inside g) (e : Expr) (y : ℕ) where
  abbrev M : Automaton
  M = automaton e

  -- a record and a state that is a position, as one number
  abbrev place : ℕ → ℕ → ℕ
  place q r = (q - 1) * g.n + r

  -- the places that a walk comes to, one for each step
  data Places : ℕ → ℕ → List Step → List ℕ → Type 0 where
    stays : {r q : ℕ} → Places r q [] []
    comes : {r q q' : ℕ} {s : Step} {ss : List Step} {ps : List ℕ} → Moves g M r q s q'
        → Walk g M y s.reached q' ss → Places s.reached q' ss ps → Places r q (s ∷ ss) (place q' s.reached ∷ ps)

  places : {r q : ℕ} (ss : List Step) → Walk g M y r q ss → (ps : List ℕ) × Places r q ss ps
  places {r = r} {q = q} [] w = ([], stays)
  places {r = r} {q = q} (s ∷ ss) w = let v = walk_less w in let p = places {r = s.reached} {q = v.0} ss v.2 in (_, comes v.1 v.2 p.1)

  places_length : {r q : ℕ} {ss : List Step} {ps : List ℕ} → Places r q ss ps → length ps ≡ length ss
  places_length stays = refl
  places_length (comes m w p) = ap suc (places_length p)

  -- a step comes to a record below n and a position
  moved : {r q q' : ℕ} {s : Step} → Moves g M r q s q' → (s.reached < g.n) × (0 < q') × (q' ≤ letters e)
  unfolding started
  moved {r} {q} {q'} {s} m =
      let b = (within e 0).enters q' s.spelt m.enters in
      (I.below s.reached (crossing_in g I s.spelt r s.reached m.crosses).1, b.0, omega arith)

  place_lt : (q r : ℕ) → 0 < q → q ≤ letters e → r < g.n → place q r < letters e * g.n
  place_lt q r a b c =
      let m : suc (q - 1) * g.n ≤ letters e * g.n = mul-le-mul_right g.n (let z : suc (q - 1) ≤ letters e = omega arith in z) in
      omega arith

  place_same : (p x q r : ℕ) → 0 < p → 0 < q → x < g.n → r < g.n → place p x ≡ place q r → (p ≡ q) × (x ≡ r)
  place_same p x q r a b h l z = go (dec_lt (p - 1) (q - 1)) (dec_lt (q - 1) (p - 1))
    where
      go : Dec (p - 1 < q - 1) → Dec (q - 1 < p - 1) → (p ≡ q) × (x ≡ r)
      go (yes c) d = absurd (let m : suc (p - 1) * g.n ≤ (q - 1) * g.n = mul-le-mul_right g.n c in omega arith)
      go (no c) (yes d) = absurd (let m : suc (q - 1) * g.n ≤ (p - 1) * g.n = mul-le-mul_right g.n d in omega arith)
      go (no c) (no d) =
          let w : p - 1 ≡ q - 1 = omega arith in
          let v : (p - 1) * g.n ≡ (q - 1) * g.n = ap (λ (k : ℕ). k * g.n) w in
          (omega arith, omega arith)

  places_lt : {r q : ℕ} {ss : List Step} {ps : List ℕ} → Places r q ss ps → (v : ℕ) → has eqb v ps ≡ true → v < letters e * g.n
  unfolding has
  places_lt stays v h = absurd (false≢true h)
  places_lt (comes {q' = q'} {s = s} {ps = ps} m w p) v h = go (eqb (place q' s.reached) v) refl h (λ j. places_lt p v j)
    where
      go : (b : Bool) → eqb (place q' s.reached) v ≡ b → (b || has eqb v ps) ≡ true → (has eqb v ps ≡ true → v < letters e * g.n) → v < letters e * g.n
      go true z h ih = let k = moved m in omega (arith, eqb-true (place q' s.reached) v z, place_lt q' s.reached k.1 k.2 k.0)
      go false z h ih = ih h

  -- the rest of a walk from where it comes by a place
  suffix : (p x : ℕ) → 0 < p → x < g.n → {r q : ℕ} {ss : List Step} {ps : List ℕ} → Places r q ss ps
      → has eqb (place p x) ps ≡ true → (ts : List Step) × (length ts < length ss) × Walk g M y x p ts
  unfolding has
  suffix p x a h stays i = absurd (false≢true i)
  suffix p x a h (comes {q' = q'} {s = s} {ss = ss} {ps = ps} m w k) i = go (eqb (place q' s.reached) (place p x)) refl i (λ j. suffix p x a h k j)
    where
      go : (b : Bool) → eqb (place q' s.reached) (place p x) ≡ b → (b || has eqb (place p x) ps) ≡ true
          → (has eqb (place p x) ps ≡ true → (ts : List Step) × (length ts < length ss) × Walk g M y x p ts)
          → (ts : List Step) × (length ts < suc (length ss)) × Walk g M y x p ts
      go true z i ih =
          let u = moved m in
          let d = place_same q' s.reached p x u.1 a u.0 h (eqb-true _ _ z) in
          (ss, omega arith, subst (λ (v : ℕ). Walk g M y x v ss) d.0 (subst (λ (v : ℕ). Walk g M y v q' ss) d.1 w))
      go false z i ih = let d = ih i in (d.0, omega (arith, d.1), d.2)

  -- a walk comes by different places, or there is a shorter one
  shrink : {r q : ℕ} {ss : List Step} {ps : List ℕ} → Places r q ss ps → Distinct eqb ps ⊎ ((ts : List Step) × (length ts < length ss) × Walk g M y r q ts)
  unfolding Distinct
  shrink stays = inl tt
  shrink {r} {q} (comes {q' = q'} {s = s} {ss = ss} {ps = ps} m w k) = go (has eqb (place q' s.reached) ps) refl (shrink k)
    where
      go : (b : Bool) → has eqb (place q' s.reached) ps ≡ b → Distinct eqb ps ⊎ ((ts : List Step) × (length ts < length ss) × Walk g M y s.reached q' ts)
          → ((has eqb (place q' s.reached) ps ≡ false) × Distinct eqb ps) ⊎ ((ts : List Step) × (length ts < suc (length ss)) × Walk g M y r q ts)
      go true h d = let u = moved m in let f = suffix q' s.reached u.1 u.0 k h in inr (s ∷ f.0, omega (arith, f.1), walk_more m f.2)
      go false h (inl d) = inl (h, d)
      go false h (inr d) = inr (s ∷ d.0, omega (arith, d.1), walk_more m d.2)

  not_longer : {v w : List ℕ} → NotAfter v w → length v ≤ length w
  not_longer (shorter h) = omega arith
  not_longer (as_long z h) = omega arith

  pub first_short : (x : ℕ) (ss : List Step) → First g e x y ss → length ss ≤ letters e * g.n
  first_short x ss f = let p = places ss (answers_walk f.answers) in by p.0 p.1 (shrink p.1)
    where
      by : (ps : List ℕ) → Places x 0 ss ps → Distinct eqb ps ⊎ ((ts : List Step) × (length ts < length ss) × Walk g M y x 0 ts) → length ss ≤ letters e * g.n
      by ps p (inl d) = omega (arith, distinct_few (letters e * g.n) ps d (places_lt p), places_length p)
      by ps p (inr d) =
          let a : Answers g e x y d.0 =
          record { begins = f.answers.begins; ends = f.answers.ends; chain = d.2.chain; spells = (words_run e (spell d.0)).1 d.2.run } in
          absurd (omega (arith, not_longer (f.least d.0 a), length_step_words ss, length_step_words d.0, d.1))

pub chains_63 : (g : Graph) → Inside g → (e : Expr) → letters e ≤ 63 → (x y : ℕ) (ss : List Step) → First g e x y ss → length ss ≤ 63 * g.n
chains_63 g I e h x y ss f = let m : letters e * g.n ≤ 63 * g.n = mul-le-mul_right g.n h in omega (arith, first_short g I e y x ss f)
