-- Laws of the levels, which the search makes backward from the end: one level more keeps what the numbers mean, and an empty level ends the search.
--   walk_stop, walk_more, walk_ends, walk_less
--                     walks made and taken apart at their first step
--   reach_less        what reaches the end in one step more has a first step
--   Which a b, which  which of two numbers is the less
--   known_grown       one level more
--   known_none        with no number of the last level there is no walk, of any length, from where the number is 0
--   exact             a step from a number m + 2 to where there is a walk of m steps leads to the number m + 1
-- Assumes nothing.
use Rattle.std.specs.Prelude.{◌≡◌, refl, ℕ, zero, suc, ◌-◌, ◌<◌, ◌≤◌, length}
use Rattle.std.proofs.Common.{ap, subst, arith}
use mathlib.Core.List.{List, [], ◌∷◌}
use Rattle.std.proofs.Math.Nat.{suc_inj}
use Rattle.std.proofs.Math.Decide.{dec_lt}
use Rattle.paths.specs.Chains.{Graph, Step, Chain, stay, cross, spell}
use Rattle.automaton.specs.Automata.{On, Automaton, Run, ends, goes}
use Rattle.automaton.specs.Searches.{Walk, Moves, Reach, Shut, Known, Grown}

-- ---- walks
module _ {g : Graph} {M : Automaton} {y : ℕ} where
  pub walk_stop : {q : ℕ} → On (M.final q) → Walk g M y y q []
  unfolding spell
  walk_stop o = record { chain = stay; run = ends o }

  pub walk_more : {r q q' : ℕ} {s : Step} {ss : List Step} → Moves g M r q s q' → Walk g M y s.reached q' ss → Walk g M y r q (s ∷ ss)
  unfolding spell
  walk_more m w = record { chain = cross m.crosses w.chain; run = goes m.follow m.enters w.run }

  pub walk_ends : {r q : ℕ} → Walk g M y r q [] → (r ≡ y) × On (M.final q)
  unfolding spell
  walk_ends {r} {q} w = go w.chain w.run
    where
      go : {r : ℕ} → Chain g r [] y → Run M q [] → (r ≡ y) × On (M.final q)
      go stay (ends o) = (refl, o)

  pub walk_less : {r q : ℕ} {s : Step} {ss : List Step} → Walk g M y r q (s ∷ ss) → (q' : ℕ) × Moves g M r q s q' × Walk g M y s.reached q' ss
  unfolding spell
  walk_less {r} {q} {s} {ss} w = go w.chain w.run
    where
      go : Chain g r (s ∷ ss) y → Run M q (s.spelt ∷ spell ss) → (q' : ℕ) × Moves g M r q s q' × Walk g M y s.reached q' ss
      go (cross p c) (goes {q' = q'} f e t) = (q', record { crosses = p; follow = f; enters = e }, record { chain = c; run = t })

  reach_more : {r q q' k : ℕ} {s : Step} → Moves g M r q s q' → Reach g M y k s.reached q' → Reach g M y (suc k) r q
  reach_more {s = s} m w = (s ∷ w.0, ap suc w.1, walk_more m w.2)

  pub reach_less : {r q k : ℕ} → Reach g M y (suc k) r q → (s : Step) × (q' : ℕ) × Moves g M r q s q' × Reach g M y k s.reached q'
  reach_less {r} {q} {k} (ss, e, w) = go ss e w
    where
      go : (ss : List Step) → length ss ≡ suc k → Walk g M y r q ss → (s : Step) × (q' : ℕ) × Moves g M r q s q' × Reach g M y k s.reached q'
      go [] e w = absurd (omega arith)
      go (s ∷ ss) e w = let v = walk_less w in (s, v.0, v.1, (ss, suc_inj e, v.2))

-- which of three
pub data Which (a b : ℕ) : Type 0 where
  less : a < b → Which a b
  same : a ≡ b → Which a b
  more : b < a → Which a b

pub which : (a b : ℕ) → Which a b
which a b = go (dec_lt a b) (dec_lt b a)
  where
    go : Dec (a < b) → Dec (b < a) → Which a b
    go (yes h) g = less h
    go (no h) (yes g) = more g
    go (no h) (no g) = same (omega arith)

module _ {g : Graph} {M : Automaton} {y n l : ℕ} (shut : Shut g M n) {d : ℕ → ℕ → ℕ} (K : Known g M y n l d) where
  -- a step from a record and state whose end lies k steps on, k at most l: the number there is at most one more
  near : (r q q' k : ℕ) (s : Step) → r < n → q < 64 → Moves g M r q s q' → d s.reached q' ≡ suc k → k < l → (0 < d r q) × (d r q ≤ suc (suc k))
  near r q q' k s hr hq m e h =
      let z = shut r q q' s m in
      K.complete r q (suc k) hr hq h (reach_more m (K.sound s.reached q' k z.0 z.1 e))

  pub known_grown : {d' : ℕ → ℕ → ℕ} → Grown g M n l d d' → Known g M y n (suc l) d'
  known_grown {d'} G = record { sound = snd; complete = cmp; bound = bnd }
    where
      snd : (r q k : ℕ) → r < n → q < 64 → d' r q ≡ suc k → Reach g M y k r q
      snd r q k hr hq e = go (d r q) refl
        where
          go : (v : ℕ) → d r q ≡ v → Reach g M y k r q
          go zero h =
              let u = G.made r q hr hq h (omega arith) in
              let z = shut r q u.2 u.1 u.3 in
              let f : suc l ≡ k = omega arith in
              subst (λ (j : ℕ). Reach g M y j r q) f (reach_more u.3 (K.sound u.1.reached u.2 l z.0 z.1 u.4))
          go (suc v) h = let f = G.kept r q hr hq (omega arith) in K.sound r q k hr hq (omega arith)

      bnd : (r q : ℕ) → r < n → q < 64 → d' r q ≤ suc (suc l)
      bnd r q hr hq = go (d r q) refl (d' r q) refl
        where
          go : (v : ℕ) → d r q ≡ v → (v' : ℕ) → d' r q ≡ v' → d' r q ≤ suc (suc l)
          go zero h zero h' = omega arith
          go zero h (suc v') h' = let u = (G.made r q hr hq h (omega arith)).0 in omega arith
          go (suc v) h v' h' = let f = G.kept r q hr hq (omega arith) in let b = K.bound r q hr hq in omega arith

      -- what was known stays
      old : (r q k : ℕ) → r < n → q < 64 → (0 < d r q) × (d r q ≤ suc k) → (0 < d' r q) × (d' r q ≤ suc k)
      old r q k hr hq p = let f = G.kept r q hr hq p.0 in (omega arith, omega arith)

      cmp : (r q k : ℕ) → r < n → q < 64 → k ≤ suc l → Reach g M y k r q → (0 < d' r q) × (d' r q ≤ suc k)
      cmp r q k hr hq h w = go (which k (suc l))
        where
          last : (s : Step) (q' : ℕ) → k ≡ suc l → Moves g M r q s q' → Reach g M y l s.reached q' → (0 < d' r q) × (d' r q ≤ suc k)
          last s q' e m v =
              let z = shut r q q' s m in
              let p = K.complete s.reached q' l z.0 z.1 (omega arith) v in
              pick (which (d s.reached q') (suc l)) p
            where
              pick : Which (d s.reached q') (suc l) → (0 < d s.reached q') × (d s.reached q' ≤ suc l) → (0 < d' r q) × (d' r q ≤ suc k)
              pick (same f) p = let b = bnd r q hr hq in (G.all r q q' s hr hq m f, omega arith)
              pick (more f) p = absurd (omega arith)
              pick (less f) p =
                  let j : d s.reached q' ≡ suc (d s.reached q' - 1) = omega arith in
                  let o = near r q q' (d s.reached q' - 1) s hr hq m j (omega arith) in
                  old r q k hr hq (o.0, omega arith)

          go : Which k (suc l) → (0 < d' r q) × (d' r q ≤ suc k)
          go (less f) = old r q k hr hq (K.complete r q k hr hq (omega arith) w)
          go (same f) = let v = reach_less (subst (λ (j : ℕ). Reach g M y j r q) f w) in last v.0 v.1 f v.2 v.3
          go (more f) = absurd (omega arith)

  -- with no number of the last level there is no walk from where the number is 0
  pub known_none : ((r q : ℕ) → r < n → q < 64 → d r q ≡ suc l → ⊥) → (k r q : ℕ) → r < n → q < 64 → Reach g M y k r q → 0 < d r q
  known_none none zero r q hr hq w = (K.complete r q 0 hr hq (omega arith) w).0
  known_none none (suc k) r q hr hq w =
      let v = reach_less w in
      let z = shut r q v.1 v.0 v.2 in
      let p = known_none none k v.0.reached v.1 z.0 z.1 v.3 in
      let b = K.bound v.0.reached v.1 z.0 z.1 in
      let j : d v.0.reached v.1 ≡ suc (d v.0.reached v.1 - 1) = omega arith in
      pick v.0 v.1 v.2 j (which (d v.0.reached v.1) (suc l)) z.0 z.1 b
    where
      pick : (s : Step) (q' : ℕ) → Moves g M r q s q' → d s.reached q' ≡ suc (d s.reached q' - 1)
          → Which (d s.reached q') (suc l) → s.reached < n → q' < 64 → d s.reached q' ≤ suc l → 0 < d r q
      pick s q' m j (same f) a b h = absurd (none s.reached q' a b f)
      pick s q' m j (more f) a b h = absurd (omega arith)
      pick s q' m j (less f) a b h = (near r q q' (d s.reached q' - 1) s hr hq m j (omega arith)).0

  -- a walk of m steps whose first step comes from where the number is m + 2 and more leads to m + 1
  pub exact : (r q q' m : ℕ) (s : Step) → r < n → q < 64 → Moves g M r q s q' → d r q ≡ suc (suc m) → Reach g M y m s.reached q' → d s.reached q' ≡ suc m
  exact r q q' m s hr hq v e w =
      let z = shut r q q' s v in
      let b = K.bound r q hr hq in
      let p = K.complete s.reached q' m z.0 z.1 (omega arith) w in
      let j : d s.reached q' ≡ suc (d s.reached q' - 1) = omega arith in
      pick (which (d s.reached q') (suc m)) p j b
    where
      pick : Which (d s.reached q') (suc m) → (0 < d s.reached q') × (d s.reached q' ≤ suc m)
          → d s.reached q' ≡ suc (d s.reached q' - 1) → d r q ≤ suc l → d s.reached q' ≡ suc m
      pick (same f) p j b = f
      pick (more f) p j b = absurd (omega arith)
      pick (less f) p j b = absurd (let o = near r q q' (d s.reached q' - 1) s hr hq v j (omega arith) in omega arith)
