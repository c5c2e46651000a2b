-- Laws of the walk forward: a smallest step and then a best walk are a best walk, and the best walk from the start is the first chain.
--   best_more, best_none
--                   best walks made from their end
--   answers_walk    a chain that answers is a walk from the start
--   best_first      the best of the shortest walks from the start is the first chain
-- Assumes nothing.
use Rattle.std.specs.Prelude.{◌≡◌, refl, ◌⊎◌, true}
use Rattle.std.proofs.Common.{sym, inl, inr, arith}
use Rattle.std.proofs.Math.Path.{ap, subst}
use mathlib.Core.List.{List, [], ◌∷◌}
use Prim.Native.Nat.{ℕ, suc, ◌<◌}
use Rattle.std.proofs.Math.Nat.{suc_inj}
use Rattle.std.proofs.Math.ListN.{length}
use Rattle.paths.specs.Expressions.{Expr}
use Rattle.paths.specs.Chains.{Graph, Step, step_word, spell, step_words, Answers, Before, same as same-words, smaller, alike, NotAfter, shorter, as_long}
use Rattle.paths.specs.Chains.{First}
use Rattle.paths.specs.Words.{Words}
use Rattle.paths.proofs.FirstChainLaws.{length_step_words}
use Rattle.automaton.specs.Automata.{On, is, Automaton, automaton, Run}
use Rattle.automaton.proofs.SetLaws.{on_is, is_on}
use Rattle.automaton.proofs.AutomatonLaws.{words_run}
use Rattle.automaton.specs.Searches.{Walk, Reach, Known, Best, Picks}
use Rattle.automaton.proofs.LevelLaws.{walk_more, walk_less, Which, less, same, more, which}

module _ {g : Graph} {M : Automaton} {y : ℕ} where
  pub best_more : {G K : ℕ → ℕ} {r m : ℕ} {s : Step} {ss : List Step} → Picks g M y G r m s K → Best g M y K s.reached m ss → Best g M y G r (suc m) (s ∷ ss)
  unfolding step_words
  best_more {G} {K} {r} {m} {s} {ss} P B =
      let c = P.came B.from B.among in
      record { from = c.0; among = c.1; walk = walk_more c.2 B.walk; long = ap suc B.long; least = all }
    where
      side : (q' : ℕ) (t : Step) (ts : List Step) → (step_word s < step_word t) ⊎ ((s ≡ t) × On (K q'))
          → Walk g M y t.reached q' ts → length ts ≡ m → Before (step_word s ∷ step_words ss) (step_word t ∷ step_words ts)
      side q' t ts (inl h) w e = smaller h
      side q' t ts (inr p) w e =
          subst (λ (u : Step). Before (step_word s ∷ step_words ss) (step_word u ∷ step_words ts)) p.0
          (alike (B.least q' ts p.1 (subst (λ (u : Step). Walk g M y u.reached q' ts) (sym p.0) w) e))

      all : (q : ℕ) (ts : List Step) → On (G q) → Walk g M y r q ts → length ts ≡ suc m → Before (step_word s ∷ step_words ss) (step_words ts)
      all q [] o w e = absurd (omega arith)
      all q (t ∷ ts) o w e =
          let v = walk_less w in
          side v.0 t ts (P.least q v.0 t o v.1 (ts, suc_inj e, v.2)) v.2 (suc_inj e)

  -- at the end nothing is left
  pub best_none : {G : ℕ → ℕ} {r q : ℕ} → On (G q) → Reach g M y 0 r q → Best g M y G r 0 []
  unfolding step_words
  best_none {G} {r} {q} o (ss, e, w) = go ss e w
    where
      none : (ts : List Step) → length ts ≡ 0 → Before [] (step_words ts)
      none [] e = same-words
      none (t ∷ ts) e = absurd (omega arith)

      go : (ss : List Step) → length ss ≡ 0 → Walk g M y r q ss → Best g M y G r 0 []
      go [] e w = record { from = q; among = o; walk = w; long = refl; least = λ p ts h v k. none ts k }
      go (s ∷ ss) e w = absurd (omega arith)

pub answers_walk : {g : Graph} {e : Expr} {x y : ℕ} {ss : List Step} → Answers g e x y ss → Walk g (automaton e) y x 0 ss
answers_walk {e = e} {ss = ss} a = record { chain = a.chain; run = (words_run e (spell ss)).0 a.spells }

module _ {g : Graph} {y n l x : ℕ} {d : ℕ → ℕ → ℕ} (e : Expr) (K : Known g (automaton e) y n l d) (h : x < n) where
  pub best_first : {m : ℕ} {ss : List Step} → g.in_use x ≡ true → g.in_use y ≡ true → d x 0 ≡ suc m → Best g (automaton e) y (is 0) x m ss → First g e x y ss
  best_first {m} {ss} bx by k B = record { answers = record { begins = bx; ends = by; chain = B.walk.chain; spells = spells }; least = least }
    where
      spells : Words e (spell ss)
      spells = (words_run e (spell ss)).1 (subst (λ (q : ℕ). Run (automaton e) q (spell ss)) (on_is 0 B.from B.among) B.walk.run)

      least : (ts : List Step) → Answers g e x y ts → NotAfter (step_words ss) (step_words ts)
      least ts a = go (which (length ts) m) (length_step_words ss) (length_step_words ts) B.long
        where
          go : Which (length ts) m → length (step_words ss) ≡ length ss
              → length (step_words ts) ≡ length ts → length ss ≡ m → NotAfter (step_words ss) (step_words ts)
          go (less f) i j b =
              absurd (let u = K.bound x 0 h (omega arith) in let z =
              K.complete x 0 (length ts) h (omega arith) (omega arith) (ts, refl, answers_walk a) in omega arith)
          go (same f) i j b = as_long (omega arith) (B.least 0 ts (is_on 0) (answers_walk a) f)
          go (more f) i j b = shorter (omega arith)
