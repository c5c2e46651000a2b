-- The theorem: the words of an expression are exactly the letter sequences of its automaton's accepted runs.
--   words_run       Words e w exactly if Run (automaton e) 0 w
-- Assumes nothing.
use Rattle.std.specs.Prelude.{◌⊎◌, ◌↔◌, List, ◌∷◌, ℕ, ◌<◌, max, min}
use Rattle.std.proofs.Common.{inl, inr, arith}
use Rattle.paths.specs.Expressions.{Letter, Expr}
use Rattle.paths.specs.Words.{Words}
use Rattle.automaton.specs.Automata.{On, is, Fragment, started, automaton, Run, ends, goes}
use Rattle.automaton.proofs.SetLaws.{on_max, on_left, on_right, on_both, on_min, on_is, is_on}
use Rattle.automaton.specs.Traces.{Trace, at, on, Reads, nothing, along, Within}
use Rattle.automaton.proofs.TraceLaws.{within}
use Rattle.automaton.proofs.ReadLaws.{reads_words, words_reads}

-- past the start the sets are those of the positions
past : (q a b : ℕ) → 0 < q → On (max a (min (is 0 q) b)) → On a
past q a b h o = go (on_max a (min (is 0 q) b) o)
  where
    go : On a ⊎ On (min (is 0 q) b) → On a
    go (inl p) = p
    go (inr p) = absurd (let e = on_is 0 q (on_min (is 0 q) b p).0 in omega arith)

-- at the start, which is no position, they are the others
starts : (a b : ℕ) → (On a → ⊥) → On (max a (min (is 0 0) b)) → On b
starts a b n o = go (on_max a (min (is 0 0) b) o)
  where
    go : On a ⊎ On (min (is 0 0) b) → On b
    go (inl p) = absurd (n p)
    go (inr p) = (on_min (is 0 0) b p).1

module _ {A : Fragment} {hi : ℕ} (W : Within 0 hi A) where
  run_trace : {q : ℕ} {w : List Letter} (a : Letter) → On (A.enters q a) → Run (started A) q w → (z : ℕ) × Trace A q (a ∷ w) z × On (A.last z)
  unfolding started
  run_trace a e (ends {q} o) = (q, at e, past q _ _ (W.enters q a e).0 o)
  run_trace a e (goes {q} {q'} {a = b} f h r) = let t = run_trace b h r in (t.0, on e (past q _ _ (W.enters q a e).0 f) t.1, t.2)

  run_reads : {w : List Letter} → Run (started A) 0 w → Reads A w
  unfolding started
  run_reads (ends o) = nothing (starts _ _ (λ p. let k = W.last 0 p in omega arith) o)
  run_reads (goes {q' = q'} {a = b} f h r) = let t = run_trace b h r in along (starts _ _ (λ p. let k = W.from 0 q' p in omega arith) f) t.1 t.2

  trace_run : {p q z : ℕ} {w : List Letter} → On ((started A).follow p q) → Trace A q w z → On (A.last z) → Run (started A) p w
  unfolding started
  trace_run f (at h) l = goes f h (ends (on_left _ _ l))
  trace_run f (on h g t) l = goes f h (trace_run (on_left _ _ g) t l)

  reads_run : {w : List Letter} → Reads A w → Run (started A) 0 w
  unfolding started
  reads_run (nothing o) = ends (on_right _ _ (on_both _ _ (is_on 0) o))
  reads_run (along f t l) = trace_run (on_right _ _ (on_both _ _ (is_on 0) f)) t l

pub words_run : (e : Expr) (w : List Letter) → Words e w ↔ Run (automaton e) 0 w
words_run e w = ((λ d. reads_run (within e 0) (words_reads d 0)), (λ r. reads_words e 0 w (run_reads (within e 0) r)))
