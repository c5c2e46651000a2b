-- Laws of traces: how they are mapped, joined and reversed, and where the positions of an expression's fragment lie.
--   trace_map      a trace of a fragment is one of any whose letters and follows have all of its own
--   trace_join     two traces as one, where a position of the second follows the end of the first
--   trace_reversed, trace_forth
--                  gone backwards, a trace is one of the reversed fragment; and from there back
--   within_either, within_followed, within_repeated, within_optional, within_reversed, within_single
--                  the positions of what is made of fragments lie where theirs do
--   within         the fragment of an expression has its positions from o on, as many as there are letters
-- Assumes nothing.
use Rattle.std.specs.Prelude.{◌≡◌, ◌⊎◌, List, ◌++◌, Bool, ℕ, suc, ◌+◌, ◌≤◌, max, min}
use Rattle.std.proofs.Common.{sym, subst, inl, inr}
use native.Mathlib.Omega.{arith}
use Rattle.book.specs.Basics.{bit}
use Rattle.paths.specs.Expressions.{Letter, stands_for, Expr, symbol, group, inverse, star, plus, optional as optional-part, alternative, sequence, letters}
use Rattle.paths.specs.Words.{inverse_letter, backwards}
use Rattle.paths.proofs.ChainLaws.{inverse_inverse}
use Rattle.automaton.specs.Automata.{On, is, Fragment, single, reversed, repeated, optional, either, followed, fragment}
use Rattle.automaton.proofs.SetLaws.{on_max, on_min, on_is}
use Rattle.automaton.specs.Traces.{Trace, at, on, Between, Within}

-- ---- traces
module _ {A B : Fragment} (e : (q : ℕ) (a : Letter) → On (A.enters q a) → On (B.enters q a)) (f : (p q : ℕ) → On (A.follow p q) → On (B.follow p q)) where
  pub trace_map : {q r : ℕ} {w : List Letter} → Trace A q w r → Trace B q w r
  trace_map (at h) = at (e _ _ h)
  trace_map (on h g t) = on (e _ _ h) (f _ _ g) (trace_map t)

pub trace_join : {A : Fragment} {q p p' r : ℕ} {v w : List Letter} → Trace A q v p → On (A.follow p p') → Trace A p' w r → Trace A q (v ++ w) r
trace_join (at h) g t = on h g t
trace_join (on h f s) g t = on h f (trace_join s g t)

pub trace_reversed : {A : Fragment} {q r : ℕ} {w : List Letter} → Trace A q w r → Trace (reversed A) r (backwards w) q
unfolding backwards reversed
trace_reversed {A} (at {q} {a} h) = at (subst (λ (b : Letter). On (A.enters q b)) (sym (inverse_inverse a)) h)
trace_reversed {A} (on {q = q} {a = a} h g t) = trace_join (trace_reversed t) g (at (subst (λ (b : Letter). On (A.enters q b)) (sym (inverse_inverse a)) h))

pub trace_forth : {A : Fragment} {q r : ℕ} {w : List Letter} → Trace (reversed A) q w r → Trace A r (backwards w) q
unfolding backwards reversed
trace_forth (at h) = at h
trace_forth (on h g t) = trace_join (trace_forth t) g (at h)

-- ---- where the positions lie
-- in one of two that lie one after the other
in_or : (lo mid hi q a b : ℕ) → lo ≤ mid → mid ≤ hi → (On a → Between lo mid q) → (On b → Between mid hi q) → On (max a b) → Between lo hi q
in_or lo mid hi q a b l h f g o = go (on_max a b o)
  where
    go : On a ⊎ On b → Between lo hi q
    go (inl p) = let k = f p in (omega arith, omega arith)
    go (inr p) = let k = g p in (omega arith, omega arith)

or_in : (lo mid hi q a b : ℕ) → lo ≤ mid → mid ≤ hi → (On a → Between mid hi q) → (On b → Between lo mid q) → On (max a b) → Between lo hi q
or_in lo mid hi q a b l h f g o = in_or lo mid hi q b a l h g f (omega arith)

module _ {A B : Fragment} (lo mid hi : ℕ) (l : lo ≤ mid) (h : mid ≤ hi) (U : Within lo mid A) (W : Within mid hi B) where
  pub within_either : Within lo hi (either A B)
  unfolding either
  within_either = record {
    first = λ q. in_or lo mid hi q _ _ l h (U.first q) (W.first q);
    last = λ q. in_or lo mid hi q _ _ l h (U.last q) (W.last q);
    from = λ p q. in_or lo mid hi p _ _ l h (U.from p q) (W.from p q);
    to = λ p q. in_or lo mid hi q _ _ l h (U.to p q) (W.to p q);
    enters = λ q a. in_or lo mid hi q _ _ l h (U.enters q a) (W.enters q a);
  }

  pub within_followed : Within lo hi (followed A B)
  unfolding followed
  within_followed = record {
    first = λ q. in_or lo mid hi q _ _ l h (U.first q) (λ o. W.first q (on_min A.nullable (B.first q) o).1);
    last = λ q. or_in lo mid hi q _ _ l h (W.last q) (λ o. U.last q (on_min _ (A.last q) o).1);
    from = λ p q o. go_from p q (on_max _ _ o);
    to = λ p q o. go_to p q (on_max _ _ o);
    enters = λ q a. in_or lo mid hi q _ _ l h (U.enters q a) (W.enters q a);
  }
    where
      go_from : (p q : ℕ) → On (max (A.follow p q) (B.follow p q)) ⊎ On (min (A.last p) (B.first q)) → Between lo hi p
      go_from p q (inl o) = in_or lo mid hi p _ _ l h (U.from p q) (W.from p q) o
      go_from p q (inr o) = let k = U.last p (on_min (A.last p) (B.first q) o).0 in (omega arith, omega arith)

      go_to : (p q : ℕ) → On (max (A.follow p q) (B.follow p q)) ⊎ On (min (A.last p) (B.first q)) → Between lo hi q
      go_to p q (inl o) = in_or lo mid hi q _ _ l h (U.to p q) (W.to p q) o
      go_to p q (inr o) = let k = W.first q (on_min (A.last p) (B.first q) o).1 in (omega arith, omega arith)

pub within_repeated : {A : Fragment} {lo hi : ℕ} → Within lo hi A → Within lo hi (repeated A)
unfolding repeated
within_repeated {A} {lo} {hi} W = record {
  first = W.first;
  last = W.last;
  from = λ p q o. go_from p q (on_max _ _ o);
  to = λ p q o. go_to p q (on_max _ _ o);
  enters = W.enters;
}
  where
    go_from : (p q : ℕ) → On (A.follow p q) ⊎ On (min (A.last p) (A.first q)) → Between lo hi p
    go_from p q (inl o) = W.from p q o
    go_from p q (inr o) = W.last p (on_min (A.last p) (A.first q) o).0

    go_to : (p q : ℕ) → On (A.follow p q) ⊎ On (min (A.last p) (A.first q)) → Between lo hi q
    go_to p q (inl o) = W.to p q o
    go_to p q (inr o) = W.first q (on_min (A.last p) (A.first q) o).1

pub within_optional : {A : Fragment} {lo hi : ℕ} → Within lo hi A → Within lo hi (optional A)
unfolding optional
within_optional W = record { first = W.first; last = W.last; from = W.from; to = W.to; enters = W.enters }

pub within_reversed : {A : Fragment} {lo hi : ℕ} → Within lo hi A → Within lo hi (reversed A)
unfolding reversed
within_reversed W =
    record { first = W.last; last = W.first; from = λ p q o. W.to q p o; to = λ p q o. W.from q p o; enters = λ q a o. W.enters q (inverse_letter a) o }

pub within_single : (o : ℕ) (f : Letter → Bool) → Within o (o + 1) (single (suc o) f)
unfolding single
within_single o f = record {
  first = λ q h. let e = on_is (suc o) q h in (omega arith, omega arith);
  last = λ q h. let e = on_is (suc o) q h in (omega arith, omega arith);
  from = λ p q h. absurd (omega arith);
  to = λ p q h. absurd (omega arith);
  enters = λ q a h. let e = on_is (suc o) q (on_min (is (suc o) q) (bit (f a)) h).0 in (omega arith, omega arith);
}

pub within : (e : Expr) (o : ℕ) → Within o (o + letters e) (fragment e o)
unfolding fragment letters
within (symbol s) o = within_single o (stands_for s)
within (group e) o = within e o
within (inverse e) o = within_reversed (within e o)
within (star e) o = within_optional (within_repeated (within e o))
within (plus e) o = within_repeated (within e o)
within (optional-part e) o = within_optional (within e o)
within (alternative e f) o =
    within_either o (o + letters e) (o + (letters e + letters f)) (omega arith) (omega arith) (within e o)
    (rw (let z : o + (letters e + letters f) ≡ o + letters e + letters f = omega arith in z) (within f (o + letters e)))
within (sequence e f) o =
    within_followed o (o + letters e) (o + (letters e + letters f)) (omega arith) (omega arith) (within e o)
    (rw (let z : o + (letters e + letters f) ≡ o + letters e + letters f = omega arith in z) (within f (o + letters e)))
