-- What the loops over ties and over passes ask.
--   none           any tie, for `get_or` past the end
--   on_more, on_none
--                  how many passes are left
--   passes_fewer   fewer are left after each
--   passes_again   what the passes that are left make of the state is what all of them make of the first one
-- Assumes nothing.
use mathlib.Core.Path.{◌≡◌, refl, ap, subst}
use Prim.Native.Nat.{ℕ, suc, ◌-◌, ◌<◌, ◌≤◌}
use native.Mathlib.Omega.{arith}
use mathlib.Core.Bool.{Bool, true, false, false≢true}
use mathlib.Core.List.{List}
use lib.IntN.{ℤ, pos}
use Rattle.offsets.specs.Relax.{State, pick, relax_all, left_after, settled}
use Rattle.offsets.specs.declared.Tie.{Tie}

abbrev pub none : Tie
none = record { first = 0; second = 0; least = pos 0; most = pos 0 }

pub on_more : (on : Bool) (k : ℕ) → on ≡ true → k - 1 ≡ left_after on k
on_more true k e = refl
on_more false k e = absurd (false≢true e)

pub on_none : (on : Bool) (k : ℕ) → k ≤ 0 → 0 ≡ left_after on k
on_none true k h = omega (arith, h)
on_none false k h = refl

pub passes_fewer : (on : Bool) (k : ℕ) → left_after on (suc k) < suc k
passes_fewer true k = omega arith
passes_fewer false k = omega arith

pub passes_again : (n : ℕ) (ts : List Tie) (k : ℕ) (ds zs : List ℤ) (c r : Bool)
    → ◌≡◌ {A = State} (zs, r) (relax_all n ts (ds, false)) → settled n (left_after r (suc k)) ts (zs, r) ≡ settled n (suc k) ts (ds, c)
unfolding settled
passes_again n ts k ds zs c r e = subst (λ (s : State). settled n (left_after r (suc k)) ts (zs, r) ≡ pick s.1 (settled n k ts s) s) e (here r)
  where
    here : (u : Bool) → settled n (left_after u (suc k)) ts (zs, u) ≡ pick u (settled n k ts (zs, u)) (zs, u)
    here true = let h : suc k - 1 ≡ k = omega arith in ap (λ (j : ℕ). settled n j ts (zs, true)) h
    here false = refl
