-- Passes touch the front of a list alone: what stands past the places that arcs name stays as it is, and changes nothing before it.
--   beside y s     a state with the list y put after its distances
--   Inside m cs    every arc of cs joins places below m
--   passes_front   passes over x ++ y are passes over x, with y put after
--   ran_front      so with the passes over ties, if x has the three parts
-- Assumes nothing.
use Rattle.std.specs.Prelude.{◌≡◌, refl, List, [], ◌∷◌, ◌++◌, Bool, true, false, ℕ, zero, suc, ◌*◌, ◌<◌, ℤ, pos, ◌+ℤ◌, length, set}
use Rattle.std.proofs.Common.{sym, ap, ◌∙◌, subst, arith, length-append}
use Rattle.std.proofs.Math.ListN.{get_or-append}
use Rattle.std.proofs.lemmas.List.{set-append_left}
use Rattle.std.specs.Int.Signed.{lt_z}
use borrow.Author.Tests.{lt-ltb}
use Rattle.book.specs.Basics.{In, here, there}
use Rattle.offsets.specs.declared.Tie.{Tie}
use Rattle.offsets.specs.Relax.{State, pick, known, dist, lower}
use Rattle.offsets.proofs.ArcLaws.{Arc, arc, run, arcs3, of_thirds, arc_length, run_length}
use Rattle.offsets.specs.TurnedTies.{turned}
use Rattle.offsets.proofs.SettleLaws.{passes}
use Rattle.offsets.proofs.PassLaws.{settled_is}
use Rattle.offsets.proofs.ThirdLaws.{Ready, ready_inside}
use Rattle.offsets.proofs.TurnedTieLaws.{turned_ready}
use Rattle.offsets.specs.Finds.{ran}

abbrev pub beside : List ℤ → State → State
beside y s = (s.0 ++ y, s.1)

abbrev pub Inside : ℕ → List Arc → Type 0
Inside m cs = (a : Arc) → In a cs → (a.from < m) × (a.to < m)

-- ---- one arc
module _ (a : Arc) (x y : List ℤ) (c : Bool) (f : a.from < length x) (t : a.to < length x) where
  abbrev v : ℤ
  v = dist x a.from +ℤ a.rise

  longer : (i : ℕ) → i < length x → i < length (x ++ y)
  longer i h = let e = length-append x y in omega (arith, h, e)

  long_is : arc a (x ++ y, c) ≡ pick (known (dist x a.from)) (pick (lt_z v (dist x a.to)) (set (x ++ y) a.to v, true) (x ++ y, c)) (x ++ y, c)
  unfolding lower
  long_is =
      rw (
        lt-ltb a.from (length (x ++ y)) (longer a.from f),
        lt-ltb a.to (length (x ++ y)) (longer a.to t),
        get_or-append x y (pos 0) a.from f,
        get_or-append x y (pos 0) a.to t,
      )

  short_is : arc a (x, c) ≡ pick (known (dist x a.from)) (pick (lt_z v (dist x a.to)) (set x a.to v, true) (x, c)) (x, c)
  unfolding lower
  short_is = rw (lt-ltb a.from (length x) f, lt-ltb a.to (length x) t)

  both : (k b : Bool) → pick k (pick b (set (x ++ y) a.to v, true) (x ++ y, c)) (x ++ y, c)
      ≡ beside y (pick k (pick b (set x a.to v, true) (x, c)) (x, c))
  both true true = ap (λ (l : List ℤ). (l, true)) (set-append_left x y a.to v t)
  both true false = refl
  both false b = refl

  pub arc_front : arc a (x ++ y, c) ≡ beside y (arc a (x, c))
  arc_front = long_is ∙ both (known (dist x a.from)) (lt_z v (dist x a.to)) ∙ sym (ap (beside y) short_is)

-- ---- a pass, and passes
pub run_front : (cs : List Arc) (x y : List ℤ) (c : Bool) → Inside (length x) cs → run cs (x ++ y, c) ≡ beside y (run cs (x, c))
run_front [] x y c h = refl
run_front (a ∷ cs) x y c h =
    let g = h a here in
    ap (run cs) (arc_front a x y c g.0 g.1)
    ∙ run_front cs (arc a (x, c)).0 y (arc a (x, c)).1 (subst (λ (m : ℕ). Inside m cs) (sym (arc_length a (x, c))) (λ b i. h b (there i)))

pick_front : (y : List ℤ) (b : Bool) (s r : State) → (b ≡ true → s ≡ beside y r) → (z : State) → pick b s (beside y z) ≡ beside y (pick b r z)
pick_front y true s r f z = f refl
pick_front y false s r f z = refl

pub passes_front : (k : ℕ) (cs : List Arc) (x y : List ℤ) (c : Bool) → Inside (length x) cs → passes k cs (x ++ y, c) ≡ beside y (passes k cs (x, c))
passes_front zero cs x y c h = refl
passes_front (suc k) cs x y c h =
    let e = run_front cs x y false h in
    ap (λ (s : State). pick s.1 (passes k cs s) s) e
    ∙ pick_front y (run cs (x, false)).1 (passes k cs (beside y (run cs (x, false)))) (passes k cs (run cs (x, false)))
    (λ _. passes_front k cs (run cs (x, false)).0 y (run cs (x, false)).1 (subst (λ (m : ℕ). Inside m cs) (sym (run_length cs (x, false))) h))
    (run cs (x, false))

-- ---- ties
inside3 : (n : ℕ) (ts : List Tie) → Ready n ts → Inside (n * 3) (arcs3 n ts)
inside3 n ts ready = of_thirds n (λ a. (a.from < n * 3) × (a.to < n * 3)) ts
    (λ b i. let g = ready_inside n ts ready b i in let f = g.0 in let t = g.1 in (omega (arith, f), omega (arith, t)))
    (λ b i. let g = ready_inside n ts ready b i in let f = g.0 in let t = g.1 in (omega (arith, f), omega (arith, t)))
    (λ b i. let g = ready_inside n (turned ts) (turned_ready n ts ready) b i in let f = g.0 in let t = g.1 in (omega (arith, f), omega (arith, t)))

pub ran_front : (n : ℕ) (ts : List Tie) → Ready n ts → (x y : List ℤ) → length x ≡ n * 3 → ran n ts (x ++ y) ≡ beside y (ran n ts x)
unfolding ran
ran_front n ts ready x y e =
    settled_is n (suc n) ts (x ++ y, false)
    ∙ passes_front (suc n) (arcs3 n ts) x y false (subst (λ (m : ℕ). Inside m (arcs3 n ts)) (sym e) (inside3 n ts ready))
    ∙ sym (ap (beside y) (settled_is n (suc n) ts (x, false)))
