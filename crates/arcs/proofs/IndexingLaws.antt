-- Laws of the index of the arcs as it is made: the records by which it is made, and one arc more. Assumes nothing.
use mathlib.Core.Path.{◌≡◌, refl, sym, ap, ◌∙◌, subst, fun_ext}
use mathlib.Core.List.{List}
use Prim.Native.Nat.{ℕ, ◌+◌, ◌-◌, ◌/◌, ◌%◌, ◌<◌}
use native.Mathlib.Omega.{arith}
use native.Mathlib.Decide.{ℕ_discrete}
use lib.ListN.{length, get_or, set, length-set}
use lib.Seq.{get_or-set_same, get_or-set_other}
use Rattle.automaton.proofs.LevelLaws.{Which, less, same, more, which}
use Rattle.arcs.specs.Arcs.{arc_from, arc_to}
use Rattle.arcs.specs.Index.{key_at, first_arc, next_arc, Cursor, Indexed}

-- ---- the record of an arc
pub key_lt : (cs : List ℕ) (b j : ℕ) → key_at cs b j < 1024
unfolding key_at
key_lt cs b j = omega arith

pub key_to : (cs : List ℕ) → key_at cs 0 ≡ arc_to cs
unfolding key_at arc_to
key_to cs = fun_ext (λ j. (let z : get_or cs j 0 / 1 % 1024 ≡ get_or cs j 0 % 1024 = omega arith in z))

pub key_from : (cs : List ℕ) → key_at cs 10 ≡ arc_from cs
unfolding key_at arc_from
key_from cs = fun_ext (λ j. (let z : get_or cs j 0 / 1024 % 1024 ≡ get_or cs j 0 / 1024 % 1024 = refl in z))

-- ---- the index of no arc, and one arc more
pub indexed_none : (key : ℕ → ℕ) (ix : List ℕ) → ((r : ℕ) → get_or ix r 0 ≡ 0) → Indexed key 0 ix
unfolding first_arc
indexed_none key ix zeros = record {
  first_at = λ r h. (let z = zeros r in (omega arith, λ o. absurd (omega arith)));
  first_all = λ j h. absurd (omega arith);
  next_at = λ j h. absurd (omega arith);
  next_all = λ i j l h. absurd (omega arith);
}

module _ {key : ℕ → ℕ} {k : ℕ} {ix : List ℕ} (I : Indexed key k ix) (small : (j : ℕ) → key j < 1024) (long : 1024 + k < length ix) where
  -- the record's first arc is now after arc k, and arc k is its first
  abbrev ix₁ : List ℕ
  ix₁ = set ix (1024 + k) (get_or ix (key k) 0)

  abbrev ix₂ : List ℕ
  ix₂ = set ix₁ (key k) (k + 1)

  first_here : first_arc ix₂ (key k) ≡ k + 1
  unfolding first_arc
  first_here = get_or-set_same ix₁ (key k) (k + 1) 0 (let z = small k in let e : length ix₁ ≡ length ix = simp length-set in omega arith)

  first_off : (r : ℕ) → r < 1024 → (r ≡ key k → ⊥) → first_arc ix₂ r ≡ first_arc ix r
  unfolding first_arc
  first_off r h n = get_or-set_other ix₁ (key k) r (k + 1) 0 n ∙ get_or-set_other ix (1024 + k) r (get_or ix (key k) 0) 0 (λ e. omega arith)

  next_here : next_arc ix₂ k ≡ first_arc ix (key k)
  unfolding first_arc next_arc
  next_here =
      get_or-set_other ix₁ (key k) (1024 + k) (k + 1) 0 (λ e. (let z = small k in omega arith)) ∙
      get_or-set_same ix (1024 + k) (get_or ix (key k) 0) 0 (omega arith)

  next_off : (j : ℕ) → (j ≡ k → ⊥) → next_arc ix₂ j ≡ next_arc ix j
  unfolding next_arc
  next_off j n =
      get_or-set_other ix₁ (key k) (1024 + j) (k + 1) 0 (λ e. (let z = small k in omega arith))
      ∙ get_or-set_other ix (1024 + k) (1024 + j) (get_or ix (key k) 0) 0 (λ e. n (omega arith))

  pub indexed_more : Indexed key (k + 1) ix₂
  indexed_more =
      record {
        first_at = λ r h. fa r h (ℕ_discrete r (key k));
        first_all = λ j h. fl j h (which j k) (ℕ_discrete (key j) (key k));
        next_at = λ j h. na j h (which j k);
        next_all = λ i j l h e. nl i j l h e (which j k);
      }
    where
      back : k + 1 - 1 ≡ k
      back = omega arith

      fa : (r : ℕ) → r < 1024 → Dec (r ≡ key k) → Cursor key (k + 1) r (first_arc ix₂ r)
      fa r h (yes e) = subst (λ (a : ℕ). Cursor key (k + 1) a (first_arc ix₂ a)) (sym e) (rw first_here (omega arith, λ o. ap key back))
      fa r h (no e) = let z = I.first_at r h in rw (first_off r h e) (omega (arith, z.0), z.1)

      fl : (j : ℕ) → j < k + 1 → Which j k → Dec (key j ≡ key k) → j < first_arc ix₂ (key j)
      fl j h w (yes e) = rw (e, first_here) h
      fl j h (less f) (no e) = rw (first_off (key j) (small j) e) (I.first_all j f)
      fl j h (same f) (no e) = absurd (e (ap key f))
      fl j h (more f) (no e) = absurd (omega arith)

      na : (j : ℕ) → j < k + 1 → Which j k → Cursor key j (key j) (next_arc ix₂ j)
      na j h (less f) = rw (next_off j (λ e. omega arith)) (I.next_at j f)
      na j h (same f) = subst (λ (a : ℕ). Cursor key a (key a) (next_arc ix₂ a)) (sym f) (rw next_here (I.first_at (key k) (small k)))
      na j h (more f) = absurd (omega arith)

      nl : (i j : ℕ) → i < j → j < k + 1 → key i ≡ key j → Which j k → i < next_arc ix₂ j
      nl i j l h e (less f) = rw (next_off j (λ e. omega arith)) (I.next_all i j l f e)
      nl i j l h e (same f) = subst (λ (a : ℕ). i < next_arc ix₂ a) (sym f) (rw next_here (rw (e ∙ ap key f) at (I.first_all i (omega arith))))
      nl i j l h e (more f) = absurd (omega arith)
