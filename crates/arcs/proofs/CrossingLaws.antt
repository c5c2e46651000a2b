-- Laws of the crossings that are of use.
--   crossings_none  before the first
--   crossings_no, crossings_yes
--                   one more looked at, and left out or taken
--   put_most, crossings_put
--                   the same as the code does it
--   first, crossings_link
--                   both crossings of a link
--   no_use_none, no_use_more
--                   links of no use: none, and one more
--   crossings_pass  they are passed over
-- Assumes nothing.
use mathlib.Core.Path.{◌≡◌, refl, sym, ap, ◌∙◌, subst}
use mathlib.Core.List.{List}
use Prim.Native.Nat.{ℕ, zero, suc, ◌+◌, ◌*◌, ◌/◌, ◌%◌, ◌<◌, ◌≤◌}
use native.Mathlib.Omega.{arith}
use lib.ListN.{length, get_or, set}
use lib.Seq.{get_or-set_same, get_or-set_other}
use Rattle.automaton.proofs.LevelLaws.{Which, less, same, more, which}
use Rattle.arcs.specs.Arcs.{arc_of, crossing_at, Crossings, NoUse, PutIf}
use Rattle.arcs.specs.ArcLaws.{says_forward, says_against}

pub crossings_none : (ws es cs : List ℕ) → Crossings ws es 0 cs 0
crossings_none ws es cs = record { from = λ i h. absurd (omega arith); all = λ j h. absurd (omega arith) }

module _ {ws es : List ℕ} {m : ℕ} {cs : List ℕ} {k : ℕ} (I : Crossings ws es m cs k) where
  crossings_no : get_or es (crossing_at ws m / 1048576) 0 ≡ 0 → Crossings ws es (m + 1) cs k
  crossings_no e = record { from = λ i h. (let g = I.from i h in (g.0, omega arith, g.2)); all = λ j h o. go j h o (which j m) }
    where
      go : (j : ℕ) → j < m + 1 → 0 < get_or es (crossing_at ws j / 1048576) 0 → Which j m → (i : ℕ) × (i < k) × (get_or cs i 0 ≡ crossing_at ws j)
      go j h o (less f) = I.all j f o
      go j h o (same f) = absurd (let z : 0 < get_or es (crossing_at ws m / 1048576) 0 = rw f at o in omega arith)
      go j h o (more f) = absurd (omega arith)

  crossings_yes : k < length cs → Crossings ws es (m + 1) (set cs k (crossing_at ws m)) (k + 1)
  crossings_yes l = record { from = λ i h. fm i h (which i k); all = λ j h o. al j h o (which j m) }
    where
      old : (i : ℕ) → i < k → get_or (set cs k (crossing_at ws m)) i 0 ≡ get_or cs i 0
      old i h = get_or-set_other cs k i (crossing_at ws m) 0 (λ e. omega arith)

      fm : (i : ℕ) → i < k + 1 → Which i k → (j : ℕ) × (j < m + 1) × (get_or (set cs k (crossing_at ws m)) i 0 ≡ crossing_at ws j)
      fm i h (less f) = let g = I.from i f in (g.0, omega arith, old i f ∙ g.2)
      fm i h (same f) = (m, omega arith, rw f (get_or-set_same cs k (crossing_at ws m) 0 l))
      fm i h (more f) = absurd (omega arith)

      al : (j : ℕ) → j < m + 1 → 0 < get_or es (crossing_at ws j / 1048576) 0 → Which j m
          → (i : ℕ) × (i < k + 1) × (get_or (set cs k (crossing_at ws m)) i 0 ≡ crossing_at ws j)
      al j h o (less f) = let g = I.all j f o in (g.0, omega arith, old g.0 g.1 ∙ g.2)
      al j h o (same f) = (k, omega arith, get_or-set_same cs k (crossing_at ws m) 0 l ∙ ap (crossing_at ws) (sym f))
      al j h o (more f) = absurd (omega arith)

pub put_most : {v a : ℕ} {cs : List ℕ} {k : ℕ} {cs' : List ℕ} {k' : ℕ} → PutIf v a cs k cs' k' → k' ≤ k + 1
put_most {v} {k = k} {k' = k'} P = go v refl
  where
    go : (u : ℕ) → v ≡ u → k' ≤ k + 1
    go zero e = let z = (P.left e).1 in omega arith
    go (suc u) e = let z = (P.taken (omega arith)).1 in omega arith

crossings_put : {ws es : List ℕ} {m : ℕ} {cs : List ℕ} {k v a : ℕ} {cs' : List ℕ} {k' : ℕ} → Crossings ws es m cs k → k < length cs
    → v ≡ get_or es (crossing_at ws m / 1048576) 0 → a ≡ crossing_at ws m → PutIf v a cs k cs' k' → Crossings ws es (m + 1) cs' k'
crossings_put {ws} {es} {m} {cs} {k} {v} {a} {cs'} {k'} I l e q P = go v refl
  where
    go : (u : ℕ) → v ≡ u → Crossings ws es (m + 1) cs' k'
    go zero z = let y = P.left z in rw (y.0, y.1) (crossings_no I (sym e ∙ z))
    go (suc u) z = let y = P.taken (omega arith) in rw (y.0, y.1, q) (crossings_yes I l)

-- both crossings of link i
module _ (i : ℕ) {ws es cs : List ℕ} {k : ℕ} (I : Crossings ws es (2 * i) cs k) (l : k < length cs) {cs₁ : List ℕ} {k₁ : ℕ}
    (P : PutIf (get_or es (get_or ws i 0 / 1048576 % 32 * 2) 0) (arc_of (get_or ws i 0) 0) cs k cs₁ k₁) where
  first : Crossings ws es (2 * i + 1) cs₁ k₁
  first =
      let h : 2 * i / 2 ≡ i = omega arith in
      let o : 2 * i % 2 ≡ 0 = omega arith in
      crossings_put I l (rw (h, o, (says_forward (get_or ws i 0)).letter) refl) (rw (h, o) refl) P

  pub crossings_link : k₁ < length cs₁ → {cs₂ : List ℕ} {k₂ : ℕ}
      → PutIf (get_or es (get_or ws i 0 / 1048576 % 32 * 2 + 1) 0) (arc_of (get_or ws i 0) 1) cs₁ k₁ cs₂ k₂ → Crossings ws es (2 * (i + 1)) cs₂ k₂
  crossings_link l₁ {cs₂} {k₂} Q =
      let h : (2 * i + 1) / 2 ≡ i = omega arith in
      let o : (2 * i + 1) % 2 ≡ 1 = omega arith in
      let n : 2 * i + 1 + 1 ≡ 2 * (i + 1) = omega arith in
      subst (λ (m : ℕ). Crossings ws es m cs₂ k₂) n (crossings_put first l₁ (rw (h, o, (says_against (get_or ws i 0)).letter) refl) (rw (h, o) refl) Q)

-- links of no use passed over
pub no_use_none : (ws es : List ℕ) (a : ℕ) → NoUse ws es a a
no_use_none ws es a = record { forward = λ i g h. absurd (omega arith); against = λ i g h. absurd (omega arith) }

pub no_use_more : {ws es : List ℕ} {a i : ℕ} → NoUse ws es a i → get_or es (get_or ws i 0 / 1048576 % 32 * 2) 0 ≡ 0
    → get_or es (get_or ws i 0 / 1048576 % 32 * 2 + 1) 0 ≡ 0 → NoUse ws es a (i + 1)
no_use_more {ws} {es} {a} {i} N e f = record { forward = λ j g h. fd j g h (which j i); against = λ j g h. ag j g h (which j i) }
  where
    fd : (j : ℕ) → a ≤ j → j < i + 1 → Which j i → get_or es (get_or ws j 0 / 1048576 % 32 * 2) 0 ≡ 0
    fd j g h (less z) = N.forward j g z
    fd j g h (same z) = rw z e
    fd j g h (more z) = absurd (omega arith)

    ag : (j : ℕ) → a ≤ j → j < i + 1 → Which j i → get_or es (get_or ws j 0 / 1048576 % 32 * 2 + 1) 0 ≡ 0
    ag j g h (less z) = N.against j g z
    ag j g h (same z) = rw z f
    ag j g h (more z) = absurd (omega arith)

pub crossings_pass : {ws es cs : List ℕ} {a b k : ℕ} → Crossings ws es (2 * a) cs k → a ≤ b → NoUse ws es a b → Crossings ws es (2 * b) cs k
crossings_pass {ws} {es} {cs} {a} {b} {k} I l N =
    record { from = λ i h. (let g = I.from i h in (g.0, omega arith, g.2)); all = λ j h o. go j h o (which j (2 * a)) }
  where
    -- a crossing of such a link
    unused : (j : ℕ) → a ≤ j / 2 → j / 2 < b → (s : ℕ) → j % 2 ≡ s → s < 2 → get_or es (crossing_at ws j / 1048576) 0 ≡ 0
    unused j g h zero e z = rw (e, (says_forward (get_or ws (j / 2) 0)).letter) (N.forward (j / 2) g h)
    unused j g h (suc zero) e z = rw (e, (says_against (get_or ws (j / 2) 0)).letter) (N.against (j / 2) g h)
    unused j g h (suc (suc s)) e z = absurd (omega arith)

    here : (j : ℕ) → 2 * a ≤ j → j < 2 * b → 0 < get_or es (crossing_at ws j / 1048576) 0 → (i : ℕ) × (i < k) × (get_or cs i 0 ≡ crossing_at ws j)
    here j g h o = absurd (let z = unused j (omega arith) (omega arith) (j % 2) refl (omega arith) in omega arith)

    go : (j : ℕ) → j < 2 * b → 0 < get_or es (crossing_at ws j / 1048576) 0 → Which j (2 * a) → (i : ℕ) × (i < k) × (get_or cs i 0 ≡ crossing_at ws j)
    go j h o (less f) = I.all j f o
    go j h o (same f) = here j (omega arith) h o
    go j h o (more f) = here j (omega arith) h o
