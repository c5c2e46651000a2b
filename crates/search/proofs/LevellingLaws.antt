-- Laws of a level made arc by arc: no arc passed yet, the arcs into one record from its first on, the next record, all.
--   levelling_none   no arc passed yet
--   levelling_first  the arcs into one record, from its first on
--   levelling_done   none left: the next record
--   levelling_all    all records of the level: the next level is made
--   levelling_more   one arc more
-- Assumes nothing.
use mathlib.Core.Path.{◌≡◌, sym, ap, ◌∙◌}
use mathlib.Core.Logic.{◌⊎◌, inl, inr}
use mathlib.Core.List.{List}
use Prim.Native.Nat.{ℕ, ◌+◌, ◌-◌, ◌^◌, ◌≤◌, ◌<◌, min}
use native.Mathlib.Omega.{arith}
use native.Mathlib.Decide.{ℕ_discrete, dec_lt}
use lib.Bits.{bit_and}
use lib.ListN.{get_or}
use Rattle.k2.specs.Bits.{digit}
use Rattle.k2.specs.DigitLaws.{digit_lt, digit_none, digit_and, digit_not}
use Rattle.automaton.specs.Automata.{On}
use Rattle.automaton.proofs.SetLaws.{on_max, on_min}
use Rattle.automaton.proofs.LevelLaws.{Which, less, same, more, which}
use Rattle.automaton.proofs.LowestLaws.{none_on, some_on}
use Rattle.arcs.specs.Arcs.{arc_from, arc_to, arc_letter}
use Rattle.arcs.specs.Index.{first_arc, next_arc, Cursor, Indexed}
use Rattle.arcs.specs.IndexLaws.{before_first, only_arc}
use Rattle.search.specs.Levels.{Spread, Levelled, LevelledOver}
use Rattle.search.specs.Frontiers.{Passed, before, here, Levelling, Added, Frontier, Zero}

pub levelling_none : (cs ps es cur seen : List ℕ) (n k : ℕ) (records nx : List ℕ) → Zero nx → Levelling cs ps es cur seen n k records 0 k nx
levelling_none cs ps es cur seen n k records nx z =
    record { fresh = λ r q h o. absurd (none_on q (rw (z r) at o)); from = λ r q h o. absurd (none_on q (rw (z r) at o)); all = λ q j t h P. absurd (no j P) }
  where
    no : (j : ℕ) → Passed cs records k 0 k j → ⊥
    no j (before h l e g) = omega arith
    no j (here e l g) = omega arith

-- the same words over other arcs
over_as : {P Q : ℕ → Type 0} {cs ps es cur seen : List ℕ} {n k : ℕ} {nx : List ℕ} → ((j : ℕ) → Q j → P j)
    → LevelledOver P cs ps es cur seen n k nx → LevelledOver Q cs ps es cur seen n k nx
over_as f I = record { fresh = I.fresh; from = I.from; all = λ q j t h o. I.all q j t h (f j o) }

module _ {cs ps es cur seen : List ℕ} {n k : ℕ} {records : List ℕ} {i r : ℕ} {nx : List ℕ} (at : r ≡ get_or records i 0) where
  pub levelling_first : {ix : List ℕ} → Indexed (arc_to cs) k ix → Levelling cs ps es cur seen n k records i k nx
      → Levelling cs ps es cur seen n k records i (first_arc ix r) nx
  levelling_first {ix} X = over_as go
    where
      go : (j : ℕ) → Passed cs records k i (first_arc ix r) j → Passed cs records k i k j
      go j (before h l e g) = before h l e g
      go j (here e l g) = here e (before_first X j g (e ∙ sym at) l) g

pub levelling_done : {cs ps es cur seen : List ℕ} {n k : ℕ} {records : List ℕ} {i : ℕ} {nx : List ℕ}
    → Levelling cs ps es cur seen n k records i 0 nx → Levelling cs ps es cur seen n k records (i + 1) k nx
levelling_done {cs} {k = k} {records = records} {i = i} = over_as go
  where
    last : (j h : ℕ) → h < i + 1 → get_or records h 0 ≡ arc_to cs j → j < k → Which h i → Passed cs records k i 0 j
    last j h l e g (less f) = before h f e g
    last j h l e g (same f) = here (sym e ∙ ap (λ (t : ℕ). get_or records t 0) f) (omega arith) g
    last j h l e g (more f) = absurd (omega arith)

    go : (j : ℕ) → Passed cs records k (i + 1) k j → Passed cs records k i 0 j
    go j (before h l e g) = last j h l e g (which h i)
    go j (here e l g) = absurd (omega arith)

pub levelling_all : {cs ps es cur seen : List ℕ} {n k : ℕ} {records masks : List ℕ} {c : ℕ} {nx : List ℕ}
    → Levelling cs ps es cur seen n k records c k nx → Frontier records masks c cur → Levelled cs ps es cur seen n k nx
levelling_all {cs} {cur = cur} I F =
    record {
      fresh = I.fresh;
      from = I.from;
      all = λ q j t h g b oc. (let z = F.all (arc_to cs j) (some_on (get_or cur (arc_to cs j) 0) t oc) in I.all q j t h (before z.0 z.1 z.2 g) b oc);
    }

module _ {cs ps es cur seen : List ℕ} {n k : ℕ} {records : List ℕ} {i r p : ℕ} {nx ix : List ℕ}
    (at : r ≡ get_or records i 0) (X : Indexed (arc_to cs) k ix) (T : Cursor (arc_to cs) k r p) (hp : 0 < p)
    (I : Levelling cs ps es cur seen n k records i p nx) (mask v : ℕ) (mask_at : mask ≡ get_or cur r 0)
    (S : Spread ps (bit_and mask (get_or es (arc_letter cs (p - 1)) 0)) 0 v)
    (fs : get_or seen (arc_from cs (p - 1)) 0 < 2 ^ 64) {nx' : List ℕ}
    (A : Added nx n (arc_from cs (p - 1)) (bit_and v ((2 ^ 64 - 1) - get_or seen (arc_from cs (p - 1)) 0)) nx') where
  abbrev m₀ : ℕ
  m₀ = p - 1

  abbrev a₀ : ℕ
  a₀ = arc_from cs (p - 1)

  m_lt : m₀ < k
  m_lt = let z = T.0 in omega arith

  mask_to : mask ≡ get_or cur (arc_to cs m₀) 0
  mask_to = mask_at ∙ ap (λ (t : ℕ). get_or cur t 0) (sym (T.1 hp))

  new_bit : (q : ℕ) → q < 64 → digit (bit_and v ((2 ^ 64 - 1) - get_or seen a₀ 0)) q ≡ min (digit v q) (1 - digit (get_or seen a₀ 0) q)
  new_bit q h = rw (digit_and, digit_not 64 q (get_or seen a₀ 0) fs h)

  -- in the word before, or new at the arc's beginning
  abbrev New : ℕ → ℕ → Type 0
  New r q = (r ≡ a₀) × On (digit v q) × (digit (get_or seen a₀ 0) q ≡ 0)

  split : (r q : ℕ) → q < 64 → On (digit (get_or nx' r 0) q) → On (digit (get_or nx r 0) q) ⊎ New r q
  split r q h o = go (ℕ_discrete r a₀) (dec_lt a₀ n)
    where
      new : r ≡ a₀ → On (digit (get_or nx a₀ 0) q) ⊎ On (min (digit v q) (1 - digit (get_or seen a₀ 0) q)) → On (digit (get_or nx r 0) q) ⊎ New r q
      new f (inl o) = inl (rw f o)
      new f (inr o) = inr (f, omega arith, omega (arith, digit_lt (get_or seen a₀ 0) q))

      go : Dec (r ≡ a₀) → Dec (a₀ < n) → On (digit (get_or nx r 0) q) ⊎ New r q
      go (no e) w = inl (rw (A.other r q e) at o)
      go (yes f) (yes l) = new f (on_max _ _ (rw (A.added q l, new_bit q h) at (rw f at o)))
      go (yes f) (no l) = inl (rw f (rw (A.past q (omega arith)) at (rw f at o)))

  stays : (r q : ℕ) → On (digit (get_or nx r 0) q) → On (digit (get_or nx' r 0) q)
  stays r q o = go (ℕ_discrete r a₀) (dec_lt a₀ n)
    where
      go : Dec (r ≡ a₀) → Dec (a₀ < n) → On (digit (get_or nx' r 0) q)
      go (no e) w = rw (A.other r q e) o
      go (yes f) (yes l) = let z : On (digit (get_or nx a₀ 0) q) = rw f at o in let e = A.added q l in rw f (omega arith)
      go (yes f) (no l) = rw f (rw (A.past q (omega arith)) (rw f at o))

  pub levelling_more : Levelling cs ps es cur seen n k records i (next_arc ix (p - 1)) nx'
  levelling_more = record { fresh = λ r q h o. fr r q h (split r q h o); from = λ r q h o. fm r q h (split r q h o); all = al }
    where
      fr : (r q : ℕ) → q < 64 → On (digit (get_or nx r 0) q) ⊎ New r q → digit (get_or seen r 0) q ≡ 0
      fr r q h (inl o) = I.fresh r q h o
      fr r q h (inr o) = rw o.0 o.2

      fm : (r q : ℕ) → q < 64 → On (digit (get_or nx r 0) q) ⊎ New r q → (j t : ℕ) × (j < k) × (t < 64) × (arc_from cs j ≡ r)
          × On (digit (get_or cur (arc_to cs j) 0) t) × On (digit (get_or es (arc_letter cs j) 0) t) × On (digit (get_or ps t 0) q)
      fm r q h (inl o) = I.from r q h o
      fm r q h (inr o) =
          let g = S.from q o.1 in
          let b = on_min _ _ (rw digit_and at g.2) in
          (m₀, g.0, m_lt, g.1, sym o.0, rw mask_to at b.0, b.1, g.3)

      al : (q j t : ℕ) → q < 64 → Passed cs records k i (next_arc ix (p - 1)) j → arc_from cs j < n → On (digit (get_or cur (arc_to cs j) 0) t)
          → On (digit (get_or es (arc_letter cs j) 0) t) → On (digit (get_or ps t 0) q)
          → digit (get_or seen (arc_from cs j) 0) q ≡ 0 → On (digit (get_or nx' (arc_from cs j) 0) q)
      al q j t h P b oc oe op os = go P
        where
          old : Passed cs records k i p j → On (digit (get_or nx' (arc_from cs j) 0) q)
          old P = stays (arc_from cs j) q (I.all q j t h P b oc oe op os)

          -- the arc itself, or one that was passed
          one : (j ≡ m₀) ⊎ (p ≤ j) → arc_to cs j ≡ get_or records i 0 → j < k → On (digit (get_or nx' (arc_from cs j) 0) q)
          one (inr l) e g = old (here e l g)
          one (inl f) e g =
              let x : On (digit mask t) = rw mask_to (rw f at oc) in
              let y : On (digit (get_or es (arc_letter cs m₀) 0) t) = rw f at oe in
              let o : On (digit v q) = S.all q t (rw digit_and (omega arith)) (digit_none t) op in
              let z : digit (get_or seen a₀ 0) q ≡ 0 = rw f at os in
              let l : a₀ < n = rw f at b in
              let u = A.added q l in
              let w = new_bit q h in
              rw f (omega arith)

          go : Passed cs records k i (next_arc ix (p - 1)) j → On (digit (get_or nx' (arc_from cs j) 0) q)
          go (before a l e g) = old (before a l e g)
          go (here e l g) = one (only_arc X T hp j g (e ∙ sym at) l) e g
