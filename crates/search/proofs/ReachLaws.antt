-- Laws of the search forward: states added, arcs gone along, a record taken off the list, and what is seen in the end.
--   added_split, added_stays, added_new
--                    states added at a record: none but these, no other lost, all of them
--   expanding_first, expanding_done
--                    the arcs out of one record, from its first on; none left
--   expanding_more, fewer_more
--                    one arc more; and no more is to be done then
--   ones_but         how many bits are set, but for one
--   listed_less, expanding_pop, fewer_pop
--                    the record last queued is taken off: the list, what is known, and that less is to be done
--   expanding_start  at the start
--   expanding_all    at the end
--   came_walk, walk_in, ended
--                    what is come to begins a chain, a chain leads to what is seen, and so the records seen in a final state are the ends
-- Assumes nothing.
use mathlib.Core.Path.{◌≡◌, sym, ap, ◌∙◌, subst}
use mathlib.Core.Logic.{◌⊎◌, inl, inr}
use mathlib.Core.List.{List, [], ◌∷◌}
use mathlib.Core.Bool.{true}
use Prim.Native.Nat.{ℕ, zero, suc, ◌+◌, ◌-◌, ◌*◌, ◌/◌, ◌%◌, ◌^◌, ◌≤◌, ◌<◌, min, max}
use native.Mathlib.Omega.{arith}
use native.Mathlib.Decide.{ℕ_discrete, dec_lt}
use lib.Bits.{bit_and}
use lib.ListN.{length, get_or, set}
use lib.Seq.{get_or-set_same, get_or-set_other}
use Rattle.k2.specs.Bits.{digit, bit_at, ones_below}
use Rattle.k2.specs.DigitLaws.{digit_lt, digit_none, digit_and, digit_not}
use Rattle.k2.specs.BitLaws.{ones_most}
use Rattle.paths.specs.Expressions.{Expr}
use Rattle.paths.specs.Chains.{Graph, Step, spell, Has}
use Rattle.paths.specs.Inside.{Inside}
use Rattle.paths.proofs.ChainLaws.{in_use_on}
use Rattle.automaton.specs.Automata.{On, Automaton, automaton}
use Rattle.automaton.proofs.AutomatonLaws.{words_run}
use Rattle.automaton.proofs.SetLaws.{on_max, on_min}
use Rattle.automaton.specs.Searches.{Walk}
use Rattle.automaton.proofs.WalkLaws.{answers_walk}
use Rattle.automaton.proofs.LevelLaws.{walk_stop, walk_more, walk_ends, walk_less}
use Rattle.arcs.specs.Arcs.{arc_from, arc_to, arc_letter}
use Rattle.arcs.specs.Index.{first_arc, next_arc, Cursor, Indexed}
use Rattle.arcs.specs.IndexLaws.{before_first, only_arc}
use Rattle.search.specs.Levels.{Setting, Spread}
use Rattle.search.specs.Frontiers.{Added, has_state, Listed, Zero}
use Rattle.search.specs.Reaching.{Came, begins, onward, Due, Expanding, Reached, to_do, Fewer, Ended}
use Rattle.automaton.proofs.LowestLaws.{none_on, some_on, Digit, is_on, is_off, digit_of, some_digit, below_pow}
use Rattle.search.proofs.MarkLaws.{bit_off, bit-at}
use Rattle.search.proofs.LevelLaws.{ones_less, step_arc, shut, arc_moves}

-- ---- states added
module _ {nx : List ℕ} {n r v : ℕ} {nx' : List ℕ} (A : Added nx n r v nx') where
  pub added_split : (a q : ℕ) → On (digit (get_or nx' a 0) q) → On (digit (get_or nx a 0) q) ⊎ ((a ≡ r) × On (digit v q))
  added_split a q o = go (ℕ_discrete a r) (dec_lt r n)
    where
      new : a ≡ r → On (digit (get_or nx r 0) q) ⊎ On (digit v q) → On (digit (get_or nx a 0) q) ⊎ ((a ≡ r) × On (digit v q))
      new f (inl p) = inl (rw f p)
      new f (inr p) = inr (f, p)

      go : Dec (a ≡ r) → Dec (r < n) → On (digit (get_or nx a 0) q) ⊎ ((a ≡ r) × On (digit v q))
      go (no e) w = inl (rw (A.other a q e) at o)
      go (yes f) (yes l) = new f (on_max _ _ (rw (A.added q l) at (rw f at o)))
      go (yes f) (no l) = inl (rw f (rw (A.past q (omega arith)) at (rw f at o)))

  pub added_stays : (a q : ℕ) → On (digit (get_or nx a 0) q) → On (digit (get_or nx' a 0) q)
  added_stays a q o = go (ℕ_discrete a r) (dec_lt r n)
    where
      go : Dec (a ≡ r) → Dec (r < n) → On (digit (get_or nx' a 0) q)
      go (no e) w = rw (A.other a q e) o
      go (yes f) (yes l) = let z : On (digit (get_or nx r 0) q) = rw f at o in let e = A.added q l in rw f (omega arith)
      go (yes f) (no l) = rw f (rw (A.past q (omega arith)) (rw f at o))

  pub added_new : (q : ℕ) → r < n → On (digit v q) → On (digit (get_or nx' r 0) q)
  added_new q l o = let e = A.added q l in omega arith

-- ---- arcs gone along
-- the same over other arcs
expanding_as : {fs es cs : List ℕ} {k n x : ℕ} {seen pending : List ℕ} {at mask p p' : ℕ}
    → ((r q j : ℕ) → j < k → arc_from cs j ≡ r → Due at mask p' r q j → Due at mask p r q j)
    → Expanding fs es cs k n x seen pending at mask p → Expanding fs es cs k n x seen pending at mask p'
expanding_as f I = record {
  start = I.start;
  sound = I.sound;
  waits = I.waits;
  out = I.out;
  closed = λ r q q' j hr hq o w d h e. I.closed r q q' j hr hq o w (f r q j h e d) h e;
}

module _ {fs es cs : List ℕ} {k n x : ℕ} {seen pending : List ℕ} {at mask : ℕ} where
  pub expanding_first : {ix : List ℕ} → Indexed (arc_from cs) k ix → Expanding fs es cs k n x seen pending at mask k
      → Expanding fs es cs k n x seen pending at mask (first_arc ix at)
  expanding_first X = expanding_as (λ r q j h e d f o. before_first X j h (e ∙ f) (d f o))

  pub expanding_done : Expanding fs es cs k n x seen pending at mask 0 → Expanding fs es cs k n x seen pending 0 0 0
  expanding_done I = record {
    start = I.start;
    sound = I.sound;
    waits = I.waits;
    out = λ q o. absurd (none_on q o);
    closed = λ r q q' j hr hq o w d h e. I.closed r q q' j hr hq o w (λ f g. omega arith) h e;
  }

module _ (cs es seen : List ℕ) (p follows : ℕ) where
  abbrev to₀ : ℕ
  to₀ = arc_to cs (p - 1)

  abbrev v₀ : ℕ
  v₀ = bit_and (bit_and follows (get_or es (arc_letter cs (p - 1)) 0)) ((2 ^ 64 - 1) - get_or seen to₀ 0)

  module _ (fit : get_or seen to₀ 0 < 2 ^ 64) (tn : to₀ < 1024) {n : ℕ} {pending seen' pending' : List ℕ}
      (B : Added seen 1024 to₀ v₀ seen') (A : Added pending n to₀ v₀ pending') where
    new_bit : (q : ℕ) → q < 64 → digit v₀ q ≡ min (min (digit follows q) (digit (get_or es (arc_letter cs (p - 1)) 0) q)) (1 - digit (get_or seen to₀ 0) q)
    new_bit q h = rw (digit_and, digit_and, digit_not 64 q (get_or seen to₀ 0) fit h)

    new_both : (q : ℕ) → On (digit v₀ q) → On (digit follows q) × On (digit (get_or es (arc_letter cs (p - 1)) 0) q)
    new_both q o = on_min _ _ (rw digit_and at (on_min _ _ (rw digit_and at o)).0)

    -- what follows and is entered is seen then
    new_all : (q : ℕ) → q < 64 → On (digit follows q) → On (digit (get_or es (arc_letter cs (p - 1)) 0) q) → On (digit (get_or seen' to₀ 0) q)
    new_all q h a b = go (digit_of (digit (get_or seen to₀ 0) q))
      where
        go : Digit (digit (get_or seen to₀ 0) q) → On (digit (get_or seen' to₀ 0) q)
        go (is_on o) = added_stays B to₀ q o
        go (is_off e) = let z = new_bit q h in added_new B q tn (omega arith)

    module _ {k : ℕ} {fs ix : List ℕ} {x at mask : ℕ} (X : Indexed (arc_from cs) k ix) (T : Cursor (arc_from cs) k at p)
        (hp : 0 < p) (S : Spread fs mask 0 follows) (I : Expanding fs es cs k n x seen pending at mask p) where
      m_lt : p - 1 < k
      m_lt = let z = T.0 in omega arith

      pub expanding_more : Expanding fs es cs k n x seen' pending' at mask (next_arc ix (p - 1))
      expanding_more = record {
        start = added_stays B x 0 I.start;
        sound = λ r q o. sn r q (added_split B r q o);
        waits = λ r q o. wt r q (added_split A r q o);
        out = λ q o. added_stays B at q (I.out q o);
        closed = λ r q q' j hr hq o w d h e f g. cl r q q' j hr hq w d h e f g (added_split B r q o);
      }
        where
          sn : (r q : ℕ) → On (digit (get_or seen r 0) q) ⊎ ((r ≡ to₀) × On (digit v₀ q)) → Came fs es cs k x r q
          sn r q (inl o) = I.sound r q o
          sn r q (inr o) =
              let b = new_both q o.1 in
              let g = S.from q b.0 in
              onward (p - 1) m_lt (I.sound at g.0 (I.out g.0 g.2)) (T.1 hp) (sym o.0) g.3 b.1

          wt : (r q : ℕ) → On (digit (get_or pending r 0) q) ⊎ ((r ≡ to₀) × On (digit v₀ q)) → On (digit (get_or seen' r 0) q)
          wt r q (inl o) = added_stays B r q (I.waits r q o)
          wt r q (inr o) = rw o.0 (added_new B q tn o.1)

          cl : (r q q' j : ℕ) → r < n → q' < 64 → digit (get_or pending' r 0) q ≡ 0 → Due at mask (next_arc ix (p - 1)) r q j → j < k
              → arc_from cs j ≡ r → On (digit (get_or fs q 0) q') → On (digit (get_or es (arc_letter cs j) 0) q')
              → On (digit (get_or seen r 0) q) ⊎ ((r ≡ to₀) × On (digit v₀ q)) → On (digit (get_or seen' (arc_to cs j) 0) q')
          cl r q q' j hr hq w d h e f g (inr o) =
              absurd (let l : to₀ < n = rw o.0 at hr in let z : On (digit (get_or pending' r 0) q) = rw o.0 (added_new A q l o.1) in omega arith)
          cl r q q' j hr hq w d h e f g (inl o) = go (ℕ_discrete r at) (digit_of (digit mask q))
            where
              off : digit (get_or pending r 0) q ≡ 0
              off = pick (digit_of (digit (get_or pending r 0) q))
                where
                  pick : Digit (digit (get_or pending r 0) q) → digit (get_or pending r 0) q ≡ 0
                  pick (is_off z) = z
                  pick (is_on z) = absurd (let y = added_stays A r q z in omega arith)

              old : Due at mask p r q j → On (digit (get_or seen' (arc_to cs j) 0) q')
              old u = added_stays B (arc_to cs j) q' (I.closed r q q' j hr hq o off u h e f g)

              -- the arc itself, or one that was passed
              one : On (digit mask q) → (j ≡ p - 1) ⊎ (p ≤ j) → On (digit (get_or seen' (arc_to cs j) 0) q')
              one b (inr l) = old (λ a c. l)
              one b (inl z) =
                  let y : On (digit (get_or es (arc_letter cs (p - 1)) 0) q') = rw z at g in
                  rw z (new_all q' hq (S.all q' q b (digit_none q) f) y)

              go : Dec (r ≡ at) → Digit (digit mask q) → On (digit (get_or seen' (arc_to cs j) 0) q')
              go (no a) b = old (λ c. absurd (a c))
              go (yes a) (is_off b) = old (λ c u. absurd (omega arith))
              go (yes a) (is_on b) = one b (only_arc X T hp j h (e ∙ a) (d a b))

    pub fewer_more : Fewer n seen pending seen' pending'
    unfolding to_do bit_at
    fewer_more i h = go (i / 64) (i % 64) (omega arith) (omega arith) (ℕ_discrete (i / 64) to₀)
      where
        last : (a b v : ℕ) → (0 < v → a ≡ 0) → v < 2 → max (1 - max a v) (max b v) ≤ max (1 - a) b
        last a b zero h g = omega arith
        last a b (suc v) h g = let z = h (omega arith) in omega arith

        go : (r q : ℕ) → r < n → q < 64 → Dec (r ≡ to₀)
            → max (1 - digit (get_or seen' r 0) q) (digit (get_or pending' r 0) q) ≤ max (1 - digit (get_or seen r 0) q) (digit (get_or pending r 0) q)
        go r q hr hq (no e) = rw (B.other r q e, A.other r q e) (omega arith)
        go r q hr hq (yes e) =
            let l : to₀ < n = omega arith in
            let z = new_bit q hq in
            let u = digit_lt v₀ q in
            rw (e, B.added q tn, A.added q l) (last (digit (get_or seen to₀ 0) q) (digit (get_or pending to₀ 0) q) (digit v₀ q) (λ o. omega arith) u)

-- ---- a record taken off the list
pub ones_but : (f g : ℕ → ℕ) (k r : ℕ) → ((i : ℕ) → (i ≡ r → ⊥) → f i ≤ g i) → f r ≤ 1 → ones_below f k ≤ ones_below g k + 1
unfolding ones_below
ones_but f g zero r h b = omega arith
ones_but f g (suc k) r h b = go (ℕ_discrete k r) (ones_but f g k r h b)
  where
    go : Dec (k ≡ r) → ones_below f k ≤ ones_below g k + 1 → ones_below f k + f k ≤ ones_below g k + g k + 1
    go (yes e) z = let x = ones_most f g k (λ i l. h i (λ u. omega arith)) in let y : f k ≤ 1 = rw e b in omega arith
    go (no e) z = let y = h k e in omega arith

module _ {list : List ℕ} {c n : ℕ} {nx : List ℕ} (I : Listed list c n nx) (hc : 0 < c) where
  abbrev r₀ : ℕ
  r₀ = get_or list (c - 1) 0

  abbrev nx₀ : List ℕ
  nx₀ = set nx r₀ 0

  off_r : (a : ℕ) → (a ≡ r₀ → ⊥) → get_or nx₀ a 0 ≡ get_or nx a 0
  off_r a h = get_or-set_other nx r₀ a 0 0 h

  pub listed_less : r₀ < length nx → Listed list (c - 1) n nx₀
  unfolding has_state
  listed_less long = record {
    small = λ i h. I.small i (omega arith);
    some = λ i h. rw (off_r (get_or list i 0) (I.apart i (c - 1) h (omega arith))) (I.some i (omega arith));
    all = λ a h. al a h (ℕ_discrete a r₀);
    apart = λ i j l h. I.apart i j l (omega arith);
    room = (let z = I.room in let y = ones_but (has_state nx) (has_state nx₀) 1024 r₀ other one in omega arith);
  }
    where
      al : (a : ℕ) → 0 < get_or nx₀ a 0 → Dec (a ≡ r₀) → (i : ℕ) × (i < c - 1) × (get_or list i 0 ≡ a)
      al a h (yes e) = absurd (let z : get_or nx₀ a 0 ≡ 0 = rw e (get_or-set_same nx r₀ 0 0 long) in omega arith)
      al a h (no e) = let z = I.all a (rw (off_r a e) at h) in pick z.0 z.1 z.2 (ℕ_discrete z.0 (c - 1))
        where
          pick : (i : ℕ) → i < c → get_or list i 0 ≡ a → Dec (i ≡ c - 1) → (i : ℕ) × (i < c - 1) × (get_or list i 0 ≡ a)
          pick i l f (yes g) = absurd (e (sym f ∙ ap (λ (t : ℕ). get_or list t 0) g))
          pick i l f (no g) = (i, omega arith, f)

      other : (i : ℕ) → (i ≡ r₀ → ⊥) → has_state nx i ≤ has_state nx₀ i
      other i h = rw (off_r i h) (omega arith)

      one : has_state nx r₀ ≤ 1
      one = omega arith

  module _ (long : r₀ < length nx) where
    -- what is pending then was pending before
    pending_before : (r q : ℕ) → On (digit (get_or nx₀ r 0) q) → On (digit (get_or nx r 0) q)
    pending_before r q o = go (ℕ_discrete r r₀)
      where
        go : Dec (r ≡ r₀) → On (digit (get_or nx r 0) q)
        go (no e) = rw (off_r r e) at o
        go (yes e) = absurd (none_on q (rw (e, get_or-set_same nx r₀ 0 0 long) at o))

    pub expanding_pop : {fs es cs : List ℕ} {k x : ℕ} {seen : List ℕ}
        → Expanding fs es cs k n x seen nx 0 0 0 → Expanding fs es cs k n x seen nx₀ r₀ (get_or nx r₀ 0) k
    expanding_pop {k = k} E = record {
      start = E.start;
      sound = E.sound;
      waits = λ r q o. E.waits r q (pending_before r q o);
      out = λ q o. E.waits r₀ q o;
      closed = λ r q q' j hr hq o w d h e. E.closed r q q' j hr hq o (off r q j w d h) (λ f g. omega arith) h e;
    }
      where
        off : (r q j : ℕ) → digit (get_or nx₀ r 0) q ≡ 0 → Due r₀ (get_or nx r₀ 0) k r q j → j < k → digit (get_or nx r 0) q ≡ 0
        off r q j w d h = go (ℕ_discrete r r₀) (digit_of (digit (get_or nx r 0) q))
          where
            go : Dec (r ≡ r₀) → Digit (digit (get_or nx r 0) q) → digit (get_or nx r 0) q ≡ 0
            go a (is_off z) = z
            go (no e) (is_on z) = rw (off_r r e) at w
            go (yes e) (is_on z) = absurd (let y = d e (rw e at z) in omega arith)

    pub fewer_pop : (seen : List ℕ) → ((r q : ℕ) → On (digit (get_or nx r 0) q) → On (digit (get_or seen r 0) q))
        → ones_below (to_do seen nx₀) (n * 64) < ones_below (to_do seen nx) (n * 64)
    unfolding to_do bit_at
    fewer_pop seen W =
        let s = I.some (c - 1) (omega arith) in
        let hn = I.small (c - 1) (omega arith) in
        let q : ℕ = s.0 in
        let hq : q < 64 = s.1 in
        let a : (r₀ * 64 + q) / 64 ≡ r₀ = omega arith in
        let b : (r₀ * 64 + q) % 64 ≡ q = omega arith in
        let z : digit (get_or nx₀ r₀ 0) q ≡ 0 = rw (get_or-set_same nx r₀ 0 0 long) (digit_none q) in
        let w = W r₀ q s.2 in
        let u = s.2 in
        ones_less (to_do seen nx₀) (to_do seen nx) (n * 64) (r₀ * 64 + q) (λ i h. le (i / 64) (i % 64)) (omega arith) (rw (a, b) (omega arith))
      where
        le : (r q : ℕ) → max (1 - digit (get_or seen r 0) q) (digit (get_or nx₀ r 0) q) ≤ max (1 - digit (get_or seen r 0) q) (digit (get_or nx r 0) q)
        le r q = go (digit_of (digit (get_or nx₀ r 0) q))
          where
            go : Digit (digit (get_or nx₀ r 0) q)
                → max (1 - digit (get_or seen r 0) q) (digit (get_or nx₀ r 0) q) ≤ max (1 - digit (get_or seen r 0) q) (digit (get_or nx r 0) q)
            go (is_off z) = omega arith
            go (is_on z) = let y = pending_before r q z in let l = digit_lt (get_or nx₀ r 0) q in omega arith

-- ---- at the start and at the end
pub expanding_start : {fs es cs : List ℕ} {k n x : ℕ} {seen zeros pending : List ℕ} → x < n → Zero zeros → get_or seen x 0 ≡ 1
    → ((r : ℕ) → (r ≡ x → ⊥) → get_or seen r 0 ≡ 0) → Added zeros n x 1 pending → Expanding fs es cs k n x seen pending 0 0 0
expanding_start {fs} {es} {cs} {k} {n} {x} {seen} {zeros} {pending} hx zs here off A = record {
  start = seen_on 0 (bit-at 0);
  sound = λ r q o. sn r q (seen-is r q o);
  waits = λ r q o. wt r q (added_split A r q o);
  out = λ q o. absurd (none_on q o);
  closed = λ r q q' j hr hq o w. absurd (waiting r q (seen-is r q o) w);
}
  where
    seen_on : (q : ℕ) → On (digit 1 q) → On (digit (get_or seen x 0) q)
    seen_on q o = rw here o

    seen-is : (r q : ℕ) → On (digit (get_or seen r 0) q) → (r ≡ x) × On (digit 1 q)
    seen-is r q o = go (ℕ_discrete r x)
      where
        go : Dec (r ≡ x) → (r ≡ x) × On (digit 1 q)
        go (yes e) = (e, rw (e, here) at o)
        go (no e) = absurd (none_on q (rw (off r e) at o))

    waiting : (r q : ℕ) → (r ≡ x) × On (digit 1 q) → digit (get_or pending r 0) q ≡ 0 → ⊥
    waiting r q z w = let y = added_new A q hx z.1 in let u : digit (get_or pending x 0) q ≡ 0 = rw z.0 at w in omega arith

    sn : (r q : ℕ) → (r ≡ x) × On (digit 1 q) → Came fs es cs k x r q
    sn r q (e, p) = let z = bit_off 0 q p in subst (λ (t : ℕ). Came fs es cs k x t q) (sym e) (subst (λ (t : ℕ). Came fs es cs k x x t) (sym z) begins)

    wt : (r q : ℕ) → On (digit (get_or zeros r 0) q) ⊎ ((r ≡ x) × On (digit 1 q)) → On (digit (get_or seen r 0) q)
    wt r q (inl o) = absurd (none_on q (rw (zs r) at o))
    wt r q (inr o) = rw o.0 (seen_on q o.1)

pub expanding_all : {fs es cs : List ℕ} {k n x : ℕ} {seen pending : List ℕ}
    → Expanding fs es cs k n x seen pending 0 0 0 → Zero pending → Reached fs es cs k n x seen
expanding_all I z = record {
  start = I.start;
  sound = I.sound;
  closed = λ r q q' j hr hq o h e. I.closed r q q' j hr hq o (rw (z r) (digit_none q)) (λ f g. omega arith) h e;
}

-- ---- the ends
module _ {g : Graph} {M : Automaton} {fs ps es : List ℕ} {f n : ℕ} {cs : List ℕ} {k : ℕ} (S : Setting g M fs ps es f n cs k) {x : ℕ} where
  pub came_walk : {y r q : ℕ} {ss : List Step} → Came fs es cs k x r q → Walk g M y r q ss → (ts : List Step) × Walk g M y x 0 ts
  came_walk {ss = ss} begins w = (ss, w)
  came_walk {y} {ss = ss} (onward {r} {q} {r'} {q'} j h c e t a b) w =
      let m = arc_moves S j r q q' h e (let z = S.masked.follow q q' in omega arith) b in
      came_walk c (walk_more m (subst (λ (u : ℕ). Walk g M y u q' ss) (sym t) w))

  module _ {seen : List ℕ} (R : Reached fs es cs k n x seen) where
    pub walk_in : {y : ℕ} (r q : ℕ) (ss : List Step) → r < n → On (digit (get_or seen r 0) q) → Walk g M y r q ss
        → (p : ℕ) × On (digit (get_or seen y 0) p) × On (M.final p)
    walk_in {y} r q [] hr o w = let z = walk_ends w in (q, subst (λ (t : ℕ). On (digit (get_or seen t 0) q)) z.0 o, z.1)
    walk_in r q (s ∷ ss) hr o w =
        let v = walk_less w in
        let z = shut S r q v.0 s v.1 in
        let a = step_arc S r q v.0 s v.1 in
        let i = R.closed r q v.0 a.0 hr z.1 o a.1 a.2 (let y = S.masked.follow q v.0 in let u = v.1.follow in omega arith)
        (rw (a.4, S.masked.enters v.0 s.spelt) v.1.enters) in
        walk_in s.reached v.0 ss z.0 (rw a.3 at i) v.2

pub ended : {g : Graph} {e : Expr} {fs ps es : List ℕ} {f n : ℕ} {cs : List ℕ} {k : ℕ} → Setting g (automaton e) fs ps es f n cs k → Inside g
    → {x : ℕ} → x < n → g.in_use x ≡ true → {seen : List ℕ} → Reached fs es cs k n x seen → Ended g e x f seen
ended {g} {e} {f = f} S I {x} hx u {seen} R = record { sound = sn; whole = wh }
  where
    sn : (y : ℕ) → On (bit_and (get_or seen y 0) f) → Has g e x y
    sn y o =
        let z = some_digit (bit_and (get_or seen y 0) f) (bit_and (get_or seen y 0) f) (below_pow (bit_and (get_or seen y 0) f)) o in
        let b = on_min _ _ (rw digit_and at z.2) in
        let w = came_walk S (R.sound y z.0 b.0) (walk_stop (let t = S.masked.final z.0 in let v = b.1 in omega arith)) in
        (w.0, record { begins = u; ends = in_use_on g I w.1.chain u; chain = w.1.chain; spells = (words_run e (spell w.0)).1 w.1.run })

    wh : (y : ℕ) → Has g e x y → On (bit_and (get_or seen y 0) f)
    wh y h =
        let z = walk_in S R x 0 h.0 hx R.start (answers_walk h.1) in
        some_on (bit_and (get_or seen y 0) f) z.0 (rw digit_and (let t = S.masked.final z.0 in let a = z.1 in let b = z.2 in omega arith))
