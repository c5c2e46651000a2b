-- The levels backward: what the search knows, kept level by level.
--   distance_on, distance_off, distance_seen
--                        the number counts where the state was seen
--   ones_less, bits_few  how many bits are set: fewer, at most all
--   level_falls          a level that is not empty has more states seen, so fewer are left
--   step_arc, shut, arc_moves
--                        the arc of a step, that no step leads out of the records below n, and the step of an arc
--   Level g M y n l w seen cur
--                        the numbers of the first l levels are right, and cur has the states of the last
--   level_next           one level more keeps it
--   level_empty          an empty level: no walk from where the state was not seen
--   mask_here, mask_off  a set of states at one record alone
--   Start r q            the number is 1 at y and a final state, else 0
--   level_start          so the level at the start
--   sought               at the end, the start's number is that of its shortest walk
-- Assumes nothing.
use mathlib.Core.Path.{◌≡◌, refl, sym, ◌∙◌, subst}
use mathlib.Core.List.{List, [], ◌∷◌}
use mathlib.Core.Bool.{true}
use Prim.Native.Nat.{ℕ, zero, suc, ◌+◌, ◌*◌, ◌/◌, ◌%◌, ◌≤◌, ◌<◌}
use native.Mathlib.Nat.{one-mul, zero-mul}
use native.Mathlib.Omega.{arith}
use native.Mathlib.Decide.{dec_lt}
use lib.ListN.{length, get_or, set, replicate, length-replicate, get_or-eq_default}
use lib.Seq.{get_or-set_same, get_or-set_other}
use Rattle.k2.specs.Bits.{digit, bit_at, ones_below}
use Rattle.k2.specs.BitLaws.{ones-le, zeros_at, ones_most}
use Rattle.k2.specs.DigitLaws.{digit_lt, digit_none}
use Rattle.paths.specs.Chains.{Graph, Step, crossing}
use Rattle.automaton.specs.Automata.{On, Automaton}
use Rattle.automaton.specs.Masks.{letter_number}
use Rattle.automaton.specs.Searches.{Walk, Moves, Reach, Shut, Known, Grown}
use Rattle.automaton.proofs.LevelLaws.{walk_stop, walk_ends, known_grown, known_none, Which, less, same, more, which}
use Rattle.arcs.specs.Arcs.{arc_from, arc_to, arc_letter, letter_of, arc_step}
use Rattle.arcs.specs.ArcLaws.{number_letter}
use Rattle.search.specs.Levels.{Setting, number_at, distance, Levelled, Stamped, Committed, Sought, found}
use Rattle.search.specs.Frontiers.{Zero}
use Rattle.automaton.proofs.LowestLaws.{none_on, Digit, is_on, is_off, digit_of}

-- ---- the number counts where the state was seen
module _ (w seen : List ℕ) (r q : ℕ) where
  pub distance_on : On (digit (get_or seen r 0) q) → distance w seen r q ≡ number_at w r q
  unfolding distance
  distance_on o =
      let l = digit_lt (get_or seen r 0) q in
      let e : digit (get_or seen r 0) q ≡ 1 = omega arith in
      rw e (one-mul (number_at w r q))

  pub distance_off : digit (get_or seen r 0) q ≡ 0 → distance w seen r q ≡ 0
  unfolding distance
  distance_off e = rw e (zero-mul (number_at w r q))

  pub distance_seen : On (distance w seen r q) → On (digit (get_or seen r 0) q)
  distance_seen o = go (digit_of (digit (get_or seen r 0) q))
    where
      go : Digit (digit (get_or seen r 0) q) → On (digit (get_or seen r 0) q)
      go (is_on p) = p
      go (is_off e) = absurd (let z = distance_off e in omega arith)

-- ---- how many bits are set
pub ones_less : (f g : ℕ → ℕ) (k j : ℕ) → ((i : ℕ) → i < k → f i ≤ g i) → j < k → f j < g j → ones_below f k < ones_below g k
unfolding ones_below
ones_less f g zero j h l s = absurd (omega arith)
ones_less f g (suc k) j h l s = go (which j k) (ones_less f g k j (λ i m. h i (omega arith))) (ones_most f g k (λ i m. h i (omega arith))) (h k (omega arith))
  where
    go : Which j k → (j < k → f j < g j → ones_below f k < ones_below g k) → ones_below f k ≤ ones_below g k → f k ≤ g k
        → ones_below f k + f k < ones_below g k + g k
    go (less m) ih a b = let z = ih m s in omega arith
    go (same m) ih a b = let z : f k < g k = rw m at s in omega arith
    go (more m) ih a b = absurd (omega arith)

pub bits_few : (ws : List ℕ) (k : ℕ) → ones_below (bit_at ws) k ≤ k
unfolding bit_at
bits_few ws k = ones-le (bit_at ws) (λ i. digit_lt (get_or ws (i / 64) 0) (i % 64)) k

-- a level that is not empty has more states seen
pub level_falls : {cs ps es cur seen : List ℕ} {m mark n : ℕ} {nx w w' seen' : List ℕ} → Levelled cs ps es cur seen n m nx
    → Committed w seen nx mark n w' seen' → {r q : ℕ} → r < n → q < 64 → On (digit (get_or nx r 0) q)
    → ones_below (bit_at seen) (n * 64) < ones_below (bit_at seen') (n * 64)
unfolding bit_at
level_falls {seen = seen} {n = n} {nx = nx} {seen' = seen'} N C {r} {q} hr hq o =
    let a : (r * 64 + q) / 64 ≡ r = omega arith in
    let b : (r * 64 + q) % 64 ≡ q = omega arith in
    let f = N.fresh r q hq o in
    let s = C.seen_more r q hr in
    ones_less (bit_at seen) (bit_at seen') (n * 64) (r * 64 + q) (λ i h. (let z = C.seen_more (i / 64) (i % 64) (omega arith) in omega arith))
    (omega arith) (rw (a, b) (omega arith))

-- ---- no step leads out
module _ {g : Graph} {M : Automaton} {fs ps es : List ℕ} {f n : ℕ} {cs : List ℕ} {k : ℕ} (S : Setting g M fs ps es f n cs k) where
  -- the arc of a step
  pub step_arc : (r q q' : ℕ) (s : Step) → Moves g M r q s q'
      → (i : ℕ) × (i < k) × (arc_from cs i ≡ r) × (arc_to cs i ≡ s.reached) × (arc_letter cs i ≡ letter_number s.spelt)
  step_arc r q q' s m = S.drawn.whole r q' s m.crosses (rw (S.masked.enters q' s.spelt) m.enters)

  pub shut : Shut g M n
  shut r q q' s m =
      let z = step_arc r q q' s m in
      let b = S.drawn.below z.0 z.1 in
      (omega (arith, z.3), go (dec_lt q' 64) (rw (S.masked.before q q') m.follow))
    where
      go : Dec (q' < 64) → On (digit (get_or ps q' 0) q) → q' < 64
      go (yes h) o = h
      go (no h) o = absurd (none_on q (rw (get_or-eq_default ps 0 (let l = S.states in let z : length ps ≤ q' = omega arith in z)) at o))

  -- the step of an arc
  pub arc_moves : (i r q q' : ℕ) → i < k → arc_from cs i ≡ r → On (M.follow q q') → On (digit (get_or es (arc_letter cs i) 0) q')
      → Moves g M r q (arc_step cs i) q'
  arc_moves i r q q' h e fo en = record {
    crosses = subst (λ (a : ℕ). g.present (crossing (arc_step cs i).spelt a (arc_to cs i)) ≡ true) e (S.drawn.sound i h);
    follow = fo;
    enters =
        (let z : digit (get_or es (letter_number (letter_of (arc_letter cs i))) 0) q' ≡ M.enters q' (letter_of (arc_letter cs i)) =
        S.masked.enters q' (letter_of (arc_letter cs i)) in let y : digit (get_or es (arc_letter cs i) 0) q' ≡ M.enters q' (letter_of (arc_letter cs i)) =
        rw (number_letter (arc_letter cs i)) at z in omega arith);
  }

-- ---- a level
pub record Level (g : Graph) (M : Automaton) (y n l : ℕ) (w seen cur : List ℕ) : Type 0 where
  pub known : Known g M y n l (distance w seen)
  pub marked : (r q : ℕ) → r < n → q < 64 → On (digit (get_or seen r 0) q) → On (number_at w r q)
  pub cur_on : (r q : ℕ) → r < n → q < 64 → On (digit (get_or cur r 0) q) → distance w seen r q ≡ suc l
  pub cur_all : (r q : ℕ) → r < n → q < 64 → distance w seen r q ≡ suc l → On (digit (get_or cur r 0) q)

module _ {g : Graph} {M : Automaton} {fs ps es : List ℕ} {f n : ℕ} {cs : List ℕ} {k : ℕ} (S : Setting g M fs ps es f n cs k)
    {y l : ℕ} {w seen cur nx w' seen' : List ℕ} (I : Level g M y n l w seen cur)
    (N : Levelled cs ps es cur seen n k nx) (C : Committed w seen nx (suc (suc l)) n w' seen') where
  abbrev d : ℕ → ℕ → ℕ
  d = distance w seen

  abbrev d' : ℕ → ℕ → ℕ
  d' = distance w' seen'

  -- what is seen is not new
  old_not_new : (r q : ℕ) → q < 64 → On (digit (get_or seen r 0) q) → digit (get_or nx r 0) q ≡ 0
  old_not_new r q hq o = go (digit_of (digit (get_or nx r 0) q))
    where
      go : Digit (digit (get_or nx r 0) q) → digit (get_or nx r 0) q ≡ 0
      go (is_off e) = e
      go (is_on p) = absurd (let e = N.fresh r q hq p in omega arith)

  kept_old : (r q : ℕ) → r < n → q < 64 → On (d r q) → d' r q ≡ d r q
  kept_old r q hr hq o =
      let s = distance_seen w seen r q o in
      let m = C.seen_more r q hr in
      distance_on w' seen' r q (omega arith) ∙ C.miss r q hq (old_not_new r q hq s) ∙ sym (distance_on w seen r q s)

  is_new : (r q : ℕ) → r < n → q < 64 → On (digit (get_or nx r 0) q) → d' r q ≡ suc (suc l)
  is_new r q hr hq o = let m = C.seen_more r q hr in distance_on w' seen' r q (omega arith) ∙ C.hit r q hr hq o

  neither : (r q : ℕ) → r < n → d r q ≡ 0 → q < 64 → digit (get_or nx r 0) q ≡ 0 → d' r q ≡ 0
  neither r q hr e hq z = let m = C.seen_more r q hr in go (digit_of (digit (get_or seen r 0) q))
    where
      go : Digit (digit (get_or seen r 0) q) → d' r q ≡ 0
      go (is_off s) = let m = C.seen_more r q hr in distance_off w' seen' r q (omega arith)
      go (is_on s) = absurd (let a = I.marked r q hr hq s in let b = distance_on w seen r q s in omega arith)

  grown : Grown g M n l d d'
  grown = record { kept = kept_old; made = mk; all = al }
    where
      mk : (r q : ℕ) → r < n → q < 64 → d r q ≡ 0 → 0 < d' r q
          → (d' r q ≡ suc (suc l)) × (s : Step) × (q' : ℕ) × Moves g M r q s q' × (d s.reached q' ≡ suc l)
      mk r q hr hq e o = go (digit_of (digit (get_or nx r 0) q))
        where
          go : Digit (digit (get_or nx r 0) q) → (d' r q ≡ suc (suc l)) × (s : Step) × (q' : ℕ) × Moves g M r q s q' × (d s.reached q' ≡ suc l)
          go (is_off z) = absurd (let a = neither r q hr e hq z in omega arith)
          go (is_on p) =
              let a = N.from r q hq p in
              let b = S.drawn.below a.0 a.2 in (
                is_new r q hr hq p,
                arc_step cs a.0,
                a.1,
                arc_moves S a.0 r q a.1 a.2 a.4 (let z = S.masked.before q a.1 in let h = a.7 in omega arith) a.6,
                I.cur_on (arc_to cs a.0) a.1 b.1 a.3 a.5,
              )

      al : (r q q' : ℕ) (s : Step) → r < n → q < 64 → Moves g M r q s q' → d s.reached q' ≡ suc l → 0 < d' r q
      al r q q' s hr hq m e = go (digit_of (digit (get_or seen r 0) q))
        where
          go : Digit (digit (get_or seen r 0) q) → 0 < d' r q
          go (is_on o) = let a = I.marked r q hr hq o in let b = distance_on w seen r q o in let z = kept_old r q hr hq (omega arith) in omega arith
          go (is_off z) =
              let a = step_arc S r q q' s m in
              let b = shut S r q q' s m in
              let c : On (digit (get_or cur (arc_to cs a.0) 0) q') = rw a.3 (I.cur_all s.reached q' b.0 b.1 e) in
              let t : On (digit (get_or es (arc_letter cs a.0) 0) q') = rw (a.4, S.masked.enters q' s.spelt) m.enters in
              let u : digit (get_or seen (arc_from cs a.0) 0) q ≡ 0 = rw a.2 z in
              let p : On (digit (get_or ps q' 0) q) = rw (S.masked.before q q') m.follow in
              let v : On (digit (get_or nx r 0) q) = rw a.2 at (N.all q a.0 q' hq a.1 (rw a.2 hr) c t p u) in
              let i = is_new r q hr hq v in omega arith

  pub level_next : Level g M y n (suc l) w' seen' nx
  level_next = record { known = known_grown (shut S) I.known grown; marked = mk; cur_on = is_new; cur_all = ca }
    where
      mk : (r q : ℕ) → r < n → q < 64 → On (digit (get_or seen' r 0) q) → On (number_at w' r q)
      mk r q hr hq o = go (digit_of (digit (get_or nx r 0) q))
        where
          go : Digit (digit (get_or nx r 0) q) → On (number_at w' r q)
          go (is_on p) = let e = C.hit r q hr hq p in omega arith
          go (is_off z) = let m = C.seen_more r q hr in let a = I.marked r q hr hq (omega arith) in let e = C.miss r q hq z in omega arith

      ca : (r q : ℕ) → r < n → q < 64 → d' r q ≡ suc (suc l) → On (digit (get_or nx r 0) q)
      ca r q hr hq e = go (digit_of (digit (get_or nx r 0) q)) (digit_of (d r q))
        where
          go : Digit (digit (get_or nx r 0) q) → Digit (d r q) → On (digit (get_or nx r 0) q)
          go (is_on p) z = p
          go (is_off p) (is_on o) = absurd (let a = kept_old r q hr hq o in let b = I.known.bound r q hr hq in omega arith)
          go (is_off p) (is_off z) = absurd (let a = neither r q hr z hq p in omega arith)

  -- an empty level: no walk from where the state was not seen
  pub level_empty : (x : ℕ) → x < n → digit (get_or seen x 0) 0 ≡ 0 → Zero nx → (ss : List Step) → Walk g M y x 0 ss → ⊥
  level_empty x hx e none ss v =
      let o = known_none (shut S) level_next.known (λ r q hr hq z. none_on q (rw (none r) at (level_next.cur_all r q hr hq z)))
      (length ss) x 0 hx (omega arith) (ss, refl, v) in
      let z : digit (get_or nx x 0) 0 ≡ 0 = rw (none x) (digit_none 0) in
      let a = neither x 0 hx (distance_off w seen x 0 e) (omega arith) z in
      omega arith

-- ---- at the start
-- a set at one record
pub mask_here : (k y v : ℕ) → y < k → get_or {A = ℕ} (set (replicate k 0) y v) y 0 ≡ v
mask_here k y v h = get_or-set_same {A = ℕ} (replicate k 0) y v 0 (rw (length-replicate {A = ℕ} k 0) h)

pub mask_off : (k y v r : ℕ) → (r ≡ y → ⊥) → get_or {A = ℕ} (set (replicate k 0) y v) r 0 ≡ 0
mask_off k y v r h = get_or-set_other {A = ℕ} (replicate k 0) y r v 0 h ∙ zeros_at k r

module _ {g : Graph} {M : Automaton} {fs ps es : List ℕ} {f n : ℕ} {cs : List ℕ} {k : ℕ} (S : Setting g M fs ps es f n cs k)
    {y : ℕ} {w₀ w : List ℕ} (T : Stamped w₀ y f 1 0 w) (m : List ℕ) (m-here : get_or m y 0 ≡ f) (m-off : (r : ℕ) → (r ≡ y → ⊥) → get_or m r 0 ≡ 0) where
  -- the number is 1 at y and a final state, else 0
  data Start (r q : ℕ) : Type 0 where
    final : r ≡ y → On (digit f q) → On (digit (get_or m r 0) q) → number_at w r q ≡ 1 → distance w m r q ≡ 1 → Start r q
    not : digit (get_or m r 0) q ≡ 0 → distance w m r q ≡ 0 → (r ≡ y → On (digit f q) → ⊥) → Start r q

  start_of : (r q : ℕ) → q < 64 → Start r q
  start_of r q hq = go (which r y) (digit_of (digit f q))
    where
      off : (r ≡ y → ⊥) → Start r q
      off e = let z : digit (get_or m r 0) q ≡ 0 = rw (m-off r e) (digit_none q) in not z (distance_off w m r q z) (λ h. absurd (e h))

      go : Which r y → Digit (digit f q) → Start r q
      go (less h) d = off (λ e. omega arith)
      go (more h) d = off (λ e. omega arith)
      go (same h) (is_on o) =
          let a : On (digit (get_or m r 0) q) = rw (h, m-here) o in
          let b : number_at w r q ≡ 1 = rw h (T.hit q hq o (digit_none q)) in
          final h o a b (distance_on w m r q a ∙ b)
      go (same h) (is_off o) = let z : digit (get_or m r 0) q ≡ 0 = rw (h, m-here) o in not z (distance_off w m r q z) (λ e p. omega arith)

  pub level_start : Level g M y n 0 w m m
  level_start = record {
    known =
        record {
          sound = λ r q k hr hq e. snd r q k e (start_of r q hq);
          complete = λ r q k hr hq h v. cmp r q k h v (start_of r q hq);
          bound = λ r q hr hq. bnd r q (start_of r q hq);
        };
    marked = λ r q hr hq o. mk r q o (start_of r q hq);
    cur_on = λ r q hr hq o. on1 r q o (start_of r q hq);
    cur_all = λ r q hr hq e. all1 r q e (start_of r q hq);
  }
    where
      snd : (r q k : ℕ) → distance w m r q ≡ suc k → Start r q → Reach g M y k r q
      snd r q k e (final h o a b c) = ([], omega arith, subst (λ (x : ℕ). Walk g M y x q []) (sym h) (walk_stop (let z = S.masked.final q in omega arith)))
      snd r q k e (not a b c) = absurd (omega arith)

      at-end : (r q : ℕ) (ss : List Step) → Walk g M y r q ss → length ss ≡ 0 → (r ≡ y) × On (M.final q)
      at-end r q [] v e = walk_ends v
      at-end r q (s ∷ ss) v e = absurd (omega arith)

      cmp : (r q k : ℕ) → k ≤ 0 → Reach g M y k r q → Start r q → (0 < distance w m r q) × (distance w m r q ≤ suc k)
      cmp r q k h v (final e o a b c) = (omega arith, omega arith)
      cmp r q k h v (not a b c) =
          absurd (let z = at-end r q v.0 v.2 (omega (arith, v.1)) in let u = S.masked.final q in let t = z.1 in c z.0 (omega arith))

      bnd : (r q : ℕ) → Start r q → distance w m r q ≤ 1
      bnd r q (final e o a b c) = omega arith
      bnd r q (not a b c) = omega arith

      mk : (r q : ℕ) → On (digit (get_or m r 0) q) → Start r q → On (number_at w r q)
      mk r q o (final e p a b c) = omega arith
      mk r q o (not a b c) = absurd (omega arith)

      on1 : (r q : ℕ) → On (digit (get_or m r 0) q) → Start r q → distance w m r q ≡ 1
      on1 r q o (final e p a b c) = c
      on1 r q o (not a b c) = absurd (omega arith)

      all1 : (r q : ℕ) → distance w m r q ≡ 1 → Start r q → On (digit (get_or m r 0) q)
      all1 r q e (final h p a b c) = a
      all1 r q e (not a b c) = absurd (omega arith)

-- ---- at the end
pub sought : {g : Graph} {M : Automaton} {y n l : ℕ} {w seen cur : List ℕ} (x : ℕ) → x < n
    → Level g M y n l w seen cur → On (digit (get_or seen x 0) 0) → Sought g M x y n w seen (number_at w x 0)
sought {g} {M} {y} {n} {l} {w} {seen} x hx I o = go (number_at w x 0) refl (I.marked x 0 hx (omega arith) o)
  where
    go : (v : ℕ) → number_at w x 0 ≡ v → On (number_at w x 0) → Sought g M x y n w seen v
    go zero e h = absurd (omega arith)
    go (suc m) e h = found I.known (distance_on w seen x 0 o ∙ e)
