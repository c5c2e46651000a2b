-- Laws of the records of a level: states added, records queued, the level of one record.
--   added_zero, added_past, added_more
--                   states added to a record: none, to no record, some
--   listed_none, listed_some, listed_fits
--                   the records queued: none; each has a state; at most 1,024
--   list_room, listed_new, listed_old
--                   a record more: there is room, it is new, or it is queued already
--   listed_take     the records queued, alone
--   none_listed     an empty list is an empty level
--   frontier_start  the level of one record
-- Assumes nothing.
use mathlib.Core.Path.{◌≡◌, refl, sym, ap, ◌∙◌}
use mathlib.Core.List.{List}
use Prim.Native.Nat.{ℕ, ◌+◌, ◌≤◌, ◌<◌, min}
use native.Mathlib.Omega.{arith}
use native.Mathlib.Decide.{ℕ_discrete}
use lib.Bits.{bit_or}
use lib.ListN.{length, get_or, set, take, replicate, get_or-replicate}
use lib.Seq.{get_or-set_same, get_or-set_other, get_or-take, length-take-le}
use Rattle.k2.specs.Bits.{digit, ones_below}
use Rattle.k2.specs.BitLaws.{ones-le, ones_most}
use Rattle.k2.specs.DigitLaws.{digit_none, digit_or}
use Rattle.k2.specs.WordLaws.{or-none}
use Rattle.automaton.specs.Automata.{On}
use Rattle.automaton.proofs.LevelLaws.{Which, less, same, more, which}
use Rattle.search.specs.Frontiers.{Added, has_state, Listed, Frontier, Zero}
use Rattle.automaton.proofs.LowestLaws.{some_on, Digit, is_on, is_off, digit_of}
use Rattle.search.proofs.LevelLaws.{ones_less}

-- ---- states added
pub added_zero : (nx : List ℕ) (n r v : ℕ) → v ≡ 0 → Added nx n r v nx
added_zero nx n r v e = record { added = λ q h. (let z : digit v q ≡ 0 = rw e (digit_none q) in omega arith); past = λ q h. refl; other = λ a q h. refl }

pub added_past : (nx : List ℕ) (n r v : ℕ) → n ≤ r → Added nx n r v nx
added_past nx n r v g = record { added = λ q h. absurd (omega arith); past = λ q h. refl; other = λ a q h. refl }

pub added_more : (nx : List ℕ) (n r v : ℕ) → r < length nx → r < n → Added nx n r v (set nx r (bit_or (get_or nx r 0) v))
added_more nx n r v l g = record {
  added = λ q h. ap (λ (x : ℕ). digit x q) (get_or-set_same nx r (bit_or (get_or nx r 0) v) 0 l) ∙ digit_or (get_or nx r 0) v q;
  past = λ q h. absurd (omega arith);
  other = λ a q h. ap (λ (x : ℕ). digit x q) (get_or-set_other nx r a (bit_or (get_or nx r 0) v) 0 h);
}

pub listed_none : (list nx : List ℕ) (n : ℕ) → Zero nx → Listed list 0 n nx
listed_none list nx n z =
    record {
      small = λ i h. absurd (omega arith);
      some = λ i h. absurd (omega arith);
      all = λ r o. absurd (let e = z r in omega arith);
      apart = λ i j l h. absurd (omega arith);
      room = omega arith;
    }

pub listed_some : {list : List ℕ} {c n : ℕ} {nx : List ℕ} → Listed list c n nx → (i : ℕ) → i < c → 0 < get_or nx (get_or list i 0) 0
listed_some {list} {nx = nx} I i h = let z = I.some i h in some_on (get_or nx (get_or list i 0) 0) z.0 z.2

pub listed_fits : {list : List ℕ} {c n : ℕ} {nx : List ℕ} → Listed list c n nx → c ≤ 1024
unfolding has_state
listed_fits {nx = nx} I = let z = ones-le (has_state nx) (λ i. omega arith) 1024 in let y = I.room in omega arith

module _ {list : List ℕ} {c n : ℕ} {nx : List ℕ} (I : Listed list c n nx) (r v : ℕ) (hr : r < 1024)
    (hn : r < n) (vs : (q : ℕ) × (q < 64) × On (digit v q)) (long : length nx ≡ 1024) where
  abbrev nx₁ : List ℕ
  nx₁ = set nx r (bit_or (get_or nx r 0) v)

  at_r : 0 < get_or nx₁ r 0
  at_r = rw (get_or-set_same nx r (bit_or (get_or nx r 0) v) 0 (omega arith)) (go (digit_of (bit_or (get_or nx r 0) v)))
    where
      go : Digit (bit_or (get_or nx r 0) v) → 0 < bit_or (get_or nx r 0) v
      go (is_on o) = o
      go (is_off e) = absurd (let z = or-none (get_or nx r 0) v e in let y = z.1 in let x = some_on v vs.0 vs.2 in omega arith)

  off_r : (a : ℕ) → (a ≡ r → ⊥) → get_or nx₁ a 0 ≡ get_or nx a 0
  off_r a h = get_or-set_other nx r a (bit_or (get_or nx r 0) v) 0 h

  state_r : (q : ℕ) × (q < 64) × On (digit (get_or nx₁ r 0) q)
  state_r = (vs.0, vs.1, rw (get_or-set_same nx r (bit_or (get_or nx r 0) v) 0 (omega arith), digit_or) (let z = vs.2 in omega arith))

  more_at : (a : ℕ) → (q : ℕ) × (q < 64) × On (digit (get_or nx a 0) q) → (q : ℕ) × (q < 64) × On (digit (get_or nx₁ a 0) q)
  more_at a o = go (ℕ_discrete a r)
    where
      go : Dec (a ≡ r) → (q : ℕ) × (q < 64) × On (digit (get_or nx₁ a 0) q)
      go (yes e) = rw e state_r
      go (no e) = rw (off_r a e) o

  grows : (a : ℕ) → has_state nx a ≤ has_state nx₁ a
  unfolding has_state
  grows a = go (ℕ_discrete a r)
    where
      go : Dec (a ≡ r) → min 1 (get_or nx a 0) ≤ min 1 (get_or nx₁ a 0)
      go (yes e) = rw e (let z = at_r in omega arith)
      go (no e) = let z = off_r a e in omega arith

  pub listed_old : 0 < get_or nx r 0 → Listed list c n nx₁
  listed_old o =
      record {
        small = I.small;
        some = λ i h. more_at (get_or list i 0) (I.some i h);
        all = λ a h. al a h (ℕ_discrete a r);
        apart = I.apart;
        room = (let z = I.room in let y = ones_most (has_state nx) (has_state nx₁) 1024 (λ i h. grows i) in omega arith);
      }
    where
      al : (a : ℕ) → 0 < get_or nx₁ a 0 → Dec (a ≡ r) → (i : ℕ) × (i < c) × (get_or list i 0 ≡ a)
      al a h (yes e) = I.all a (rw e o)
      al a h (no e) = I.all a (rw (off_r a e) at h)

  module _ (none : get_or nx r 0 ≡ 0) where
    room_more : c < ones_below (has_state nx₁) 1024
    unfolding has_state
    room_more =
        let z = I.room in
        let y : has_state nx r < has_state nx₁ r = (let w = at_r in omega arith) in
        let x = ones_less (has_state nx) (has_state nx₁) 1024 r (λ i h. grows i) hr y in
        omega arith

    pub list_room : c < 1024
    unfolding has_state
    list_room = let z = ones-le (has_state nx₁) (λ i. omega arith) 1024 in let y = room_more in omega arith

    pub listed_new : length list ≡ 1024 → Listed (set list c r) (c + 1) n nx₁
    listed_new ll =
        record {
          small = λ i h. sm i h (which i c);
          some = λ i h. so i h (which i c);
          all = λ a h. al a h (ℕ_discrete a r);
          apart = λ i j l h. ap' i j l h (which j c);
          room = (let z = room_more in omega arith);
        }
      where
        here_c : get_or (set list c r) c 0 ≡ r
        here_c = get_or-set_same list c r 0 (let z = list_room in omega arith)

        off_c : (i : ℕ) → i < c → get_or (set list c r) i 0 ≡ get_or list i 0
        off_c i h = get_or-set_other list c i r 0 (λ e. omega arith)

        sm : (i : ℕ) → i < c + 1 → Which i c → get_or (set list c r) i 0 < n
        sm i h (less f) = rw (off_c i f) (I.small i f)
        sm i h (same f) = rw (f, here_c) hn
        sm i h (more f) = absurd (omega arith)

        so : (i : ℕ) → i < c + 1 → Which i c → (q : ℕ) × (q < 64) × On (digit (get_or nx₁ (get_or (set list c r) i 0) 0) q)
        so i h (less f) = rw (off_c i f) (more_at (get_or list i 0) (I.some i f))
        so i h (same f) = rw (f, here_c) state_r
        so i h (more f) = absurd (omega arith)

        al : (a : ℕ) → 0 < get_or nx₁ a 0 → Dec (a ≡ r) → (i : ℕ) × (i < c + 1) × (get_or (set list c r) i 0 ≡ a)
        al a h (yes e) = (c, omega arith, here_c ∙ sym e)
        al a h (no e) = let z = I.all a (rw (off_r a e) at h) in (z.0, omega (arith, z.1), off_c z.0 z.1 ∙ z.2)

        ap' : (i j : ℕ) → i < j → j < c + 1 → Which j c → get_or (set list c r) i 0 ≡ get_or (set list c r) j 0 → ⊥
        ap' i j l h (less f) e = I.apart i j l f (sym (off_c i (omega arith)) ∙ e ∙ off_c j f)
        ap' i j l h (same f) e =
            let z : get_or list i 0 ≡ r = sym (off_c i (omega arith)) ∙ e ∙ ap (λ (t : ℕ). get_or (set list c r) t 0) f ∙ here_c in
            let y : 0 < get_or nx r 0 = rw z at (listed_some I i (omega arith)) in
            omega arith
        ap' i j l h (more f) e = omega arith

-- ---- the records queued, alone
pub listed_take : {list : List ℕ} {c n : ℕ} {nx : List ℕ} → Listed list c n nx → c ≤ length list → Listed (take c list) (length (take c list)) n nx
listed_take {list} {c} I h = rw (length-take-le c list h) (record {
  small = λ i l. rw (same_at i l) (I.small i l);
  some = λ i l. rw (same_at i l) (I.some i l);
  all = λ r o. (let z = I.all r o in (z.0, z.1, same_at z.0 z.1 ∙ z.2));
  apart = λ i j l g e. I.apart i j l g (sym (same_at i (omega arith)) ∙ e ∙ same_at j g);
  room = I.room;
})
  where
    same_at : (i : ℕ) → i < c → get_or (take c list) i 0 ≡ get_or list i 0
    same_at i l = get_or-take c list i 0 l

-- ---- an empty list
pub none_listed : {list : List ℕ} {c n : ℕ} {nx : List ℕ} → Listed list c n nx → c ≡ 0 → Zero nx
none_listed {nx = nx} I h r = go (digit_of (get_or nx r 0))
  where
    go : Digit (get_or nx r 0) → get_or nx r 0 ≡ 0
    go (is_off e) = e
    go (is_on o) = absurd (let z = I.all r o in let y = z.1 in omega arith)

-- ---- the level of one record
pub frontier_start : (k y v : ℕ) (cur : List ℕ) → 0 < k → y < 1024 → get_or cur y 0 ≡ v → ((r : ℕ) → (r ≡ y → ⊥) → get_or cur r 0 ≡ 0)
    → Frontier (replicate k y) (replicate k v) 1 cur
frontier_start k y v cur h g here off =
    record {
      small = λ i l. rw (get_or-replicate {A = ℕ} k i y 0 (omega arith)) g;
      at = λ i l. rw (get_or-replicate {A = ℕ} k i y 0 (omega arith), get_or-replicate {A = ℕ} k i v 0 (omega arith)) (sym here);
      all = λ r o. al r o (ℕ_discrete r y);
    }
  where
    al : (r : ℕ) → 0 < get_or cur r 0 → Dec (r ≡ y) → (i : ℕ) × (i < 1) × (get_or {A = ℕ} (replicate k y) i 0 ≡ r)
    al r o (yes e) = (0, omega arith, get_or-replicate {A = ℕ} k 0 y 0 (omega arith) ∙ sym e)
    al r o (no e) = absurd (let z = off r e in omega arith)
