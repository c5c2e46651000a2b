-- Laws of `compact_word` and `compact`: the groups that are not all 0, moved to the front.
--   compact_gap, compact_hit, any-hit
--                    groups of 0 add nothing; another group is put behind those at the front; a set bit makes its group not all 0
--   Left f i r w ws  the loop of `compact_word`: w holds what is left of word i from a group on, and r groups are at the front
--   left_start, left_more, left_end
--                    at the start of a word, one group more, the word used up
--   turns_less, turns_left
--                    a group less is left in each turn
--   compact_all_zero    four words of 0
--   compact_start, compact_end
--                    `compact`: at the start, and at the end, when the front is the words of the groups
--   power, trim_law  `trim`: the bits past the groups are cleared
-- Assumes nothing.
use mathlib.Core.Path.{◌≡◌, refl, sym, ap, ◌∙◌, fun_ext}
use mathlib.Core.List.{List, ◌++◌, append-nil}
use Prim.Native.Nat.{ℕ, zero, suc, ◌+◌, ◌-◌, ◌*◌, ◌/◌, ◌%◌, ◌^◌, ◌≤◌, ◌<◌, min}
use native.Mathlib.Nat.{add-zero, add-suc, lt_of_le_of_lt}
use native.Mathlib.Numerals.{add-one}
use native.Mathlib.Decide.{dec_lt, ℕ_discrete}
use native.Mathlib.Omega.{arith}
use lib.Dec.{ltb}
use lib.Count.{count_trailing_zeros}
use lib.ListN.{length, get_or, set, take, length-take, get_or-append, get_or-eq_default}
use lib.Pow.{shr-shr, shr_le, shr_lt}
use lib.Seq.{get_or-append-add, get_or-take}
use borrow.Author.Tests.{eq-eqb, ne_eqb, lt-ltb, le-ltb}
use Rattle.book.specs.Basics.{pick}
use Rattle.k2.specs.Bits.{digit, bit_at, bits_of, words_of}
use Rattle.k2.specs.DigitLaws.{one_shl, digit_add, digit_big, digit_none}
use Rattle.k2.specs.BitLaws.{Bits, bit_in, bit_lt, bit_out, bit_take, bit_set, bit_set_off, words_tell}
use Rattle.k2.specs.WordLaws.{digit_mod, digit_past, trailing_set, trailing_clear}
use Rattle.k2.specs.Heap.{any_four, four_of, if_any, compacted, groups}
use Rattle.k2.specs.SizeLaws.{compacted_length, groups_most}
use Rattle.bits.specs.BitSets.{Gap}
use Rattle.packing.specs.Image.{set_four, Compacting}

-- ---- one group
module _ (g v : ℕ) (f : ℕ → ℕ) (k : ℕ) where
  four_in : k / 4 ≡ g → set_four g v f k ≡ digit v (k % 4)
  unfolding set_four
  four_in e = rw (eq-eqb (k / 4) g e)

  four_off : (k / 4 ≡ g → ⊥) → set_four g v f k ≡ f k
  unfolding set_four
  four_off e = rw (ne_eqb (k / 4) g e)

-- groups of 0
zeros : (f : ℕ → ℕ) (a d : ℕ) → Gap f (4 * a) (4 * (a + d)) → (compacted f (a + d) ≡ compacted f a) × (groups f (a + d) ≡ groups f a)
unfolding compacted groups
zeros f a zero g = (ap (compacted f) (add-zero a), ap (groups f) (add-zero a))
zeros f a (suc d) g =
    let z : (j : ℕ) → j < 4 → f (4 * (a + d) + j) ≡ 0 = λ j l. g (4 * (a + d) + j) (omega arith) (omega arith) in
    let z₀ : f (4 * (a + d)) ≡ 0 = g (4 * (a + d)) (omega arith) (omega arith) in
    let ih = zeros f a d (λ k x y. g k x (omega arith)) in (
      ap (compacted f) (add-suc a d) ∙ rw (z₀, z 1 (omega arith), z 2 (omega arith), z 3 (omega arith), append-nil) ih.0,
      ap (groups f) (add-suc a d) ∙ rw (z₀, z 1 (omega arith), z 2 (omega arith), z 3 (omega arith)) (omega (arith, ih.1)),
    )

pub compact_gap : (f : ℕ → ℕ) (a b g : ℕ) (ws : List ℕ) → a ≤ b → Gap f (4 * a) (4 * b) → Compacting f a g ws → Compacting f b g ws
compact_gap f a b g ws l z s =
    let e : a + (b - a) ≡ b = omega arith in
    let t = zeros f a (b - a) (rw e z) in
    let x : compacted f b ≡ compacted f a = rw e at t.0 in
    let y : groups f b ≡ groups f a = rw e at t.1 in
    record { count = s.count ∙ sym y; front = λ k h. s.front k h ∙ ap (λ (u : List ℕ). bits_of u k) (sym x); rest = λ k h. s.rest k (omega arith) }

-- a group that is not all 0
module _ (f : ℕ → ℕ) (q g v : ℕ) (ws ws' : List ℕ) (some : 1 ≤ any_four f (4 * q)) (digits : (j : ℕ) → j < 4 → digit v j ≡ f (4 * q + j))
    (e : bit_at ws' ≡ set_four g v (bit_at ws)) (s : Compacting f q g ws) where
  at : (k : ℕ) → bit_at ws' k ≡ set_four g v (bit_at ws) k
  at k = ap (λ (h : ℕ → ℕ). h k) e

  below : g ≤ q
  below = omega (arith, s.count, groups_most f q)

  more : (compacted f (q + 1) ≡ compacted f q ++ four_of f (4 * q)) × (groups f (q + 1) ≡ groups f q + 1)
  unfolding compacted groups
  more = rw add-one (go (any_four f (4 * q)) some)
    where
      go : (b : ℕ) → 1 ≤ b → (compacted f q ++ if_any b (four_of f (4 * q)) ≡ compacted f q ++ four_of f (4 * q)) × (groups f q + min 1 b ≡ groups f q + 1)
      go zero h = absurd (omega arith)
      go (suc b) h = (refl, omega arith)

  wide : length (compacted f q) ≡ 4 * g
  wide = omega (arith, compacted_length f q, s.count)

  four_at : (j : ℕ) → j < 4 → get_or (four_of f (4 * q)) j 0 ≡ f (4 * q + j)
  four_at zero h = ap f (sym (add-zero (4 * q)))
  four_at (suc zero) h = refl
  four_at (suc (suc zero)) h = refl
  four_at (suc (suc (suc zero))) h = refl
  four_at (suc (suc (suc (suc j)))) h = absurd (omega arith)

  pub compact_hit : Compacting f (q + 1) (g + 1) ws'
  compact_hit =
      record {
        count = omega (arith, more.1, s.count);
        front = λ k h. put k h (dec_lt k (4 * g)) ∙ ap (λ (u : List ℕ). bits_of u k) (sym more.0);
        rest = λ k h. at k ∙ four_off g v (bit_at ws) k (λ c. omega (arith, below)) ∙ s.rest k (omega arith);
      }
    where
      put : (k : ℕ) → k < 4 * (g + 1) → Dec (k < 4 * g) → bit_at ws' k ≡ bits_of (compacted f q ++ four_of f (4 * q)) k
      put k h (yes d) =
          at k ∙ four_off g v (bit_at ws) k (λ c. omega arith) ∙ s.front k d ∙ sym (get_or-append (compacted f q) (four_of f (4 * q)) 0 k (rw wide d))
      put k h (no d) =
          let j : k ≡ length (compacted f q) + k % 4 = rw wide (omega arith) in
          at k ∙ four_in g v (bit_at ws) k (omega arith) ∙ digits (k % 4) (omega arith) ∙ sym (four_at (k % 4) (omega arith))
          ∙ sym (get_or-append-add (compacted f q) (four_of f (4 * q)) (k % 4) 0) ∙ ap (bits_of (compacted f q ++ four_of f (4 * q))) (sym j)

-- a set bit makes its group not all 0
pub any-hit : (f : ℕ → ℕ) (p : ℕ) → f p ≡ 1 → 1 ≤ any_four f (4 * (p / 4))
any-hit f p e = by (p % 4) refl
  where
    at : (j : ℕ) → p % 4 ≡ j → f (4 * (p / 4) + j) ≡ 1
    at j s = let y : 4 * (p / 4) + j ≡ p = omega arith in ap f y ∙ e

    by : (j : ℕ) → p % 4 ≡ j → 1 ≤ any_four f (4 * (p / 4))
    by zero s = let y : 4 * (p / 4) ≡ p = omega arith in let x : f (4 * (p / 4)) ≡ 1 = ap f y ∙ e in omega arith
    by (suc zero) s = omega (arith, at 1 s)
    by (suc (suc zero)) s = omega (arith, at 2 s)
    by (suc (suc (suc zero))) s = omega (arith, at 3 s)
    by (suc (suc (suc (suc j)))) s = absurd (omega arith)

-- ---- the loop of `compact_word`: w holds what is left of word i from group q on
pub record Left (f : ℕ → ℕ) (i r w : ℕ) (ws : List ℕ) : Type 0 where
  pub q : ℕ
  pub low : 16 * i ≤ q
  pub high : q ≤ 16 * (i + 1)
  pub compacting : Compacting f q r ws
  pub word : (j : ℕ) → digit w j ≡ pick (ltb (4 * q + j) (64 * (i + 1))) (f (4 * q + j)) 0

pub left_start : (f : ℕ → ℕ) (i g : ℕ) (ws : List ℕ) → get_or ws i 0 < 2 ^ 64 → Compacting f (16 * i) g ws → Left f i g (get_or ws i 0) ws
left_start f i g ws l s = record { q = 16 * i; low = omega arith; high = omega arith; compacting = s; word = λ j. go j (dec_lt j 64) }
  where
    go : (j : ℕ) → Dec (j < 64) → digit (get_or ws i 0) j ≡ pick (ltb (4 * (16 * i) + j) (64 * (i + 1))) (f (4 * (16 * i) + j)) 0
    go j (yes a) =
        let e : i * 64 + j ≡ 4 * (16 * i) + j = omega arith in
        rw (lt-ltb (4 * (16 * i) + j) (64 * (i + 1)) (omega arith)) (sym (bit_in ws i j a) ∙ ap (bit_at ws) e ∙ s.rest (4 * (16 * i) + j) (omega arith))
    go j (no a) = rw (le-ltb (4 * (16 * i) + j) (64 * (i + 1)) (omega arith)) (digit_big 64 j (get_or ws i 0) l (omega arith))

module _ (f : ℕ → ℕ) (i r w : ℕ) (ws : List ℕ) (wl : w < 2 ^ 64) (some : 0 < w) (n : Left f i r w ws) where
  abbrev t : ℕ
  t = count_trailing_zeros 64 w

  abbrev k : ℕ
  k = t / 4 * 4

  -- what a digit of w says
  reads : (j v : ℕ) → digit w j ≡ v → 4 * n.q + j < 64 * (i + 1) → f (4 * n.q + j) ≡ v
  reads j v e l = sym (n.word j ∙ rw (lt-ltb (4 * n.q + j) (64 * (i + 1)) l)) ∙ e

  inside : 4 * n.q + t < 64 * (i + 1)
  inside = go (dec_lt (4 * n.q + t) (64 * (i + 1)))
    where
      go : Dec (4 * n.q + t < 64 * (i + 1)) → 4 * n.q + t < 64 * (i + 1)
      go (yes l) = l
      go (no l) =
          let z : digit w t ≡ 0 = n.word t ∙ rw (le-ltb (4 * n.q + t) (64 * (i + 1)) (omega arith)) in
          absurd (omega (arith, trailing_set 64 w some wl))

  hit : f (4 * n.q + t) ≡ 1
  hit = reads t 1 (trailing_set 64 w some wl) inside

  pub left_more : (ws' : List ℕ) → bit_at ws' ≡ set_four r (w / 2 ^ k % 16) (bit_at ws) → Left f i (r + 1) (w / 2 ^ k / 2 ^ 4) ws'
  left_more ws' e =
      record {
        q = p + 1;
        low = omega (arith, n.low);
        high = omega (arith, inside);
        compacting = compact_hit f p r (w / 2 ^ k % 16) ws ws' some_of digits e (compact_gap f n.q p r ws (omega arith) gap n.compacting);
        word = λ j. rest j;
      }
    where
      p : ℕ
      p = n.q + t / 4

      gap : Gap f (4 * n.q) (4 * p)
      gap j a b =
          let s : j ≡ 4 * n.q + (j - 4 * n.q) = omega arith in
          ap f s ∙ reads (j - 4 * n.q) 0 (trailing_clear 64 w (j - 4 * n.q) (omega arith)) (omega (arith, inside))

      some_of : 1 ≤ any_four f (4 * p)
      some_of = let s : (4 * n.q + t) / 4 ≡ p = omega arith in rw s at (any-hit f (4 * n.q + t) hit)

      digits : (j : ℕ) → j < 4 → digit (w / 2 ^ k % 16) j ≡ f (4 * p + j)
      digits j l =
          let s : 4 * n.q + (k + j) ≡ 4 * p + j = omega arith in
          digit_mod 4 (w / 2 ^ k) j l ∙ sym (digit_add w k j) ∙ sym (reads (k + j) (digit w (k + j)) refl (omega (arith, inside))) ∙ ap f s

      rest : (j : ℕ) → digit (w / 2 ^ k / 2 ^ 4) j ≡ pick (ltb (4 * (p + 1) + j) (64 * (i + 1))) (f (4 * (p + 1) + j)) 0
      rest j =
          let s : 4 * n.q + (k + 4 + j) ≡ 4 * (p + 1) + j = omega arith in
          ap (λ (x : ℕ). digit x j) (shr-shr w k 4) ∙ sym (digit_add w (k + 4) j) ∙ n.word (k + 4 + j)
          ∙ ap (λ (x : ℕ). pick (ltb x (64 * (i + 1))) (f x) 0) s

-- the word is used up
pub left_end : (f : ℕ → ℕ) (i r w : ℕ) (ws : List ℕ) → w ≡ 0 → Left f i r w ws → Compacting f (16 * (i + 1)) r ws
left_end f i r w ws e n =
    compact_gap f n.q (16 * (i + 1)) r ws n.high
    (λ j a b.
    let s : j ≡ 4 * n.q + (j - 4 * n.q) = omega arith in
    rw s (sym (sym (ap (λ (x : ℕ). digit x (j - 4 * n.q)) e ∙ digit_none (j - 4 * n.q))
    ∙ n.word (j - 4 * n.q) ∙ rw (lt-ltb (4 * n.q + (j - 4 * n.q)) (64 * (i + 1)) (omega arith)))))
    n.compacting

-- a group less is left in each turn
pub turns_less : (w k d : ℕ) → 0 < d → w < 2 ^ (4 * d) → w / 2 ^ k / 2 ^ 4 < 2 ^ (4 * (d - 1))
turns_less w k d p l =
    let e : 4 * d ≡ 4 * (d - 1) + 4 = omega arith in
    shr_lt (4 * (d - 1)) 4 (lt_of_le_of_lt (shr_le w k) (rw e at l))

pub turns_left : (w d : ℕ) → 0 < w → w < 2 ^ (4 * d) → 0 < d
turns_left w zero p l = absurd (omega arith)
turns_left w (suc d) p l = omega arith

-- four words of 0
pub compact_all_zero : (f : ℕ → ℕ) (i g : ℕ) (ws : List ℕ) → ((j : ℕ) → i ≤ j → j < i + 4 → get_or ws j 0 ≡ 0)
    → Compacting f (16 * i) g ws → Compacting f (16 * (i + 4)) g ws
compact_all_zero f i g ws z s =
    compact_gap f (16 * i) (16 * (i + 4)) g ws (omega arith)
    (λ k a b. sym (s.rest k a) ∙ unfold bit_at in (rw (z (k / 64) (omega arith) (omega arith)) (digit_none (k % 64))))
    s

-- ---- the end of `compact`
pub compact_start : (ws : List ℕ) → Compacting (bit_at ws) (16 * 0) 0 ws
unfolding groups compacted
compact_start ws = record { count = refl; front = λ k h. absurd (omega arith); rest = λ k h. refl }

module _ (f : ℕ → ℕ) (n g : ℕ) (ws out : List ℕ) (s : Compacting f n g ws) (fits : (i : ℕ) → get_or out i 0 < 2 ^ 64) (long : g ≤ 16 * length out)
    (same : (p : ℕ) → p < 4 * g → bit_at out p ≡ bit_at ws p) (clear : (p : ℕ) → 4 * g ≤ p → p / 64 < (g + 15) / 16 → bit_at out p ≡ 0) where
  abbrev r : ℕ
  r = (g + 15) / 16

  whole_length : length (compacted f n) ≡ 4 * g
  whole_length = omega (arith, compacted_length f n, s.count)

  taken : length (take r out) ≡ r
  taken = rw length-take (omega (arith, long))

  pub compact_end : take r out ≡ words_of (compacted f n)
  compact_end =
      words_tell (take r out) (compacted f n) two (λ i. fit i (dec_lt i r))
      (omega (arith, taken, whole_length)) (fun_ext (λ p. at p (dec_lt (p / 64) r) (dec_lt p (4 * g))))
    where
      past : (p : ℕ) → 4 * g ≤ p → bits_of (compacted f n) p ≡ 0
      past p l = get_or-eq_default (compacted f n) 0 (rw whole_length l)

      two : Bits (bits_of (compacted f n))
      two k = by (dec_lt k (4 * g))
        where
          by : Dec (k < 4 * g) → bits_of (compacted f n) k < 2
          by (yes l) = rw (← s.front k l) (bit_lt ws k)
          by (no l) = rw (past k (omega arith)) (omega arith)

      fit : (i : ℕ) → Dec (i < r) → get_or (take r out) i 0 < 2 ^ 64
      fit i (yes l) = rw (get_or-take r out i 0 l) (fits i)
      fit i (no l) = rw (get_or-eq_default (take r out) 0 {n = i} (omega (arith, taken))) (omega arith)

      at : (p : ℕ) → Dec (p / 64 < r) → Dec (p < 4 * g) → bit_at (take r out) p ≡ bits_of (compacted f n) p
      at p (yes a) (yes b) = bit_take r out p a ∙ same p b ∙ s.front p b
      at p (yes a) (no b) = bit_take r out p a ∙ clear p (omega arith) a ∙ sym (past p (omega arith))
      at p (no a) b = bit_out (take r out) p (omega (arith, taken)) ∙ sym (past p (omega arith))

-- ---- trim
module _ (ws : List ℕ) (g : ℕ) (part : g % 16 ≡ 0 → ⊥) (long : g ≤ 16 * length ws) where
  abbrev u : ℕ
  u = 4 * (g % 16)

  abbrev cut : List ℕ
  cut = set ws (g / 16) (get_or ws (g / 16) 0 % ((1 * 2 ^ u) % 2 ^ 64))

  inner : g / 16 < length ws
  inner = omega (arith, part)

  pub power : (1 * 2 ^ u) % 2 ^ 64 ≡ 2 ^ u
  power = one_shl u (omega arith)

  pub trim_law : ((p : ℕ) → p < 4 * g → bit_at cut p ≡ bit_at ws p) × ((p : ℕ) → 4 * g ≤ p → p / 64 < (g + 15) / 16 → bit_at cut p ≡ 0)
  trim_law = (
    λ p l. keep p l (ℕ_discrete (p / 64) (g / 16)),
    λ p l h.
        let q : p / 64 ≡ g / 16 = omega (arith, part) in
        bit_set ws (g / 16) (get_or ws (g / 16) 0 % ((1 * 2 ^ u) % 2 ^ 64)) p inner q ∙ rw power (digit_past u (get_or ws (g / 16) 0) (p % 64) (omega arith)),
  )
    where
      keep : (p : ℕ) → p < 4 * g → Dec (p / 64 ≡ g / 16) → bit_at cut p ≡ bit_at ws p
      keep p l (no n) = bit_set_off ws (g / 16) (get_or ws (g / 16) 0 % ((1 * 2 ^ u) % 2 ^ 64)) p n
      keep p l (yes q) =
          bit_set ws (g / 16) (get_or ws (g / 16) 0 % ((1 * 2 ^ u) % 2 ^ 64)) p inner q
          ∙ rw power (digit_mod u (get_or ws (g / 16) 0) (p % 64) (omega arith) ∙ unfold bit_at in (rw q refl))
