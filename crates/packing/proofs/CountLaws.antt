-- The ones counted before each block of n words of a tree, and the child place found by them.
--   Counting n tree before₀ before m i
--                   the invariant of the loop: i words are passed, m is the number of their ones, and each count of a block that has begun is there
--   counting_none, counting_all
--                   at the start, at the end
--   counting_put, counting_past
--                   one word more: a block begins with it, or not
--   part_next       the words from word b on, to word q: one word more
--   child_end       the ones up to a place, from those before its word
-- Assumes nothing.
use Rattle.std.proofs.Common.{◌≡◌, refl, sym, ap, ap₂, ◌∙◌, List, ℕ, ◌+◌, ◌-◌, ◌*◌, ◌/◌, ◌%◌, ◌^◌, ◌≤◌, ◌<◌, length, get_or, set, take, drop, arith}
use Rattle.std.proofs.Common.{get_or-set_same, get_or-set_other, length-set, length-take, length-drop, get_or-take, get_or-drop, lt_of_lt_of_le}
use Rattle.std.proofs.Math.Nat.{div-mul-le_self, mul-div_cancel, mul-mod_left, div-lt_iff_lt-mul, lt_of_mul-lt-mul_right}
use Rattle.std.proofs.Math.Decide.{ℕ_discrete}
use Rattle.std.specs.Int.Count.{ones}
use Rattle.k2.specs.Bits.{bit_at, ones_below}
use Rattle.k2.specs.BitLaws.{ones_part, ones_word, ones_shl}
use Rattle.packing.specs.Reading.{Counted, CountAsked}

pub record Counting (n : ℕ) (tree before₀ before : List ℕ) (m i : ℕ) : Type 0 where
  pub inside : i ≤ length tree
  pub as_long : length before ≡ length before₀
  pub ones_are : m ≡ ones_below (bit_at tree) (i * 64)
  pub counts : (k : ℕ) → k * n < i → get_or before k 0 ≡ ones_below (bit_at tree) (k * n * 64)

module _ (n : ℕ) (tree before₀ : List ℕ) (A : CountAsked n tree before₀) where
  pub counting_none : Counting n tree before₀ before₀ 0 0
  unfolding ones_below
  counting_none = record { inside = omega arith; as_long = refl; ones_are = refl; counts = λ k h. absurd (omega (arith, h)) }

  -- the block of a word has its place
  pub block_in : (i : ℕ) → i < length tree → i / n < length before₀
  block_in i h = rw (sym A.places) at ((div-lt_iff_lt-mul A.some).1 (lt_of_lt_of_le h A.room))

  module _ {before : List ℕ} {m i : ℕ} (l : Counting n tree before₀ before m i) where
    pub counting_all : i ≡ length tree → Counted n tree before
    counting_all e k h = (
      rw (l.as_long, A.places) (lt_of_mul-lt-mul_right n (lt_of_lt_of_le h A.room)),
      l.counts k (omega (arith, e, h)),
    )

    module _ (less : i < length tree) (fits : get_or tree i 0 < 2 ^ 64) where
      next_ones : m + ones (get_or tree i 0) ≡ ones_below (bit_at tree) ((i + 1) * 64)
      next_ones = ap (λ (x : ℕ). x + ones (get_or tree i 0)) l.ones_are ∙ sym (ones_word tree i fits)

      pub counting_put : i % n ≡ 0 → Counting n tree before₀ (set before (i / n) m) (m + ones (get_or tree i 0)) (i + 1)
      counting_put z = record {
        inside = omega (arith, less);
        as_long = length-set before (i / n) m ∙ l.as_long;
        ones_are = next_ones;
        counts = λ k h. go k h (ℕ_discrete k (i / n));
      }
        where
          begins : i / n * n ≡ i
          begins = omega (arith, A.some)

          go : (k : ℕ) → k * n < i + 1 → Dec (k ≡ i / n) → get_or (set before (i / n) m) k 0 ≡ ones_below (bit_at tree) (k * n * 64)
          go k h (yes s) =
              ap (λ (j : ℕ). get_or (set before (i / n) m) j 0) s
              ∙ get_or-set_same before (i / n) m 0 (rw l.as_long (block_in i less)) ∙ l.ones_are
              ∙ ap (λ (j : ℕ). ones_below (bit_at tree) (j * 64)) (sym (ap (λ (j : ℕ). j * n) s ∙ begins))
          go k h (no s) =
              let other : k * n ≡ i → ⊥ = λ e. s (sym (mul-div_cancel k A.some) ∙ ap (λ (j : ℕ). j / n) e) in
              get_or-set_other before (i / n) k m 0 s ∙ l.counts k (omega (arith, h, other))

      pub counting_past : (i % n ≡ 0 → ⊥) → Counting n tree before₀ before (m + ones (get_or tree i 0)) (i + 1)
      counting_past z = record {
        inside = omega (arith, less);
        as_long = l.as_long;
        ones_are = next_ones;
        counts = λ k h.
            let other : k * n ≡ i → ⊥ = λ e. z (ap (λ (j : ℕ). j % n) (sym e) ∙ mul-mod_left k n) in
            l.counts k (omega (arith, h, other));
      }

module _ (ws : List ℕ) (b q k : ℕ) (inside : q < length ws) where
  pub part_next : (m : ℕ) → k < length (take (q - b) (drop b ws)) → get_or (take (q - b) (drop b ws)) k 0 < 2 ^ 64 → m ≡ ones_below (bit_at ws) ((b + k) * 64)
      → m + ones (get_or (take (q - b) (drop b ws)) k 0) ≡ ones_below (bit_at ws) ((b + (k + 1)) * 64)
  part_next m h f e =
      let l : k < q - b = omega (arith, length-take (q - b) (drop b ws)) in
      let w : get_or (take (q - b) (drop b ws)) k 0 ≡ get_or ws (b + k) 0 = get_or-take (q - b) (drop b ws) k 0 l ∙ get_or-drop b ws k 0 in
      ap₂ (λ (x y : ℕ). x + ones y) e w ∙ sym (ones_word ws (b + k) (rw w at f)) ∙ ap (λ (j : ℕ). ones_below (bit_at ws) (j * 64)) (omega arith)

  part_end : b ≤ q → k ≤ length (take (q - b) (drop b ws)) → length (take (q - b) (drop b ws)) ≤ k → b + k ≡ q
  part_end h g l = let e : length (take (q - b) (drop b ws)) ≡ q - b = simp (length-take, length-drop) (omega arith) in omega arith

child_count : (ws : List ℕ) (p m : ℕ) → m ≡ ones_below (bit_at ws) (p / 64 * 64)
    → m + ones ((get_or ws (p / 64) 0 * 2 ^ (63 - p % 64)) % 2 ^ 64) ≡ ones_below (bit_at ws) (p + 1)
child_count ws p m e =
    let j : p % 64 + 1 + (63 - p % 64) ≡ 64 = omega arith in
    let s : ones ((get_or ws (p / 64) 0 * 2 ^ (63 - p % 64)) % 2 ^ 64) ≡ ones (get_or ws (p / 64) 0 % 2 ^ (p % 64 + 1)) =
    rw j at (ones_shl (get_or ws (p / 64) 0) (p % 64 + 1) (63 - p % 64)) in
    let q : p / 64 * 64 + (p % 64 + 1) ≡ p + 1 = omega arith in
    ap₂ (λ (a b : ℕ). a + b) e s ∙ sym (ones_part ws (p / 64) (p % 64 + 1) (omega arith)) ∙ ap (ones_below (bit_at ws)) q

pub child_end : (ws : List ℕ) (n p k m : ℕ) (inside : p / 64 < length ws) → k ≤ length (take (p / 64 - p / 64 / n * n) (drop (p / 64 / n * n) ws))
    → length (take (p / 64 - p / 64 / n * n) (drop (p / 64 / n * n) ws)) ≤ k → m ≡ ones_below (bit_at ws) ((p / 64 / n * n + k) * 64)
    → m + ones ((get_or ws (p / 64) 0 * 2 ^ (63 - p % 64)) % 2 ^ 64) ≡ ones_below (bit_at ws) (p + 1)
child_end ws n p k m inside g l e =
    let b : ℕ = p / 64 / n * n in
    child_count ws p m (e ∙ ap (λ (j : ℕ). ones_below (bit_at ws) (j * 64)) (part_end ws b (p / 64) k inside (div-mul-le_self (p / 64) n) g l))
