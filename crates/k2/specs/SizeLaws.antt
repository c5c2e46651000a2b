-- Laws of sizes: those of `full_size` and of `compacted`, and that D is the words of a full tree.
--   full_size_last, full_size_four, full_size_power, full_size_next
--                  the bits of a full tree: level by level, in fours, as a power, with one level more
--   square_power, four_most, full_size_most, full_size_side
--                  for sides of at most 1,024: how many cells and bits at most; the bits by the side's square
--   tree_unit_size, tree_unit_some, tree_unit_most, tree_unit_mono
--                  D is the words of a full tree, at least 1, at most 21,846, and not more for fewer records
--   compacted_length, groups_most
--                  the groups that are not all 0: their bits, and that they are no more than all
--   tree_bits_most, tree_words_most
--                  a tree is no longer than a full one, nor its words than D
-- Assumes nothing.
use Rattle.std.specs.Prelude.{◌≡◌, ℕ, zero, suc, ◌+◌, ◌-◌, ◌*◌, ◌/◌, ◌%◌, ◌^◌, ◌≤◌, min, length}
use Rattle.std.proofs.Math.Path.{refl}
use Rattle.std.proofs.Common.{sym, ap, ◌∙◌, mul_comm, mul_assoc, mul-le-mul, pow-suc, arith, length-append, pow_mono}
use Rattle.k2.specs.Sizes.{most_tree_bits, most_tree_words}
use Rattle.k2.specs.PairSets.{Cells}
use Rattle.k2.specs.Trees.{height, tree_bits, tree_words, tree_unit}
use Rattle.k2.specs.Heap.{full_size, full, any_four, four_of, if_any, compacted, groups}
use Rattle.k2.specs.HeightLaws.{height_is, height_most}
use Rattle.k2.specs.PlaceLaws.{four_pos}
use Rattle.k2.specs.BitLaws.{words_length}
use Rattle.k2.specs.HeapLaws.{full_tree}

-- ---- the bits of a full tree
pub full_size_last : (h k : ℕ) → full_size (suc h) k ≡ full_size h k + k * 4 ^ suc h
unfolding full_size
full_size_last zero k = omega arith
full_size_last (suc h) k =
    let e : 4 * k * 4 ^ suc h ≡ k * 4 ^ suc (suc h) =
    rw (pow-suc 4 (suc h)) (ap (λ (x : ℕ). x * 4 ^ suc h) (mul_comm 4 k) ∙ mul_assoc k 4 (4 ^ suc h) ∙ ap (λ (x : ℕ). k * x) (mul_comm 4 (4 ^ suc h))) in
    omega (arith, full_size_last h (4 * k), e)

pub full_size_four : (h k : ℕ) → full_size h k % 4 ≡ 0
unfolding full_size
full_size_four zero k = refl
full_size_four (suc h) k = omega (arith, full_size_four h (4 * k))

pub full_size_power : (h : ℕ) → 3 * full_size h 1 + 4 ≡ 4 * 4 ^ h
full_size_power zero = unfold full_size in refl
full_size_power (suc h) = omega (arith, full_size_power h, full_size_last h 1, pow-suc 4 h)

-- one level more below each square
pub full_size_next : (h : ℕ) → 4 * full_size h 1 + 4 ≡ full_size (suc h) 1
full_size_next h = omega (arith, full_size_power h, full_size_power (suc h), pow-suc 4 h)

pub square_power : (h : ℕ) → 2 ^ h * 2 ^ h ≡ 4 ^ h
square_power zero = refl
square_power (suc h) =
    let x : ℕ = 2 ^ h in
    let e : x * 2 * (x * 2) ≡ x * x * 4 =
    mul_assoc x 2 (x * 2) ∙ ap (λ (t : ℕ). x * t) (mul_comm 2 (x * 2) ∙ mul_assoc x 2 2) ∙ sym (mul_assoc x x 4) in
    rw (pow-suc 2 h, pow-suc 4 h, e, square_power h)

pub four_most : (h : ℕ) → h ≤ 10 → 4 ^ h ≤ 1048576
four_most h l =
    let s : 2 ^ h ≤ 1024 = pow_mono {j = 10} l in
    let t : 2 ^ h * 2 ^ h ≤ 1024 * 1024 = mul-le-mul s s in
    rw (← square_power h) t

pub full_size_most : (h : ℕ) → h ≤ 10 → full_size h 1 ≤ most_tree_bits
full_size_most h l = omega (arith, full_size_power h, four_most h l)

pub full_size_side : (h : ℕ) → 4 * (2 ^ h * 2 ^ h - 1) / 3 ≡ full_size h 1
full_size_side h = rw (square_power h) (omega (arith, full_size_power h))

-- D
pub tree_unit_size : (n : ℕ) → tree_unit n ≡ (full_size (height n) 1 + 63) / 64
unfolding tree_unit
tree_unit_size n = rw (full_size_side (height n))

pub tree_unit_some : (n : ℕ) → 1 ≤ tree_unit n
tree_unit_some n = omega (arith, tree_unit_size n, full_size_power (height n), four_some (height n) (height_is n).0)
  where
    four_some : (h : ℕ) → 1 ≤ h → 4 ≤ 4 ^ h
    four_some zero l = absurd (omega arith)
    four_some (suc h) l = omega (arith, pow-suc 4 h, four_pos h)

pub tree_unit_most : (n : ℕ) → n ≤ 1024 → tree_unit n ≤ most_tree_words
tree_unit_most n l = omega (arith, tree_unit_size n, full_size_most (height n) (height_most n l))

-- of fewer records it is not more
pub tree_unit_mono : (m n : ℕ) → m ≤ n → tree_unit m ≤ tree_unit n
tree_unit_mono m n l =
    let k : height m ≤ height n = (height_is m).2 (height n) (height_is n).0 (omega (arith, (height_is n).1)) in
    omega (arith, tree_unit_size m, tree_unit_size n, full_size_power (height m), full_size_power (height n), four_mono (height m) (height n) k)
  where
    four_mono : (h j : ℕ) → h ≤ j → 4 ^ h ≤ 4 ^ j
    four_mono h j k =
        let s : 2 ^ h ≤ 2 ^ j = pow_mono k in
        let t : 2 ^ h * 2 ^ h ≤ 2 ^ j * 2 ^ j = mul-le-mul s s in
        rw (← square_power h, ← square_power j) t

-- ---- the groups that are not all 0
if_any_length : (b : ℕ) (f : ℕ → ℕ) (p : ℕ) → length (if_any b (four_of f p)) ≡ 4 * min 1 b
if_any_length zero f p = refl
if_any_length (suc b) f p = omega arith

pub compacted_length : (f : ℕ → ℕ) (n : ℕ) → length (compacted f n) ≡ 4 * groups f n
unfolding compacted groups
compacted_length f zero = refl
compacted_length f (suc n) = rw (length-append, compacted_length f n, if_any_length (any_four f (4 * n)) f (4 * n)) (omega arith)

pub groups_most : (f : ℕ → ℕ) (n : ℕ) → groups f n ≤ n
unfolding groups
groups_most f zero = omega arith
groups_most f (suc n) = omega (arith, groups_most f n)

-- a tree is no longer than a full one
pub tree_bits_most : (h : ℕ) (a : Cells) → length (tree_bits h a) ≤ full_size h 1
tree_bits_most h a =
    let n : ℕ = full_size h 1 / 4 in
    let e : full_size h 1 ≡ 4 * n = omega (arith, full_size_four h 1) in
    let s : length (tree_bits h a) ≡ 4 * groups (full h a) n = ap length (sym (full_tree h a n e)) ∙ compacted_length (full h a) n in
    omega (arith, groups_most (full h a) n)

pub tree_words_most : (n : ℕ) (a : Cells) → length (tree_words n a) ≤ tree_unit n
unfolding tree_words
tree_words_most n a = omega (arith, words_length (tree_bits (height n) a), tree_bits_most (height n) a, tree_unit_size n)
