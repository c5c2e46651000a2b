-- Laws of the full tree of squares, and of the groups that are not all 0.
--   full_length    how many bits the full tree of some squares has
--   above_law      a bit above the cells is the largest of the four below it
--   leaf_law       the last level is the cells
--   compacted_past  groups of 0 add nothing
--   full_above, full_cell, full_past
--                  the same of the full tree of one square, and that it has nothing past its end
--   full_tree      the groups of it that are not all 0 are the set's tree
--   full_bits      its bits are 0 and 1
-- Assumes nothing.
use Rattle.std.specs.Prelude.{◌≡◌, List, [], ◌∷◌, ◌++◌, map, length, get_or}
use Rattle.std.proofs.Math.Path.{refl, ap, fun_ext}
use Rattle.std.proofs.Common.{sym, ◌∙◌, append_assoc, append-nil, add-zero, add-suc, add_assoc, mul_comm, mul_assoc, add-mul, mod-lt, pow-suc, length-append}
use Rattle.std.proofs.Common.{get_or-append-add, pow_pos}
use Prim.Native.Nat.{ℕ, zero, suc, ◌+◌, ◌-◌, ◌*◌, ◌%◌, ◌^◌, ◌≤◌, ◌<◌, min, max}
use Rattle.std.proofs.Math.Nat.{mod-one}
use Rattle.std.proofs.Math.Decide.{dec_lt}
use native.Mathlib.Omega.{arith}
use Rattle.std.proofs.lemmas.List.{length-map}
use Rattle.std.proofs.Math.ListN.{get_or-append, get_or-eq_default}
use Rattle.k2.specs.Bits.{bits_of}
use Rattle.k2.specs.PairSets.{Cells}
use Rattle.k2.specs.Trees.{quadrant, filled, quarters, keep, keep_if, levels, tree_bits}
use Rattle.k2.specs.Trees.{quarter_of}
use Rattle.k2.specs.Heap.{full_levels, full, full_size, place, any_four, four_of, if_any, compacted}
use Rattle.k2.specs.NodeLaws.{map_at, half_lt, filled_lt, quarters_length, quarters_at, quadrant_cell, blank}

pub full_length : (h : ℕ) (qs : List Cells) → length (full_levels h qs) ≡ full_size h (length qs)
unfolding full_levels full_size
full_length zero qs = refl
full_length (suc h) qs = rw (length-append, length-map, full_length h (quarters h qs), quarters_length)

-- the first level, and those below it
first_at : (h : ℕ) (qs : List Cells) (i : ℕ) → i < 4 * length qs → bits_of (full_levels (suc h) qs) i ≡ filled h (get_or (quarters h qs) i blank)
unfolding full_levels
first_at h qs i l =
    get_or-append (map (filled h) (quarters h qs)) (full_levels h (quarters h qs)) 0 i (rw (length-map, quarters_length) l)
    ∙ map_at (filled h) (quarters h qs) i blank (rw quarters_length l)

first : (h : ℕ) (qs : List Cells) (j q : ℕ) → j < length qs → q < 4
    → bits_of (full_levels (suc h) qs) (4 * j + q) ≡ filled h (quadrant h q (get_or qs j blank))
first h qs j q l g = first_at h qs (4 * j + q) (omega arith) ∙ ap (filled h) (quarters_at h qs j q blank l g)

later : (h : ℕ) (qs : List Cells) (i : ℕ) → bits_of (full_levels (suc h) qs) (4 * length qs + i) ≡ bits_of (full_levels h (quarters h qs)) i
unfolding full_levels
later h qs i =
    let e : length (map (filled h) (quarters h qs)) ≡ 4 * length qs = rw (length-map, quarters_length) in
    rw (← e) (get_or-append-add (map (filled h) (quarters h qs)) (full_levels h (quarters h qs)) i 0)

any_four_eq : (f g : ℕ → ℕ) (p q : ℕ) → ((j : ℕ) → f (p + j) ≡ g (q + j)) → any_four f p ≡ any_four g q
any_four_eq f g p q e =
    let z : f p ≡ g q = ap f (sym (add-zero p)) ∙ e 0 ∙ ap g (add-zero q) in
    rw (z, e 1, e 2, e 3)

-- a bit above the cells is the largest of four
pub above_law : (h : ℕ) (qs : List Cells) (i : ℕ) → i < full_size h (length qs)
    → bits_of (full_levels (suc h) qs) i ≡ any_four (bits_of (full_levels (suc h) qs)) (4 * (length qs + i))
unfolding full_size filled
above_law zero qs i l = absurd (omega arith)
above_law (suc h) qs i l = go (above_law h (quarters (suc h) qs)) (dec_lt i (4 * length qs))
  where
    K : List Cells
    K = quarters (suc h) qs

    X : ℕ → ℕ
    X = bits_of (full_levels (suc (suc h)) qs)

    Y : ℕ → ℕ
    Y = bits_of (full_levels (suc h) K)

    down : (p : ℕ) → X (4 * length qs + p) ≡ Y p
    down p = later (suc h) qs p

    move : (i j : ℕ) → X (4 * (length qs + i) + j) ≡ Y (4 * i + j)
    move i j = let e : 4 * (length qs + i) + j ≡ 4 * length qs + (4 * i + j) = omega arith in ap X e ∙ down (4 * i + j)

    go : ((i : ℕ) → i < full_size h (length K) → Y i ≡ any_four Y (4 * (length K + i))) → Dec (i < 4 * length qs) → X i ≡ any_four X (4 * (length qs + i))
    go ih (yes g) =
        let kl : i < length K = rw quarters_length g in
        let y : (q : ℕ) → q < 4 → Y (4 * i + q) ≡ filled h (quadrant h q (get_or K i blank)) = λ q r. first h K i q kl r in
        let y₀ : Y (4 * i) ≡ filled h (quadrant h 0 (get_or K i blank)) = ap Y (sym (add-zero (4 * i))) ∙ y 0 (omega arith) in
        first_at (suc h) qs i g
        ∙ rw (← y₀, ← y 1 (omega arith), ← y 2 (omega arith), ← y 3 (omega arith)) refl
        ∙ sym (any_four_eq X Y (4 * (length qs + i)) (4 * i) (move i))
    go ih (no g) =
        let i' : ℕ = i - 4 * length qs in
        let e : i ≡ 4 * length qs + i' = omega arith in
        let kl : length K ≡ 4 * length qs = quarters_length (suc h) qs in
        let l' : i' < full_size h (length K) = rw kl (omega arith) in
        let a : 4 * (length K + i') ≡ 4 * i = omega arith in
        ap X e ∙ down i' ∙ ih i' l' ∙ ap (any_four Y) a ∙ sym (any_four_eq X Y (4 * (length qs + i)) (4 * i) (move i))

-- the last level is the cells
pub leaf_law : (h : ℕ) (qs : List Cells) (j x y : ℕ) → j < length qs → x < 2 ^ suc h → y < 2 ^ suc h
    → bits_of (full_levels (suc h) qs) (full_size h (length qs) + (j * 4 ^ suc h + place (suc h) x y)) ≡ min 1 (get_or qs j blank x y)
unfolding full_size place filled
leaf_law zero qs j x y l hx hy =
    let q : ℕ = quarter_of (2 ^ 0) x y in
    let ql : q < 4 = omega (arith, half_lt 0 x hx, half_lt 0 y hy) in
    let e : full_size 0 (length qs) + (j * 4 ^ 1 + place 1 x y) ≡ 4 * j + q = omega arith in
    ap (bits_of (full_levels 1 qs)) e ∙ first 0 qs j q l ql
    ∙ ap (min 1) (rw (mod-one, mod-one) at (quadrant_cell 0 (get_or qs j blank) x y hy))
leaf_law (suc h) qs j x y l hx hy =
    let q : ℕ = quarter_of (2 ^ suc h) x y in
    let ql : q < 4 = omega (arith, half_lt (suc h) x hx, half_lt (suc h) y hy) in
    let K = quarters (suc h) qs in
    let kl : length K ≡ 4 * length qs = quarters_length (suc h) qs in
    let P : ℕ = place (suc h) (x % 2 ^ suc h) (y % 2 ^ suc h) in
    let f : j * 4 ^ suc (suc h) + q * 4 ^ suc h ≡ (4 * j + q) * 4 ^ suc h = rw (pow-suc 4 (suc h)) (shift j q (4 ^ suc h)) in
    let e : full_size (suc h) (length qs) + (j * 4 ^ suc (suc h) + place (suc (suc h)) x y)
    ≡ 4 * length qs + (full_size h (length K) + ((4 * j + q) * 4 ^ suc h + P)) =
    rw kl (omega (arith, f)) in
    ap (bits_of (full_levels (suc (suc h)) qs)) e ∙ later (suc h) qs _
    ∙ leaf_law h K (4 * j + q) (x % 2 ^ suc h) (y % 2 ^ suc h) (omega arith) (mod-lt x (pow_pos (suc h))) (mod-lt y (pow_pos (suc h)))
    ∙ ap (min 1) (ap (λ (s : Cells). s (x % 2 ^ suc h) (y % 2 ^ suc h)) (quarters_at (suc h) qs j q blank l ql)
    ∙ quadrant_cell (suc h) (get_or qs j blank) x y hy)
  where
    shift : (j q x : ℕ) → j * (x * 4) + q * x ≡ (4 * j + q) * x
    shift j q x = rw (add-mul, ← mul_assoc) (omega (arith, mul_assoc 4 j x, mul_comm 4 (j * x)))

-- ---- the groups that are not all 0
-- as a function on lists
unfoldable compact : List ℕ → List ℕ
compact [] = []
compact (a ∷ []) = []
compact (a ∷ b ∷ []) = []
compact (a ∷ b ∷ c ∷ []) = []
compact (a ∷ b ∷ c ∷ d ∷ l) = if_any (max (max a b) (max c d)) (a ∷ b ∷ c ∷ d ∷ []) ++ compact l

-- of a level: the quarters of the squares that are not empty
compact_level : (h : ℕ) (qs : List Cells) (L : List ℕ)
    → compact (map (filled h) (quarters h qs) ++ L) ≡ map (filled h) (quarters h (keep (filled (suc h)) qs)) ++ compact L
unfolding quarters keep filled compact
compact_level h [] L = refl
compact_level h (a ∷ qs) L = go (filled (suc h) a) refl (compact_level h qs L)
  where
    F : ℕ → ℕ
    F q = filled h (quadrant h q a)

    go : (b : ℕ) → filled (suc h) a ≡ b → compact (map (filled h) (quarters h qs) ++ L) ≡ map (filled h) (quarters h (keep (filled (suc h)) qs)) ++ compact L
        → if_any (max (max (F 0) (F 1)) (max (F 2) (F 3))) (F 0 ∷ F 1 ∷ F 2 ∷ F 3 ∷ []) ++ compact (map (filled h) (quarters h qs) ++ L)
        ≡ map (filled h) (quarters h (keep_if b a (keep (filled (suc h)) qs))) ++ compact L
    go zero e ih = rw (e, ih)
    go (suc b) e ih = rw (e, ih)

-- an empty square has no quarters to keep
keep_quarters : (h : ℕ) (qs : List Cells) → keep (filled h) (quarters h (keep (filled (suc h)) qs)) ≡ keep (filled h) (quarters h qs)
unfolding quarters keep filled
keep_quarters h [] = refl
keep_quarters h (a ∷ qs) = go (filled (suc h) a) refl (keep_quarters h qs)
  where
    four : List Cells → List Cells
    four l = keep_if (filled h (quadrant h 0 a)) (quadrant h 0 a) (keep_if (filled h (quadrant h 1 a)) (quadrant h 1 a)
        (keep_if (filled h (quadrant h 2 a)) (quadrant h 2 a) (keep_if (filled h (quadrant h 3 a)) (quadrant h 3 a) l)))

    go : (b : ℕ) → filled (suc h) a ≡ b → keep (filled h) (quarters h (keep (filled (suc h)) qs)) ≡ keep (filled h) (quarters h qs)
        → keep (filled h) (quarters h (keep_if b a (keep (filled (suc h)) qs))) ≡ four (keep (filled h) (quarters h qs))
    go zero e ih =
        let z₀ : filled h (quadrant h 0 a) ≡ 0 = omega arith in
        let z₁ : filled h (quadrant h 1 a) ≡ 0 = omega arith in
        let z₂ : filled h (quadrant h 2 a) ≡ 0 = omega arith in
        let z₃ : filled h (quadrant h 3 a) ≡ 0 = omega arith in
        rw (z₀, z₁, z₂, z₃) ih
    go (suc b) e ih = ap four ih

compact_law : (h : ℕ) (qs : List Cells) → compact (full_levels h qs) ≡ levels h (keep (filled h) qs)
unfolding full_levels levels
compact_law zero qs = unfold compact in refl
compact_law (suc h) qs =
    compact_level h qs (full_levels h (quarters h qs))
    ∙ ap (λ (l : List ℕ). map (filled h) (quarters h (keep (filled (suc h)) qs)) ++ l)
    (compact_law h (quarters h qs) ∙ ap (levels h) (sym (keep_quarters h qs)))

-- as a loop finds them
from4 : (f : ℕ → ℕ) → ℕ → ℕ
from4 f p = f (4 + p)

compacted_front : (f : ℕ → ℕ) (n : ℕ) → compacted f (suc n) ≡ if_any (any_four f 0) (four_of f 0) ++ compacted (from4 f) n
unfolding compacted from4
compacted_front f zero = rw append-nil
compacted_front f (suc n) =
    ap (λ (l : List ℕ). l ++ if_any (any_four f (4 * suc n)) (four_of f (4 * suc n))) (compacted_front f n)
    ∙ append_assoc (if_any (any_four f 0) (four_of f 0)) (compacted (from4 f) n) (if_any (any_four f (4 * suc n)) (four_of f (4 * suc n)))
    ∙ ap (λ (l : List ℕ). if_any (any_four f 0) (four_of f 0) ++ (compacted (from4 f) n ++ l)) (rw (e, ← add_assoc, ← add_assoc, ← add_assoc) refl)
  where
    e : 4 * suc n ≡ 4 + 4 * n
    e = omega arith

drop4 : (a b c d : ℕ) (l : List ℕ) (p : ℕ) → get_or (a ∷ b ∷ c ∷ d ∷ l) (4 + p) 0 ≡ get_or l p 0
drop4 a b c d l p = get_or-append-add (a ∷ b ∷ c ∷ d ∷ []) l p 0

compacted_list : (n : ℕ) (xs : List ℕ) → length xs ≡ 4 * n → compacted (bits_of xs) n ≡ compact xs
unfolding compacted compact from4
compacted_list zero [] e = refl
compacted_list zero (x ∷ xs) e = absurd (omega arith)
compacted_list (suc n) [] e = absurd (omega arith)
compacted_list (suc n) (a ∷ []) e = absurd (omega arith)
compacted_list (suc n) (a ∷ b ∷ []) e = absurd (omega arith)
compacted_list (suc n) (a ∷ b ∷ c ∷ []) e = absurd (omega arith)
compacted_list (suc n) (a ∷ b ∷ c ∷ d ∷ l) e =
    compacted_front (bits_of (a ∷ b ∷ c ∷ d ∷ l)) n
    ∙ ap (λ (x : List ℕ). if_any (max (max a b) (max c d)) (a ∷ b ∷ c ∷ d ∷ []) ++ x)
    (ap (λ (f : ℕ → ℕ). compacted f n) (fun_ext {f = from4 (bits_of (a ∷ b ∷ c ∷ d ∷ l))} {g = bits_of l} (λ p. drop4 a b c d l p))
    ∙ compacted_list n l (omega arith))

-- groups of 0 add nothing
pub compacted_past : (f : ℕ → ℕ) (n d : ℕ) → ((p : ℕ) → 4 * n ≤ p → f p ≡ 0) → compacted f (n + d) ≡ compacted f n
unfolding compacted
compacted_past f n zero z = ap (compacted f) (add-zero n)
compacted_past f n (suc d) z = ap (compacted f) (add-suc n d) ∙ (
    rw (z (4 * (n + d)) (omega arith), z (4 * (n + d) + 1) (omega arith), z (4 * (n + d) + 2) (omega arith), z (4 * (n + d) + 3) (omega arith), append-nil)
    (compacted_past f n d z))

-- ---- of one square
module _ (h : ℕ) (a : Cells) where
  pub full_above : (i : ℕ) → i < full_size h 1 → full (suc h) a i ≡ any_four (full (suc h) a) (4 * (i + 1))
  unfolding full
  full_above i l = let e : 4 * (i + 1) ≡ 4 * (1 + i) = omega arith in above_law h (a ∷ []) i l ∙ ap (any_four (bits_of (full_levels (suc h) (a ∷ [])))) (sym e)

  pub full_cell : (x y : ℕ) → x < 2 ^ suc h → y < 2 ^ suc h → full (suc h) a (full_size h 1 + place (suc h) x y) ≡ min 1 (a x y)
  unfolding full
  full_cell x y hx hy =
      let e : full_size h 1 + place (suc h) x y ≡ full_size h 1 + (0 * 4 ^ suc h + place (suc h) x y) = omega arith in
      ap (bits_of (full_levels (suc h) (a ∷ []))) e ∙ leaf_law h (a ∷ []) 0 x y (omega arith) hx hy

  pub full_past : (p : ℕ) → full_size h 1 ≤ p → full h a p ≡ 0
  unfolding full
  full_past p l = get_or-eq_default (full_levels h (a ∷ [])) 0 (rw full_length l)

  pub full_tree : (n : ℕ) → full_size h 1 ≡ 4 * n → compacted (full h a) n ≡ tree_bits h a
  unfolding full tree_bits
  full_tree n e = compacted_list n (full_levels h (a ∷ [])) (full_length h (a ∷ []) ∙ e) ∙ compact_law h (a ∷ [])

full_bits_list : (h : ℕ) (qs : List Cells) (k : ℕ) → bits_of (full_levels h qs) k < 2
full_bits_list zero qs k = unfold full_levels in (omega arith)
full_bits_list (suc h) qs k = go (full_bits_list h (quarters h qs)) (dec_lt k (4 * length qs))
  where
    go : ((k : ℕ) → bits_of (full_levels h (quarters h qs)) k < 2) → Dec (k < 4 * length qs) → bits_of (full_levels (suc h) qs) k < 2
    go ih (yes l) = omega (arith, first_at h qs k l, filled_lt h (get_or (quarters h qs) k blank))
    go ih (no l) =
        let e : k ≡ 4 * length qs + (k - 4 * length qs) = omega arith in
        rw e (omega (arith, later h qs (k - 4 * length qs), ih (k - 4 * length qs)))

pub full_bits : (h : ℕ) (a : Cells) (k : ℕ) → full h a k < 2
unfolding full
full_bits h a k = full_bits_list h (a ∷ []) k
