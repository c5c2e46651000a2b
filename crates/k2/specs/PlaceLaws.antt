-- Laws of `place`: each place below 4 ^ h is that of one row and one column.
--   four_pos, place_lt  a place of a square of side 2 ^ h is below 4 ^ h
--   row_place, column_place
--                       the row and the column of a place are those that it was made of
--   row_lt, column_lt, place_at
--                       a place below 4 ^ h has a row and a column below 2 ^ h, and is theirs
--   place_step          one digit more, as a loop from the top finds it
--   row_step, column_step
--                       by the highest digit of a place
--   row_block, column_block
--                       by blocks of 8 × 8, whose 64 places follow one another
-- Assumes nothing.
use Rattle.std.specs.Prelude.{◌≡◌, refl, ℕ, zero, suc, ◌+◌, ◌*◌, ◌/◌, ◌%◌, ◌^◌, ◌<◌}
use Rattle.std.proofs.Common.{sym, ap, ◌∙◌, add-zero, mul_comm, mul_assoc, add-mul, mod-lt, div-add-mod', pow-suc, div-lt_iff_lt-mul, mod-eq_of_lt, arith}
use Rattle.std.proofs.Common.{pow_pos}
use Rattle.std.proofs.Math.Nat.{div-div-eq-div-mul, mul-add-div_right, mul-add-mod_self_right, div-eq_of_lt}
use Rattle.std.proofs.Math.Arith.{mod-mul}
use Rattle.std.proofs.Math.Pow.{field, mod-mod-pow}
use Rattle.k2.specs.Trees.{quarter_of}
use Rattle.k2.specs.Heap.{place, row_at, column_at}
use Rattle.k2.specs.NodeLaws.{half_lt, quarter_lt}

pub four_pos : (h : ℕ) → 0 < 4 ^ h
four_pos zero = omega arith
four_pos (suc h) = omega (arith, pow-suc 4 h, four_pos h)

-- a number q * s + p with p below s
high : (s q p : ℕ) → p < s → (q * s + p) / s ≡ q
high s q p l = mul-add-div_right {m = s} (omega arith) q p ∙ rw (div-eq_of_lt l) (add-zero q)

low : (s q p : ℕ) → p < s → (q * s + p) % s ≡ p
low s q p l = mul-add-mod_self_right q s p ∙ mod-eq_of_lt l

four_lt : (s q p : ℕ) → q < 4 → p < s → q * s + p < s * 4
four_lt s zero p h l = omega arith
four_lt s (suc zero) p h l = omega arith
four_lt s (suc (suc zero)) p h l = omega arith
four_lt s (suc (suc (suc zero))) p h l = omega arith
four_lt s (suc (suc (suc (suc q)))) p h l = absurd (omega arith)

two_lt : (s q p : ℕ) → q < 2 → p < s → q * s + p < s * 2
two_lt s zero p h l = omega arith
two_lt s (suc zero) p h l = omega arith
two_lt s (suc (suc q)) p h l = absurd (omega arith)

pub place_lt : (h x y : ℕ) → x < 2 ^ h → y < 2 ^ h → place h x y < 4 ^ h
unfolding place
place_lt zero x y hx hy = omega arith
place_lt (suc h) x y hx hy =
    rw (pow-suc 4 h)
    (four_lt (4 ^ h) (quarter_of (2 ^ h) x y) (place h (x % 2 ^ h) (y % 2 ^ h)) (quarter_lt h x y hx hy)
    (place_lt h (x % 2 ^ h) (y % 2 ^ h) (mod-lt x (pow_pos h)) (mod-lt y (pow_pos h))))

-- of a place the row and the column
module _ (h x y : ℕ) (hx : x < 2 ^ suc h) (hy : y < 2 ^ suc h) where
  top : place (suc h) x y / 4 ^ h ≡ quarter_of (2 ^ h) x y
  unfolding place
  top = high (4 ^ h) (quarter_of (2 ^ h) x y) _ (place_lt h (x % 2 ^ h) (y % 2 ^ h) (mod-lt x (pow_pos h)) (mod-lt y (pow_pos h)))

  rest : place (suc h) x y % 4 ^ h ≡ place h (x % 2 ^ h) (y % 2 ^ h)
  unfolding place
  rest = low (4 ^ h) (quarter_of (2 ^ h) x y) _ (place_lt h (x % 2 ^ h) (y % 2 ^ h) (mod-lt x (pow_pos h)) (mod-lt y (pow_pos h)))

pub row_place : (h x y : ℕ) → x < 2 ^ h → y < 2 ^ h → row_at h (place h x y) ≡ x
unfolding row_at
row_place zero x y hx hy = omega arith
row_place (suc h) x y hx hy =
    let e : quarter_of (2 ^ h) x y / 2 ≡ x / 2 ^ h = omega (arith, half_lt h y hy) in
    rw (top h x y hx hy, rest h x y hx hy, e, row_place h (x % 2 ^ h) (y % 2 ^ h) (mod-lt x (pow_pos h)) (mod-lt y (pow_pos h))) (div-add-mod' x (2 ^ h))

pub column_place : (h x y : ℕ) → x < 2 ^ h → y < 2 ^ h → column_at h (place h x y) ≡ y
unfolding column_at
column_place zero x y hx hy = omega arith
column_place (suc h) x y hx hy =
    let e : quarter_of (2 ^ h) x y % 2 ≡ y / 2 ^ h = omega (arith, half_lt h y hy) in
    rw (top h x y hx hy, rest h x y hx hy, e, column_place h (x % 2 ^ h) (y % 2 ^ h) (mod-lt x (pow_pos h)) (mod-lt y (pow_pos h))) (div-add-mod' y (2 ^ h))

quarter : (h z : ℕ) → z < 4 ^ suc h → z / 4 ^ h < 4
quarter h z l = (div-lt_iff_lt-mul {y = 4} (four_pos h)).1 (omega (arith, pow-suc 4 h))

pub row_lt : (h z : ℕ) → z < 4 ^ h → row_at h z < 2 ^ h
unfolding row_at
row_lt zero z l = omega arith
row_lt (suc h) z l =
    rw (pow-suc 2 h) (two_lt (2 ^ h) (z / 4 ^ h / 2) (row_at h (z % 4 ^ h)) (omega (arith, quarter h z l)) (row_lt h (z % 4 ^ h) (mod-lt z (four_pos h))))

pub column_lt : (h z : ℕ) → z < 4 ^ h → column_at h z < 2 ^ h
unfolding column_at
column_lt zero z l = omega arith
column_lt (suc h) z l =
    rw (pow-suc 2 h) (two_lt (2 ^ h) (z / 4 ^ h % 2) (column_at h (z % 4 ^ h)) (omega (arith, quarter h z l)) (column_lt h (z % 4 ^ h) (mod-lt z (four_pos h))))

pub place_at : (h z : ℕ) → z < 4 ^ h → place h (row_at h z) (column_at h z) ≡ z
unfolding place row_at column_at
place_at zero z l = omega arith
place_at (suc h) z l =
    let s : ℕ = 2 ^ h in
    let q : ℕ = z / 4 ^ h in
    let w : ℕ = z % 4 ^ h in
    let wl : w < 4 ^ h = mod-lt z (four_pos h) in
    let rl : row_at h w < s = row_lt h w wl in
    let cl : column_at h w < s = column_lt h w wl in
    rw (high s (q / 2) (row_at h w) rl, high s (q % 2) (column_at h w) cl, low s (q / 2) (row_at h w) rl, low s (q % 2) (column_at h w) cl, place_at h w wl)
    (let e : q / 2 * 2 + q % 2 ≡ q = omega arith in
    rw e (div-add-mod' z (4 ^ h)))

-- one digit more, as a loop from the top finds it
pub place_step : (k x y z : ℕ)
    → z * 4 ^ suc k + place (suc k) (x % 2 ^ suc k) (y % 2 ^ suc k) ≡ (z * 4 + x / 2 ^ k % 2 * 2 + y / 2 ^ k % 2) * 4 ^ k + place k (x % 2 ^ k) (y % 2 ^ k)
unfolding place
place_step k x y z =
    rw (digit x, digit y, rest_of x, rest_of y, pow-suc 4 k)
    (let w : ℕ = 4 ^ k in
    let a : ℕ = x / 2 ^ k % 2 * 2 + y / 2 ^ k % 2 in
    let s : z * 4 + x / 2 ^ k % 2 * 2 + y / 2 ^ k % 2 ≡ z * 4 + a = omega arith in
    let d : (z * 4 + x / 2 ^ k % 2 * 2 + y / 2 ^ k % 2) * w ≡ z * 4 * w + a * w = ap (λ (t : ℕ). t * w) s ∙ add-mul (z * 4) a w in
    let m : z * (w * 4) ≡ z * 4 * w = ap (λ (t : ℕ). z * t) (mul_comm w 4) ∙ sym (mul_assoc z 4 w) in
    omega (arith, d, m))
  where
    e : suc k ≡ 1 + k
    e = omega arith

    digit : (x : ℕ) → x % 2 ^ suc k / 2 ^ k ≡ x / 2 ^ k % 2
    digit x = rw e (field x 1 k)

    rest_of : (x : ℕ) → x % 2 ^ suc k % 2 ^ k ≡ x % 2 ^ k
    rest_of x = rw e (mod-mod-pow x 1 k)

-- the highest digit of a place
pub row_step : (h z : ℕ) → row_at (suc h) z ≡ z / 4 ^ h / 2 * 2 ^ h + row_at h (z % 4 ^ h)
unfolding row_at
row_step h z = refl

pub column_step : (h z : ℕ) → column_at (suc h) z ≡ z / 4 ^ h % 2 * 2 ^ h + column_at h (z % 4 ^ h)
unfolding column_at
column_step h z = refl

-- ---- blocks of 8 × 8: the places of a block follow one another, 64 of them
-- a place without its lowest three digits, and these
run : (g z : ℕ) → (z / 4 ^ suc (suc (suc g)) ≡ z / 64 / 4 ^ g) × (z % 4 ^ suc (suc (suc g)) / 64 ≡ z / 64 % 4 ^ g) × (z % 4 ^ suc (suc (suc g)) % 64 ≡ z % 64)
run g z =
    let n : 4 ^ suc (suc (suc g)) ≡ 4 ^ g * 64 = rw (pow-suc 4 (suc (suc g)), pow-suc 4 (suc g), pow-suc 4 g, mul_assoc, mul_assoc) refl in
    let m : z % (4 ^ g * 64) ≡ z / 64 % 4 ^ g * 64 + z % 64 = mod-mul z (four_pos g) (omega arith) in
    rw n (rw (mul_comm (4 ^ g) 64) (sym (div-div-eq-div-mul z 64 (4 ^ g))), rw m (omega arith), rw m (omega arith))

-- of rows and columns alike: `at` takes the digits of a place by t
module _ (at : ℕ → ℕ → ℕ) (t : ℕ → ℕ) (none : (z : ℕ) → at 0 z ≡ 0) (step : (h z : ℕ) → at (suc h) z ≡ t (z / 4 ^ h) * 2 ^ h + at h (z % 4 ^ h)) where
  block_of : (g z : ℕ) → z < 4 ^ suc (suc (suc g)) → at (suc (suc (suc g))) z ≡ 8 * at g (z / 64) + at 3 (z % 64)
  block_of zero z l =
      let e : z % 64 ≡ z = omega arith in
      rw (e, none (z / 64)) (omega arith)
  block_of (suc g) z l =
      let r = run g z in
      let w : ℕ = z % 4 ^ suc (suc (suc g)) in
      let q : ℕ = t (z / 64 / 4 ^ g) in
      let two : q * 2 ^ suc (suc (suc g)) ≡ q * 2 ^ g * 8 =
      rw (pow-suc 2 (suc (suc g)), pow-suc 2 (suc g), pow-suc 2 g, mul_assoc (2 ^ g) 2 2, mul_assoc (2 ^ g) 4 2) (sym (mul_assoc q (2 ^ g) 8)) in
      let ih : at (suc (suc (suc g))) w ≡ 8 * at g (z / 64 % 4 ^ g) + at 3 (z % 64) =
      block_of g w (mod-lt z (four_pos (suc (suc (suc g))))) ∙ rw (r.1, r.2) refl in
      step (suc (suc (suc g))) z ∙ rw (r.0, ih, two, step g (z / 64)) (omega arith)

pub row_block : (g z : ℕ) → z < 4 ^ (g + 3) → row_at (g + 3) z ≡ 8 * row_at g (z / 64) + row_at 3 (z % 64)
row_block g z l =
    let e : g + 3 ≡ suc (suc (suc g)) = omega arith in
    rw e (block_of row_at (λ q. q / 2) (λ z. unfold row_at in refl) row_step g z (rw e at l))

pub column_block : (g z : ℕ) → z < 4 ^ (g + 3) → column_at (g + 3) z ≡ 8 * column_at g (z / 64) + column_at 3 (z % 64)
column_block g z l =
    let e : g + 3 ≡ suc (suc (suc g)) = omega arith in
    rw e (block_of column_at (λ q. q % 2) (λ z. unfold column_at in refl) column_step g z (rw e at l))
