-- Laws of the work that the engines need.
--   width_le, width_wide, unit_le
--                  a row has at most 16 words, and a bit for each column; a relation has at most 16,384
--   rows_fit       the work of trees is enough for rows, if there are more than 32 records
--   rows_few       else rows need at most 1,024 words
-- Assumes nothing.
use Rattle.std.specs.Prelude.{◌≡◌, ℕ, suc, ◌+◌, ◌-◌, ◌*◌, ◌/◌, ◌^◌, ◌≤◌, ◌<◌}
use Rattle.std.proofs.Common.{sym, ap, ◌∙◌, pow-suc, mul_assoc, mul_comm, mul-le-mul, arith, pow_mono, pow_pos}
use Rattle.std.proofs.Math.Decide.{dec_lt}
use Rattle.book.specs.Causes.{max_records}
use Rattle.k2.specs.Trees.{height, tree_unit}
use Rattle.k2.specs.HeightLaws.{height_is}
use Rattle.paths.specs.Questions.{pairs_work, row_width, rows_work}

pub width_le : (n : ℕ) → n ≤ max_records → row_width n ≤ 16
width_le n h = omega arith

pub width_wide : (n : ℕ) → n ≤ row_width n * 64
width_wide n = omega arith

pub unit_le : (n : ℕ) → n ≤ max_records → n * row_width n ≤ 16384
unit_le n h = mul-le-mul {n₂ = 1024} {m₂ = 16} h (width_le n h)

-- ---- for more than 32 records the work of trees is enough for rows
six_up : (g : ℕ) → 2 ^ suc (suc (suc (suc (suc (suc g))))) ≡ 64 * 2 ^ g
six_up g =
    omega (
      arith,
      pow-suc 2 g,
      pow-suc 2 (suc g),
      pow-suc 2 (suc (suc g)),
      pow-suc 2 (suc (suc (suc g))),
      pow-suc 2 (suc (suc (suc (suc g)))),
      pow-suc 2 (suc (suc (suc (suc (suc g))))),
    )

pub rows_fit : (n : ℕ) → 32 < n → rows_work n ≤ pairs_work n
unfolding tree_unit
rows_fit n h = go (dec_lt (height n) 6)
  where
    wide : n ≤ 2 ^ height n
    wide = (height_is n).1

    fits : (u t s : ℕ) → s ≡ 64 * t → u ≤ 64 * t * t → 0 < t → 32 * u ≤ 32 * ((4 * (s * s - 1) / 3 + 63) / 64)
    fits u t s e l p =
        let a : 64 * t * t ≡ 64 * (t * t) = mul_assoc 64 t t in
        let q : s * s ≡ 4096 * (t * t) =
        ap (λ (k : ℕ). k * k) e ∙ mul_assoc 64 t (64 * t)
        ∙ ap (λ (k : ℕ). 64 * k) (sym (mul_assoc t 64 t) ∙ ap (λ (k : ℕ). k * t) (mul_comm t 64) ∙ mul_assoc 64 t t)
        ∙ sym (mul_assoc 64 64 (t * t)) in
        let o : 1 * 1 ≤ t * t = mul-le-mul p p in
        omega (arith, a, q, o, l)

    go : Dec (height n < 6) → rows_work n ≤ pairs_work n
    go (yes l) = absurd (let o : height n ≤ 5 = omega arith in let p : 2 ^ height n ≤ 2 ^ 5 = pow_mono o in omega (arith, p, wide))
    go (no l) =
        let e : height n ≡ suc (suc (suc (suc (suc (suc (height n - 6)))))) = omega arith in
        let s : 2 ^ height n ≡ 64 * 2 ^ (height n - 6) = ap (λ (k : ℕ). 2 ^ k) e ∙ six_up (height n - 6) in
        let w : (n + 63) / 64 ≤ 2 ^ (height n - 6) = omega (arith, s, wide) in
        let p : n * ((n + 63) / 64) ≤ 64 * 2 ^ (height n - 6) * 2 ^ (height n - 6) = mul-le-mul (omega (arith, s, wide)) w in
        fits (n * ((n + 63) / 64)) (2 ^ (height n - 6)) (2 ^ height n) s p (pow_pos (height n - 6))

pub rows_few : (n : ℕ) → n ≤ 32 → rows_work n ≤ 1024
rows_few n h = let p : n * row_width n ≤ 32 * 1 = mul-le-mul {n₂ = 32} {m₂ = 1} h (omega arith) in omega (arith, p)
