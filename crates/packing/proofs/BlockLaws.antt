-- Laws of `fill_eight` and `fill`: the cells of a set, block by block.
--   raised_in, raised_out, raised_or
--                         bits moved up by b places
--   cells_in, cells_out   the cells of a set in the order of a tree's last level
--   to_more, to_none, to_row, to_all
--                         the first blocks of a set: empty ones add nothing; none; past the last of a row; all
--   block_none, block_inside, block_some
--                         the block at r and c: empty, within the square, put behind those before it
--   byte_none, eight_none
--                         a byte that none of the rows has; eight words of 0
--   turn_none, turn_some  a turn of the loop of `fill_eight`: an empty block, or one that is put in
-- Assumes nothing.
use mathlib.Core.Path.{◌≡◌, refl, sym, ap, ap₂, ◌∙◌, fun_ext}
use mathlib.Core.Bool.{Bool, true, false}
use mathlib.Core.List.{List}
use Prim.Native.Nat.{ℕ, ◌+◌, ◌-◌, ◌*◌, ◌/◌, ◌%◌, ◌^◌, ◌≤◌, ◌<◌, max}
use native.Mathlib.Nat.{mod-eq_of_lt}
use native.Mathlib.Decide.{dec_lt, ℕ_discrete}
use native.Mathlib.Omega.{arith}
use lib.Dec.{ltb}
use lib.ListN.{get_or}
use lib.Pow.{pow_mono, pow-add}
use borrow.Author.Tests.{le-leb, lt-leb, lt-ltb, le-ltb}
use Rattle.book.specs.Basics.{pick}
use Rattle.k2.specs.Bits.{digit, bit_at}
use Rattle.k2.specs.DigitLaws.{shifted, digit_big, digit_none}
use Rattle.k2.specs.BitLaws.{bit_in}
use Rattle.k2.specs.WordLaws.{shifted_in, shifted_out, digit_all}
use Rattle.k2.specs.PairSets.{Cells, IsSet}
use Rattle.k2.specs.Heap.{place, row_at, column_at, cells}
use Rattle.k2.specs.PlaceLaws.{place_lt, row_place, column_place, row_lt, column_lt, place_at, row_block, column_block}
use Rattle.bits.specs.BitSets.{either, none}
use Rattle.rows.specs.Rows.{flat}
use Rattle.packing.specs.Image.{Together, raised, blocks_to}
use Rattle.packing.proofs.StoreLaws.{byte_digit}

-- ---- raised and cells
module _ (b : ℕ) (f : ℕ → ℕ) (k : ℕ) where
  pub raised_in : b ≤ k → raised b f k ≡ f (k - b)
  unfolding raised
  raised_in l = rw (le-leb b k l)

  pub raised_out : k < b → raised b f k ≡ 0
  unfolding raised
  raised_out l = rw (lt-leb b k l)

pub raised_or : (b s v : ℕ) (f : ℕ → ℕ) → either (raised b f) (shifted (b + s) v) ≡ raised b (either f (shifted s v))
unfolding either
raised_or b s v f = fun_ext (λ k. go k (dec_lt k b) (dec_lt k (b + s)))
  where
    go : (k : ℕ) → Dec (k < b) → Dec (k < b + s) → max (raised b f k) (shifted (b + s) v k) ≡ raised b (λ p. max (f p) (shifted s v p)) k
    go k (yes a) c = rw (raised_out b f k a, shifted_out (b + s) v k (omega arith), raised_out b (λ p. max (f p) (shifted s v p)) k a) (omega arith)
    go k (no a) (yes c) =
        rw (
          raised_in b f k (omega arith),
          shifted_out (b + s) v k c,
          raised_in b (λ p. max (f p) (shifted s v p)) k (omega arith),
          shifted_out s v (k - b) (omega arith),
        ) refl
    go k (no a) (no c) =
        let e : k - (b + s) ≡ k - b - s = omega arith in
        rw (
          raised_in b f k (omega arith),
          shifted_in (b + s) v k (omega arith),
          raised_in b (λ p. max (f p) (shifted s v p)) k (omega arith),
          shifted_in s v (k - b) (omega arith),
          e,
        ) refl

module _ (h : ℕ) (a : Cells) (z : ℕ) where
  pub cells_in : z < 4 ^ h → cells h a z ≡ a (row_at h z) (column_at h z)
  unfolding cells
  cells_in l = rw (lt-ltb z (4 ^ h) l)

  pub cells_out : 4 ^ h ≤ z → cells h a z ≡ 0
  unfolding cells
  cells_out l = rw (le-ltb z (4 ^ h) l)

-- ---- the first blocks
module _ (a : Cells) (x y : ℕ) where
  to_in : (m : ℕ) → x / 8 * 128 + y / 8 < m → blocks_to m a x y ≡ a x y
  unfolding blocks_to
  to_in m l = rw (lt-ltb (x / 8 * 128 + y / 8) m l)

  to_out : (m : ℕ) → m ≤ x / 8 * 128 + y / 8 → blocks_to m a x y ≡ 0
  unfolding blocks_to
  to_out m l = rw (le-ltb (x / 8 * 128 + y / 8) m l)

  to_zero : (m : ℕ) → a x y ≡ 0 → blocks_to m a x y ≡ 0
  unfolding blocks_to
  to_zero m e = rw e (go (ltb (x / 8 * 128 + y / 8) m))
    where
      go : (b : Bool) → ◌≡◌ {A = ℕ} (pick b 0 0) 0
      go true = refl
      go false = refl

-- empty blocks add nothing
pub to_more : (a : Cells) (m n : ℕ) → m ≤ n → ((x y : ℕ) → m ≤ x / 8 * 128 + y / 8 → x / 8 * 128 + y / 8 < n → a x y ≡ 0) → blocks_to m a ≡ blocks_to n a
to_more a m n l z = fun_ext (λ x. fun_ext (λ y. go x y (dec_lt (x / 8 * 128 + y / 8) m) (dec_lt (x / 8 * 128 + y / 8) n)))
  where
    go : (x y : ℕ) → Dec (x / 8 * 128 + y / 8 < m) → Dec (x / 8 * 128 + y / 8 < n) → blocks_to m a x y ≡ blocks_to n a x y
    go x y (yes c) d = to_in a x y m c ∙ sym (to_in a x y n (omega arith))
    go x y (no c) (yes d) = let e = z x y (omega arith) d in to_zero a x y m e ∙ sym (to_zero a x y n e)
    go x y (no c) (no d) = to_out a x y m (omega arith) ∙ sym (to_out a x y n (omega arith))

pub to_none : (b h : ℕ) (a : Cells) → raised b (cells h (blocks_to 0 a)) ≡ none
unfolding none
to_none b h a = fun_ext (λ k. go k (dec_lt k b) (dec_lt (k - b) (4 ^ h)))
  where
    go : (k : ℕ) → Dec (k < b) → Dec (k - b < 4 ^ h) → raised b (cells h (blocks_to 0 a)) k ≡ 0
    go k (yes c) d = raised_out b (cells h (blocks_to 0 a)) k c
    go k (no c) (yes d) =
        raised_in b (cells h (blocks_to 0 a)) k (omega arith) ∙ cells_in h (blocks_to 0 a) (k - b) d
        ∙ to_out a (row_at h (k - b)) (column_at h (k - b)) 0 (omega arith)
    go k (no c) (no d) = raised_in b (cells h (blocks_to 0 a)) k (omega arith) ∙ cells_out h (blocks_to 0 a) (k - b) (omega arith)

-- ---- a set of pairs below 2 ^ (g + 3), 2 ^ g blocks to a side
module _ (g : ℕ) (gl : g ≤ 7) (a : Cells) (is : IsSet (2 ^ (g + 3)) a) where
  side : 2 ^ (g + 3) ≡ 8 * 2 ^ g
  side = rw (pow-add 2 g 3) (omega arith)

  few : 2 ^ g ≤ 128
  few = pow_mono {j = 7} gl

  -- past the last block of a row of blocks
  pub to_row : (r c : ℕ) → 2 ^ g ≤ c → c ≤ 128 → blocks_to (r * 128 + c) a ≡ blocks_to ((r + 1) * 128) a
  to_row r c h l =
      to_more a (r * 128 + c) ((r + 1) * 128) (omega arith)
      (λ x y p q. is.column x y (omega (arith, side, few)))

  pub to_all : blocks_to (2 ^ g * 128) a ≡ a
  to_all = fun_ext (λ x. fun_ext (λ y. go x y (dec_lt x (2 ^ (g + 3))) (dec_lt y (2 ^ (g + 3)))))
    where
      go : (x y : ℕ) → Dec (x < 2 ^ (g + 3)) → Dec (y < 2 ^ (g + 3)) → blocks_to (2 ^ g * 128) a x y ≡ a x y
      go x y (yes p) (yes q) = to_in a x y (2 ^ g * 128) (omega (arith, side, few))
      go x y (no p) q = let e = is.row x y (omega arith) in to_zero a x y (2 ^ g * 128) e ∙ sym e
      go x y (yes p) (no q) = let e = is.column x y (omega arith) in to_zero a x y (2 ^ g * 128) e ∙ sym e

  -- the block at r and c, with its cells row by row in the word v
  module _ (r c v : ℕ) (rl : r < 2 ^ g) (cl : c < 128) (vl : v < 2 ^ 64) (digits : (j : ℕ) → j < 64 → digit v j ≡ a (8 * r + j / 8) (8 * c + j % 8)) where
    pub block_none : v ≡ 0 → blocks_to (r * 128 + c) a ≡ blocks_to (r * 128 + c + 1) a
    block_none e =
        to_more a (r * 128 + c) (r * 128 + c + 1) (omega arith)
        (λ x y p q. go x y p q (dec_lt y 1024))
      where
        go : (x y : ℕ) → r * 128 + c ≤ x / 8 * 128 + y / 8 → x / 8 * 128 + y / 8 < r * 128 + c + 1 → Dec (y < 1024) → a x y ≡ 0
        go x y p q (no l) = is.column x y (omega (arith, side, few))
        go x y p q (yes l) =
            let j : ℕ = x % 8 * 8 + y % 8 in
            let ex : x ≡ 8 * r + j / 8 = omega arith in
            let ey : y ≡ 8 * c + j % 8 = omega arith in
            ap₂ a ex ey ∙ sym (digits j (omega arith)) ∙ ap (λ (w : ℕ). digit w j) e ∙ digit_none j

    pub block_inside : (v ≡ 0 → ⊥) → c < 2 ^ g
    block_inside n = go (dec_lt c (2 ^ g))
      where
        go : Dec (c < 2 ^ g) → c < 2 ^ g
        go (yes l) = l
        go (no l) = absurd (n (digit_all 64 v vl (λ j h. digits j h ∙ is.column (8 * r + j / 8) (8 * c + j % 8) (omega (arith, side)))))

  -- the same with its cells in the order of the tree
  module _ (r c v : ℕ) (rl : r < 2 ^ g) (vl : v < 2 ^ 64) (digits : (j : ℕ) → j < 64 → digit v j ≡ a (8 * r + row_at 3 j) (8 * c + column_at 3 j)) where
    pub block_some : c < 2 ^ g
        → either (cells (g + 3) (blocks_to (r * 128 + c) a)) (shifted (64 * place g r c) v) ≡ cells (g + 3) (blocks_to (r * 128 + c + 1) a)
    unfolding either
    block_some cg = fun_ext (λ z. go z (dec_lt z (4 ^ (g + 3))) (ℕ_discrete (z / 64) Z))
      where
        M : ℕ
        M = r * 128 + c

        Z : ℕ
        Z = place g r c

        Zl : Z < 4 ^ g
        Zl = place_lt g r c rl cg

        all : 4 ^ (g + 3) ≡ 64 * 4 ^ g
        all = rw (pow-add 4 g 3) (omega arith)

        far : (z : ℕ) → (z / 64 ≡ Z → ⊥) → shifted (64 * Z) v z ≡ 0
        far z n = by (dec_lt z (64 * Z))
          where
            by : Dec (z < 64 * Z) → shifted (64 * Z) v z ≡ 0
            by (yes l) = shifted_out (64 * Z) v z l
            by (no l) = shifted_in (64 * Z) v z (omega arith) ∙ digit_big 64 (z - 64 * Z) v vl (omega (arith, n))

        go : (z : ℕ) → Dec (z < 4 ^ (g + 3)) → Dec (z / 64 ≡ Z)
            → max (cells (g + 3) (blocks_to M a) z) (shifted (64 * Z) v z) ≡ cells (g + 3) (blocks_to (M + 1) a) z
        go z (no l) d =
            rw (
              cells_out (g + 3) (blocks_to M a) z (omega arith),
              cells_out (g + 3) (blocks_to (M + 1) a) z (omega arith),
              far z (λ e. omega (arith, all, Zl)),
            ) (omega arith)
        go z (yes l) d =
            rw (cells_in (g + 3) (blocks_to M a) z l, cells_in (g + 3) (blocks_to (M + 1) a) z l) (by d)
          where
            x : ℕ
            x = row_at (g + 3) z

            y : ℕ
            y = column_at (g + 3) z

            q : z / 64 < 4 ^ g
            q = omega (arith, all)

            ex : x ≡ 8 * row_at g (z / 64) + row_at 3 (z % 64)
            ex = row_block g z l

            ey : y ≡ 8 * column_at g (z / 64) + column_at 3 (z % 64)
            ey = column_block g z l

            lx : row_at 3 (z % 64) < 8
            lx = row_lt 3 (z % 64) (omega arith)

            ly : column_at 3 (z % 64) < 8
            ly = column_lt 3 (z % 64) (omega arith)

            by : Dec (z / 64 ≡ Z) → max (blocks_to M a x y) (shifted (64 * Z) v z) ≡ blocks_to (M + 1) a x y
            by (yes e) =
                let er : row_at g (z / 64) ≡ r = ap (row_at g) e ∙ row_place g r c rl cg in
                let ec : column_at g (z / 64) ≡ c = ap (column_at g) e ∙ column_place g r c rl cg in
                let s : z - 64 * Z ≡ z % 64 = omega arith in
                let w : digit v (z % 64) ≡ a x y = digits (z % 64) (omega arith) ∙ ap₂ a (omega (arith, ex, er)) (omega (arith, ey, ec)) in
                rw (
                  to_out a x y M (omega (arith, ex, ey, lx, ly)),
                  to_in a x y (M + 1) (omega (arith, ex, ey, lx, ly)),
                  shifted_in (64 * Z) v z (omega arith),
                  s,
                ) (omega arith)
            by (no n) = rw (far z n) (same (dec_lt (x / 8 * 128 + y / 8) M))
              where
                lc : column_at g (z / 64) < 2 ^ g
                lc = column_lt g (z / 64) q

                other : x / 8 * 128 + y / 8 ≡ M → ⊥
                other e =
                    let er : row_at g (z / 64) ≡ r = omega (arith, ex, ey, lx, ly, lc, few) in
                    let ec : column_at g (z / 64) ≡ c = omega (arith, ex, ey, lx, ly, lc, few) in
                    n (sym (place_at g (z / 64) q) ∙ ap₂ (place g) er ec)

                same : Dec (x / 8 * 128 + y / 8 < M) → max (blocks_to M a x y) 0 ≡ blocks_to (M + 1) a x y
                same (yes k) = rw (to_in a x y M k, to_in a x y (M + 1) (omega arith)) (omega arith)
                same (no k) = rw (to_out a x y M (omega arith), to_out a x y (M + 1) (omega (arith, other))) (omega arith)

-- of eight blocks from r and c on, the one of a row and a column
eight_of : (r c x y : ℕ) → c < 128 → c % 8 ≡ 0 → y < 128 → r * 128 + c ≤ x * 128 + y → x * 128 + y < r * 128 + c + 8 → (x ≡ r) × (c ≤ y) × (y < c + 8)
eight_of r c x y cl c8 yl p q = let s : x ≡ r = omega arith in (s, omega arith, omega arith)

-- ---- the block at r and c, from rows whose bits are the set a
module _ (rows : List ℕ) (a : Cells) (e : bit_at rows ≡ flat a) (r c : ℕ) (cl : c < 128) where
  abbrev i : ℕ
  i = r * 128 + c / 8

  row_cell : (j : ℕ) → j < 64 → digit (get_or rows (i + 16 * (j / 8)) 0) (8 * (c % 8) + j % 8) ≡ a (8 * r + j / 8) (8 * c + j % 8)
  unfolding flat
  row_cell j hj =
      let p : ℕ = (i + 16 * (j / 8)) * 64 + (8 * (c % 8) + j % 8) in
      let x : p / 1024 ≡ 8 * r + j / 8 = omega arith in
      let y : p % 1024 ≡ 8 * c + j % 8 = omega arith in
      sym (bit_in rows (i + 16 * (j / 8)) (8 * (c % 8) + j % 8) (omega arith)) ∙ ap (λ (f : ℕ → ℕ). f p) e ∙ ap₂ a x y

  -- a byte that none of the rows has
  pub byte_none : (w : ℕ) → Together rows i 16 8 w → w / 2 ^ (8 * (c % 8)) % 256 ≡ 0
      → (j : ℕ) → j < 64 → digit 0 j ≡ digit (get_or rows (i + 16 * (j / 8)) 0) (8 * (c % 8) + j % 8)
  byte_none w t z j l = digit_none j ∙ sym (t (8 * (c % 8) + j % 8) (j / 8) (omega arith) (byte_digit w (8 * (c % 8)) (j % 8) z (omega arith)))

  -- a turn: v is the block's word, w the same in the order of the tree
  module _ (g : ℕ) (gl : g ≤ 7) (is : IsSet (2 ^ (g + 3)) a) (rl : r < 2 ^ g) (base v : ℕ) (vl : v < 2 ^ 64)
      (dv : (j : ℕ) → j < 64 → digit v j ≡ digit (get_or rows (i + 16 * (j / 8)) 0) (8 * (c % 8) + j % 8)) (b : ℕ → ℕ)
      (before : b ≡ raised base (cells (g + 3) (blocks_to (r * 128 + c) a))) where
    digits_of : (j : ℕ) → j < 64 → digit v j ≡ a (8 * r + j / 8) (8 * c + j % 8)
    digits_of j l = dv j l ∙ row_cell j l

    pub turn_none : v ≡ 0 → b ≡ raised base (cells (g + 3) (blocks_to (r * 128 + c + 1) a))
    turn_none e = before ∙ ap (λ (s : Cells). raised base (cells (g + 3) s)) (block_none g gl a is r c v rl cl vl digits_of e)

    pub turn_some : (v ≡ 0 → ⊥) → (w z : ℕ) → w < 2 ^ 64 → ((j : ℕ) → j < 64 → digit w j ≡ digit v (8 * row_at 3 j + column_at 3 j))
        → z ≡ place g (r % 2 ^ g) (c % 2 ^ g) → (b' : ℕ → ℕ) → b' ≡ either b (shifted (base + 64 * z) w)
        → b' ≡ raised base (cells (g + 3) (blocks_to (r * 128 + c + 1) a))
    turn_some n w z wl dw ez b' e' =
        let cg = block_inside g gl a is r c v rl cl vl digits_of n in
        let z' : z ≡ place g r c = ez ∙ ap₂ (place g) (mod-eq_of_lt rl) (mod-eq_of_lt cg) in
        e' ∙ rw (before, z', raised_or base (64 * place g r c) w (cells (g + 3) (blocks_to (r * 128 + c) a)))
        (ap (raised base) (block_some g gl a is r c w rl wl tree cg))
      where
        tree : (j : ℕ) → j < 64 → digit w j ≡ a (8 * r + row_at 3 j) (8 * c + column_at 3 j)
        tree j l =
            let x = row_lt 3 j l in
            let y = column_lt 3 j l in
            let t : ℕ = 8 * row_at 3 j + column_at 3 j in
            let q : t / 8 ≡ row_at 3 j = omega arith in
            let s : t % 8 ≡ column_at 3 j = omega arith in
            dw j l ∙ digits_of t (omega arith) ∙ rw (q, s) refl

-- eight words of 0
pub eight_none : (rows : List ℕ) (a : Cells) → bit_at rows ≡ flat a → (r c g : ℕ) → c < 128 → c % 8 ≡ 0 → g ≤ 7 → IsSet (2 ^ (g + 3)) a
    → ((k : ℕ) → k < 8 → get_or rows (r * 128 + c / 8 + 16 * k) 0 ≡ 0) → blocks_to (r * 128 + c) a ≡ blocks_to (r * 128 + c + 8) a
eight_none rows a e r c g cl c8 gl is z =
    to_more a (r * 128 + c) (r * 128 + c + 8) (omega arith)
    (λ x y p q. go x y p q (dec_lt y 1024))
  where
    cell : (x y : ℕ) → y < 1024 → (x / 8 ≡ r) × (c ≤ y / 8) × (y / 8 < c + 8) → a x y ≡ 0
    cell x y l s =
        let d : ℕ = y / 8 in
        let w : d / 8 ≡ c / 8 = omega arith in
        let j : ℕ = x % 8 * 8 + y % 8 in
        let jq : j / 8 ≡ x % 8 = omega arith in
        let js : j % 8 ≡ y % 8 = omega arith in
        let ex : x ≡ 8 * r + j / 8 = omega arith in
        let ey : y ≡ 8 * d + j % 8 = omega arith in
        ap₂ a ex ey ∙ sym (row_cell rows a e r d (omega arith) j (omega arith))
        ∙ ap (λ (u : ℕ). digit u (8 * (d % 8) + j % 8)) (rw (w, jq) (z (x % 8) (omega arith))) ∙ digit_none (8 * (d % 8) + j % 8)

    go : (x y : ℕ) → r * 128 + c ≤ x / 8 * 128 + y / 8 → x / 8 * 128 + y / 8 < r * 128 + c + 8 → Dec (y < 1024) → a x y ≡ 0
    go x y p q (no l) = is.column x y (omega (arith, side g gl a is, few g gl a is))
    go x y p q (yes l) = cell x y l (eight_of r c (x / 8) (y / 8) cl c8 (omega arith) p q)
