-- Laws of `lift`: below place b, the bits of a full tree f come in from the last word to the first, and in the first word from the last group to the first.
--   above_in, above_out, above_all
--                  the bits from place b on
--   From w m       w has the bits of f from m on, and below b none before m
--   lift-word, lift_gap, lift_none, lift_some
--                  a word comes in; groups of 0; a group with no bit; one with some, which sets the bit above it
-- Assumes nothing.
use mathlib.Core.Path.{◌≡◌, refl, sym, ap, ◌∙◌, fun_ext}
use mathlib.Core.List.{List}
use Prim.Native.Nat.{ℕ, ◌+◌, ◌-◌, ◌*◌, ◌^◌, ◌≤◌, ◌<◌, min, max}
use native.Mathlib.Decide.{dec_lt, ℕ_discrete}
use native.Mathlib.Omega.{arith}
use lib.ListN.{get_or}
use borrow.Author.Tests.{le-leb, lt-leb}
use Rattle.k2.specs.Bits.{digit, bit_at}
use Rattle.k2.specs.DigitLaws.{shifted, digit_big}
use Rattle.k2.specs.BitLaws.{bit_in}
use Rattle.k2.specs.WordLaws.{shifted_in, shifted_out}
use Rattle.k2.specs.Heap.{any_four}
use Rattle.bits.specs.BitSets.{put, either, four_at, Gap}
use Rattle.bits.specs.BitSetLaws.{put_at, put_off}
use Rattle.packing.specs.Image.{above, Heaped}

module _ (b : ℕ) (f : ℕ → ℕ) (k : ℕ) where
  pub above_in : b ≤ k → above b f k ≡ f k
  unfolding above
  above_in l = rw (le-leb b k l)

  pub above_out : k < b → above b f k ≡ 0
  unfolding above
  above_out l = rw (lt-leb b k l)

pub above_all : (b : ℕ) (f : ℕ → ℕ) → above (min b 0) f ≡ f
above_all b f = fun_ext (λ k. above_in (min b 0) f k (omega arith))

module _ (b : ℕ) (f : ℕ → ℕ) (heap : Heaped b f) where
  -- the bits from place m on are there; w has those of f from m on, and below b none before m
  abbrev From : (ℕ → ℕ) → ℕ → Type 0
  From w m = w ≡ above (min b m) f

  here : (w : ℕ → ℕ) (m k : ℕ) → From w m → m ≤ k → w k ≡ f k
  here w m k e l = ap (λ (g : ℕ → ℕ). g k) e ∙ above_in (min b m) f k (omega arith)

  none : (w : ℕ → ℕ) (m k : ℕ) → From w m → k < b → k < m → w k ≡ 0
  none w m k e l h = ap (λ (g : ℕ → ℕ). g k) e ∙ above_out (min b m) f k (omega arith)

  cell : (w : ℕ → ℕ) (m k : ℕ) → From w m → b ≤ k → w k ≡ f k
  cell w m k e l = ap (λ (g : ℕ → ℕ). g k) e ∙ above_in (min b m) f k (omega arith)

  -- bits that are right from m on
  from : (w : ℕ → ℕ) (m : ℕ) → ((k : ℕ) → b ≤ k → w k ≡ f k) → ((k : ℕ) → k < b → m ≤ k → w k ≡ f k) → ((k : ℕ) → k < b → k < m → w k ≡ 0) → From w m
  from w m x y z = fun_ext (λ k. go k (dec_lt k b) (dec_lt k m))
    where
      go : (k : ℕ) → Dec (k < b) → Dec (k < m) → w k ≡ above (min b m) f k
      go k (no a) d = x k (omega arith) ∙ sym (above_in (min b m) f k (omega arith))
      go k (yes a) (no d) = y k a (omega arith) ∙ sym (above_in (min b m) f k (omega arith))
      go k (yes a) (yes d) = z k a d ∙ sym (above_out (min b m) f k (omega arith))

  four : (k : ℕ) → ((j : ℕ) → j < 4 → f (4 * (k + 1) + j) ≡ 0) → any_four f (4 * (k + 1)) ≡ 0
  four k z =
      let z₀ : f (4 * (k + 1)) ≡ 0 = let e : 4 * (k + 1) + 0 ≡ 4 * (k + 1) = omega arith in rw e at (z 0 (omega arith)) in
      omega (arith, z 1 (omega arith), z 2 (omega arith), z 3 (omega arith))

  -- groups of 0
  pub lift_gap : (w : ℕ → ℕ) (m n : ℕ) → m ≤ n → n ≤ 4 * (m + 1) → Gap w (4 * (m + 1)) (4 * (n + 1)) → From w n → From w m
  lift_gap w m n l h z e =
      from w m (λ k a. cell w n k e a) (λ k a c. go k a c (dec_lt k n)) (λ k a c. none w n k e a (omega arith))
    where
      go : (k : ℕ) → k < b → m ≤ k → Dec (k < n) → w k ≡ f k
      go k a c (no d) = here w n k e (omega arith)
      go k a c (yes d) =
          none w n k e a d
          ∙ sym (heap.upper k a ∙ four k (λ j g. sym (here w n (4 * (k + 1) + j) e (omega arith)) ∙ z (4 * (k + 1) + j) (omega arith) (omega arith)))

  -- the sixteen groups of word i
  module _ (ws : List ℕ) (i m v : ℕ) (em : m + 1 ≡ 16 * i) (pos : 1 ≤ i) (fits : get_or ws i 0 < 2 ^ 64)
      (summary : (j : ℕ) → digit v j ≡ any_four (digit (get_or ws i 0)) (4 * j)) (e : From (bit_at ws) (m + 16)) where
    -- digit j of the summary
    digit_of : (k : ℕ) → m ≤ k → k < m + 16 → digit v (k - m) ≡ any_four f (4 * (k + 1))
    digit_of k l h =
        let d : (s : ℕ) → s < 4 → digit (get_or ws i 0) (4 * (k - m) + s) ≡ f (4 * (k + 1) + s) =
        λ s g.
        let p : i * 64 + (4 * (k - m) + s) ≡ 4 * (k + 1) + s = omega arith in
        sym (bit_in ws i (4 * (k - m) + s) (omega arith)) ∙ ap (bit_at ws) p ∙ here (bit_at ws) (m + 16) (4 * (k + 1) + s) e (omega arith) in
        let d₀ : digit (get_or ws i 0) (4 * (k - m)) ≡ f (4 * (k + 1)) =
        let x : 4 * (k - m) + 0 ≡ 4 * (k - m) = omega arith in
        let y : 4 * (k + 1) + 0 ≡ 4 * (k + 1) = omega arith in
        rw (x, y) at (d 0 (omega arith)) in
        summary (k - m) ∙ rw (d₀, d 1 (omega arith), d 2 (omega arith), d 3 (omega arith)) refl

    far : (k : ℕ) → m + 16 ≤ k → digit v (k - m) ≡ 0
    far k l =
        let z : (p : ℕ) → 64 ≤ p → digit (get_or ws i 0) p ≡ 0 = λ p g. digit_big 64 p (get_or ws i 0) fits g in
        summary (k - m)
        ∙ omega (arith, z (4 * (k - m)) (omega arith), z (4 * (k - m) + 1) (omega arith), z (4 * (k - m) + 2) (omega arith), z (4 * (k - m) + 3) (omega arith))

    pub lift-word : From (either (bit_at ws) (shifted m v)) m
    unfolding either
    lift-word =
        from (either (bit_at ws) (shifted m v)) m
        (λ k a. rw (cell (bit_at ws) (m + 16) k e a) (past k a (dec_lt k m) (dec_lt k (m + 16))))
        (λ k a c. go k a c (dec_lt k (m + 16)))
        (λ k a c. rw (none (bit_at ws) (m + 16) k e a (omega arith), shifted_out m v k c) (omega arith))
      where
        past : (k : ℕ) → b ≤ k → Dec (k < m) → Dec (k < m + 16) → max (f k) (shifted m v k) ≡ f k
        past k a (yes c) d = rw (shifted_out m v k c) (omega arith)
        past k a (no c) (yes d) =
            rw (shifted_in m v k (omega arith), digit_of k (omega arith) d, four k (λ j g. heap.past (4 * (k + 1) + j) (omega arith))) (omega arith)
        past k a (no c) (no d) = rw (shifted_in m v k (omega arith), far k (omega arith)) (omega arith)

        go : (k : ℕ) → k < b → m ≤ k → Dec (k < m + 16) → max (bit_at ws k) (shifted m v k) ≡ f k
        go k a c (yes d) =
            rw (none (bit_at ws) (m + 16) k e a d, shifted_in m v k c, digit_of k c d) (omega (arith, heap.upper k a))
        go k a c (no d) = rw (here (bit_at ws) (m + 16) k e (omega arith), shifted_in m v k c, far k (omega arith)) (omega arith)

  -- one group of the first word
  module _ (w : ℕ → ℕ) (q : ℕ) (pos : 1 ≤ q) (e : From w q) where
    near : (j : ℕ) → w (4 * q + j) ≡ f (4 * q + j)
    near j = here w q (4 * q + j) e (omega arith)

    near₀ : w (4 * q) ≡ f (4 * q)
    near₀ = here w q (4 * q) e (omega arith)

    pub lift_none : four_at w (4 * q) ≡ 0 → From w (q - 1)
    unfolding four_at
    lift_none z =
        from w (q - 1) (λ k a. cell w q k e a) (λ k a c. go k a c (dec_lt k q)) (λ k a c. none w q k e a (omega arith))
      where
        zero_of : any_four f (4 * q) ≡ 0
        zero_of = omega (arith, near₀, near 1, near 2, near 3)

        go : (k : ℕ) → k < b → q - 1 ≤ k → Dec (k < q) → w k ≡ f k
        go k a c (no d) = here w q k e (omega arith)
        go k a c (yes d) =
            let s : 4 * (k + 1) ≡ 4 * q = omega arith in
            none w q k e a d ∙ sym (heap.upper k a ∙ ap (any_four f) s ∙ zero_of)

    pub lift_some : (four_at w (4 * q) ≡ 0 → ⊥) → From (put (q - 1) 1 w) (q - 1)
    unfolding four_at
    lift_some n =
        from (put (q - 1) 1 w) (q - 1)
        (λ k a. put_off (q - 1) 1 w k (λ c. omega (arith, below)) ∙ cell w q k e a)
        (λ k a c. go k a c (ℕ_discrete k (q - 1)))
        (λ k a c. put_off (q - 1) 1 w k (λ d. omega arith) ∙ none w q k e a (omega arith))
      where
        some : 1 ≤ any_four f (4 * q)
        some = omega (arith, n, near₀, near 1, near 2, near 3)

        below : q - 1 < b
        below = by (dec_lt (q - 1) b)
          where
            by : Dec (q - 1 < b) → q - 1 < b
            by (yes l) = l
            by (no l) =
                let p : (j : ℕ) → f (4 * q + j) ≡ 0 = λ j. heap.past (4 * q + j) (omega arith) in
                absurd (omega (arith, p 1, p 2, p 3, heap.past (4 * q) (omega arith), some))

        go : (k : ℕ) → k < b → q - 1 ≤ k → Dec (k ≡ q - 1) → put (q - 1) 1 w k ≡ f k
        go k a c (yes d) =
            let s : 4 * (k + 1) ≡ 4 * q = omega arith in
            ap (put (q - 1) 1 w) d ∙ put_at (q - 1) 1 w
            ∙ sym (heap.upper k a ∙ ap (any_four f) s ∙ omega (arith, some, rw (heap.upper k a ∙ ap (any_four f) s) at (heap.bit k)))
        go k a c (no d) = put_off (q - 1) 1 w k d ∙ here w q k e (omega (arith, d))
