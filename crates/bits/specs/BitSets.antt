-- What the functions on bits make of a set of bits, a function from places to 0 and 1.
--   none             no bit
--   put p v f        f with v at place p
--   either f g, both f g, minus f g
--                    the bits of one or the other, of both, of the first and not the second
--   four_at f p       the four bits from place p on as a number, the lowest first
--   Gap f lo p       no bit from place lo to p - 1
--   Next f lo end r  r is the first place of a bit from lo on, or end if there is none before it
--   LowestTaken w p v
--                    p is the place of the lowest digit of the word w that is set, and v is w without it
--   TakesLowest w r v
--                    the same of an answer r: no place if w has no digit that is set
-- Assumes nothing: these are definitions.
use Rattle.std.specs.Prelude.{◌≡◌, ℕ, ◌+◌, ◌-◌, ◌*◌, ◌≤◌, ◌<◌, max, min, eqb, Option, None, Some}
use Rattle.book.specs.Basics.{pick}
use Rattle.k2.specs.Bits.{digit}

unfoldable pub none : ℕ → ℕ
none k = 0

unfoldable pub put : ℕ → ℕ → (ℕ → ℕ) → ℕ → ℕ
put p v f k = pick (eqb k p) v (f k)

unfoldable pub either : (ℕ → ℕ) → (ℕ → ℕ) → ℕ → ℕ
either f g k = max (f k) (g k)

unfoldable pub both : (ℕ → ℕ) → (ℕ → ℕ) → ℕ → ℕ
both f g k = min (f k) (g k)

unfoldable pub minus : (ℕ → ℕ) → (ℕ → ℕ) → ℕ → ℕ
minus f g k = f k - g k

unfoldable pub four_at : (ℕ → ℕ) → ℕ → ℕ
four_at f p = f p + 2 * f (p + 1) + 4 * f (p + 2) + 8 * f (p + 3)

abbrev pub Gap : (ℕ → ℕ) → ℕ → ℕ → Type 0
Gap f lo p = (k : ℕ) → lo ≤ k → k < p → f k ≡ 0

pub record Next (f : ℕ → ℕ) (lo end r : ℕ) : Type 0 where
  pub low : lo ≤ r
  pub high : r ≤ end
  pub gap : Gap f lo r
  pub hit : r < end → f r ≡ 1

pub record LowestTaken (w p v : ℕ) : Type 0 where
  pub small : p < 64
  pub hit : digit w p ≡ 1
  pub gap : Gap (digit w) 0 p
  pub left : digit v ≡ put p 0 (digit w)
  pub falls : v < w

abbrev pub TakesLowest : ℕ → Option ℕ → ℕ → Type 0
TakesLowest w None v = (w ≡ 0) × (v ≡ 0)
TakesLowest w (Some p) v = LowestTaken w p v
