-- Bits and 64-bit words. A set of bits is a function from places to 0 and 1.
--   digit w k       the binary digit k of the number w, the lowest being 0
--   bit_at ws p      bit p of a list of 64-bit words: bit 0 is the lowest of the first word; 0 past the end
--   bits_of bs p     the number at place p of a list of bits; 0 past the end
--   ones_below f n   the count of ones in the bits 0 to n - 1 of f
--   value n f       the number whose binary digits are the bits 0 to n - 1 of f
--   packed n f      n words that hold the bits of f
--   words_of bs      a list of bits as 64-bit words, as many as it fills; the unused high bits of the last are 0
-- Assumes nothing: these are definitions.
use Rattle.std.specs.Prelude.{List, [], ◌∷◌, ℕ, zero, suc, ◌+◌, ◌*◌, ◌/◌, ◌%◌, ◌^◌, length, get_or}

unfoldable pub digit : ℕ → ℕ → ℕ
digit w k = w / 2 ^ k % 2

unfoldable pub bit_at : List ℕ → ℕ → ℕ
bit_at ws p = digit (get_or ws (p / 64) 0) (p % 64)

abbrev pub bits_of : List ℕ → ℕ → ℕ
bits_of bs p = get_or bs p 0

unfoldable pub ones_below : (ℕ → ℕ) → ℕ → ℕ
ones_below f zero = 0
ones_below f (suc n) = ones_below f n + f n

-- f from its place n on
abbrev pub from : ℕ → (ℕ → ℕ) → ℕ → ℕ
from n f p = f (n + p)

unfoldable pub value : ℕ → (ℕ → ℕ) → ℕ
value zero f = 0
value (suc n) f = f 0 + 2 * value n (from 1 f)

unfoldable pub packed : ℕ → (ℕ → ℕ) → List ℕ
packed zero f = []
packed (suc n) f = value 64 f ∷ packed n (from 64 f)

unfoldable pub words_of : List ℕ → List ℕ
words_of bs = packed ((length bs + 63) / 64) (bits_of bs)
