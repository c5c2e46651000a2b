-- Laws of the marks that a closure begins with: the records whose rows are not empty, the marks of the others, and their copy. Assumes nothing.
use mathlib.Core.Path.{◌≡◌, sym, ap, ◌∙◌}
use mathlib.Core.List.{List}
use Prim.Native.Nat.{ℕ, ◌+◌, ◌-◌, ◌*◌, ◌/◌, ◌%◌, ◌^◌, ◌<◌}
use native.Mathlib.Decide.{dec_lt, ℕ_discrete}
use native.Mathlib.Omega.{arith}
use lib.ListN.{length, get_or, set, length-set}
use Rattle.k2.specs.Bits.{digit, bit_at}
use Rattle.k2.specs.DigitLaws.{digit_not}
use Rattle.k2.specs.BitLaws.{bit_in, bit_set, bit_set_off}
use Rattle.bits.specs.BitSets.{put}
use Rattle.bits.specs.BitSetLaws.{put_at, put_off}
use Rattle.grid.specs.Steps.{empty_marks, Filled, Started}

-- ---- the records whose rows are not empty
pub filled_none : (ms : List ℕ) (f : ℕ → ℕ) → ((u : ℕ) → f u ≡ 0) → Filled 0 ms f
filled_none ms f z = record { all = λ u l. absurd (omega arith); past = λ u h. z u }

pub filled_more : (x : ℕ) (ms : List ℕ) (f : ℕ → ℕ) → Filled x ms f → Filled (x + 1) ms (put x 1 f)
filled_more x ms f F = record {
  all = λ u l e. all u l e (ℕ_discrete u x);
  past = λ u h. put_off x 1 f u (λ e. absurd (omega arith)) ∙ F.past u (omega arith);
}
  where
    all : (u : ℕ) → u < x + 1 → put x 1 f u ≡ 0 → Dec (u ≡ x) → get_or ms u 0 ≡ 0
    all u l e (yes d) = absurd (omega (arith, ap (put x 1 f) d ∙ put_at x 1 f, e))
    all u l e (no d) = F.all u (omega (arith, d)) (sym (put_off x 1 f u d) ∙ e)

pub filled_same : (x : ℕ) (ms : List ℕ) (f : ℕ → ℕ) → get_or ms x 0 ≡ 0 → Filled x ms f → Filled (x + 1) ms f
filled_same x ms f z F = record { all = λ u l e. all u l e (ℕ_discrete u x); past = λ u h. F.past u (omega arith) }
  where
    all : (u : ℕ) → u < x + 1 → f u ≡ 0 → Dec (u ≡ x) → get_or ms u 0 ≡ 0
    all u l e (yes d) = ap (λ (k : ℕ). get_or ms k 0) d ∙ z
    all u l e (no d) = F.all u (omega (arith, d)) e

-- ---- the marks to begin with
pub started_none : (f c : ℕ → ℕ) → ((u : ℕ) → c u ≡ 0) → Started 0 f c
started_none f c z = record { closed = λ u l. z u; empty = λ u l. absurd (omega arith) }

-- word k of the records written as a word of those seen and one of those empty
module _ (k : ℕ) (fs cs : List ℕ) (kl : k < 16) (cl : length cs ≡ 48) (fits : get_or fs k 0 < 2 ^ 64) where
  abbrev rest : ℕ
  rest = (2 ^ 64 - 1) - get_or fs k 0

  abbrev marked : List ℕ
  marked = set (set cs (16 + k) rest) (32 + k) rest

  pub marked_length : length marked ≡ 48
  marked_length = length-set (set cs (16 + k) rest) (32 + k) rest ∙ length-set cs (16 + k) rest ∙ cl

  pub started_word : Started (k * 64) (bit_at fs) (bit_at cs) → Started ((k + 1) * 64) (bit_at fs) (bit_at marked)
  started_word S = record {
    closed = λ u l. off u (λ q. absurd (omega arith)) (λ q. absurd (omega arith)) ∙ S.closed u l;
    empty = λ u l. empty u l (dec_lt u (k * 64));
  }
    where
      off : (p : ℕ) → (p / 64 ≡ 32 + k → ⊥) → (p / 64 ≡ 16 + k → ⊥) → bit_at marked p ≡ bit_at cs p
      off p h l = bit_set_off (set cs (16 + k) rest) (32 + k) rest p h ∙ bit_set_off cs (16 + k) rest p l

      empty : (u : ℕ) → u < (k + 1) * 64 → Dec (u < k * 64) → bit_at marked (empty_marks + u) ≡ 1 - bit_at fs u
      empty u l (yes h) = off (empty_marks + u) (λ q. absurd (omega arith)) (λ q. absurd (omega arith)) ∙ S.empty u h
      empty u l (no h) =
          let long : length (set cs (16 + k) rest) ≡ length cs = length-set cs (16 + k) rest in
          let i : (empty_marks + u) % 64 ≡ u % 64 = omega arith in
          let e : k * 64 + u % 64 ≡ u = omega arith in
          bit_set (set cs (16 + k) rest) (32 + k) rest (empty_marks + u) (omega arith) (omega arith)
          ∙ ap (digit rest) i ∙ digit_not 64 (u % 64) (get_or fs k 0) fits (omega arith)
          ∙ ap (λ (v : ℕ). 1 - v) (sym (bit_in fs k (u % 64) (omega arith)) ∙ ap (bit_at fs) e)

-- ---- the marks of empty rows copied, as far as record k
abbrev pub Copied : ℕ → (cs rs : List ℕ) → Type 0
Copied k cs rs = (u : ℕ) → u < k → bit_at rs u ≡ bit_at cs (empty_marks + u)

pub copied_word : (k : ℕ) (cs rs : List ℕ) → k < length rs → Copied (k * 64) cs rs → Copied ((k + 1) * 64) cs (set rs k (get_or cs (32 + k) 0))
copied_word k cs rs l C u h = go (ℕ_discrete (u / 64) k)
  where
    go : Dec (u / 64 ≡ k) → bit_at (set rs k (get_or cs (32 + k) 0)) u ≡ bit_at cs (empty_marks + u)
    go (yes q) =
        let e : (32 + k) * 64 + u % 64 ≡ empty_marks + u = omega arith in
        bit_set rs k (get_or cs (32 + k) 0) u l q ∙ sym (bit_in cs (32 + k) (u % 64) (omega arith)) ∙ ap (bit_at cs) e
    go (no q) = bit_set_off rs k (get_or cs (32 + k) 0) u q ∙ C u (omega (arith, q))
