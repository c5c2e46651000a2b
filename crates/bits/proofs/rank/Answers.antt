-- `rank` counts whole words and then a part of one (`ones_part`); past the end no bit is set (`ones_gap`). Assumes nothing.
use mathlib.Core.Path.{◌≡◌, ap, sym, ◌∙◌}
use mathlib.Core.List.{List}
use Prim.Native.Nat.{ℕ, ◌+◌, ◌*◌, ◌/◌, ◌%◌, ◌^◌, ◌≤◌}
use native.Mathlib.Omega.{arith}
use lib.Count.{ones}
use lib.ListN.{length, take, get_or}
use lib.Seq.{length-take-le}
use Rattle.k2.specs.Bits.{bit_at, ones_below}
use Rattle.k2.specs.DigitLaws.{one_shl}
use Rattle.k2.specs.BitLaws.{bit_lt, bit_out, bit_take, ones-le, ones_same, ones_gap, ones_part}
use Rattle.bits.proofs.rank.Goals as goal

pub returns-then-words-q : goal.returns-then-words-q
returns-then-words-q c =
    let ws = c.args.words.now in
    c.ones.ensures ∙ sym (ones_gap (bit_at ws) (length ws * 64) c.args.p (omega arith) (λ k a b. bit_out ws k (omega arith)))

-- the whole words and the last part, together
counted : (ws : List ℕ) (p o : ℕ) → p / 64 ≤ length ws → o ≡ ones_below (bit_at (take (p / 64) ws)) (length (take (p / 64) ws) * 64)
    → o + ones (get_or ws (p / 64) 0 % ((1 * 2 ^ (p % 64)) % 2 ^ 64)) ≡ ones_below (bit_at ws) p
counted ws p o h e =
    let s : p / 64 * 64 + p % 64 ≡ p = omega arith in
    let w : o ≡ ones_below (bit_at ws) (p / 64 * 64) =
    rw length-take-le at e ∙ ones_same _ (bit_at ws) (p / 64 * 64) (λ k l. bit_take (p / 64) ws k (omega arith)) in
    rw (one_shl (p % 64) (omega arith))
    (ap (λ (x : ℕ). x + ones (get_or ws (p / 64) 0 % 2 ^ (p % 64))) w
    ∙ sym (ones_part ws (p / 64) (p % 64) (omega arith)) ∙ ap (ones_below (bit_at ws)) s)

pub overflow_add-result : goal.overflow_add-result
overflow_add-result c =
    omega (arith, counted c.args.words.now c.args.p c.ones-2.result (omega arith) c.ones-2.ensures, ones-le _ (bit_lt c.args.words.now) c.args.p)

pub returns : goal.returns
returns c = counted c.args.words.now c.args.p c.ones-2.result (omega arith) c.ones-2.ensures
