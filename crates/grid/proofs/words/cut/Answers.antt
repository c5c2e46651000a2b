-- `cut` takes a remainder where the word reaches past n (`digit_mod`, `digit_past`). Assumes nothing.
use mathlib.Core.Path.{◌≡◌, sym, ◌∙◌}
use Prim.Native.Nat.{ℕ, ◌+◌, ◌-◌, ◌*◌, ◌%◌, ◌^◌, ◌<◌}
use native.Mathlib.Decide.{dec_lt}
use native.Mathlib.Omega.{arith}
use borrow.Author.Tests.{lt-ltb, le-ltb}
use lib.Dec.{ltb}
use Rattle.book.specs.Basics.{pick}
use Rattle.k2.specs.Bits.{digit}
use Rattle.k2.specs.DigitLaws.{digit_none, one_shl}
use Rattle.k2.specs.WordLaws.{digit_mod, digit_past}
use Rattle.grid.proofs.words.cut.Goals as goal

pub returns-then-n-at : goal.returns-then-n-at
returns-then-n-at c j h = let a = c.args in digit_none j ∙ sym (rw (le-ltb (a.c * 64 + j) a.n (omega arith)))

cut_at : (v l at n j : ℕ) → at + l ≡ n → digit (v % 2 ^ l) j ≡ pick (ltb (at + j) n) (digit v j) 0
cut_at v l at n j e = go (dec_lt j l)
  where
    go : Dec (j < l) → digit (v % 2 ^ l) j ≡ pick (ltb (at + j) n) (digit v j) 0
    go (yes h) = digit_mod l v j h ∙ sym (rw (lt-ltb (at + j) n (omega arith)))
    go (no h) = digit_past l v j (omega arith) ∙ sym (rw (le-ltb (at + j) n (omega arith)))

pub returns : goal.returns
returns c j h =
    let a = c.args in
    rw (one_shl (a.n - a.c * 64) (omega arith)) (cut_at a.word (a.n - a.c * 64) (a.c * 64) a.n j (omega arith))
