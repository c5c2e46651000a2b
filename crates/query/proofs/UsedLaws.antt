-- The records in use, one after the other: none, one more, a withdrawn one. Assumes nothing.
use mathlib.Core.Path.{◌≡◌, sym, ap, ◌∙◌, fun_ext}
use mathlib.Core.Bool.{Bool, true, false, not, ◌&&◌}
use mathlib.Core.List.{List}
use Prim.Native.Nat.{ℕ, ◌+◌, ◌<◌}
use native.Mathlib.Decide.{dec_lt, ℕ_discrete}
use native.Mathlib.Omega.{arith}
use lib.Dec.{ltb}
use borrow.Author.Tests.{lt-ltb, le-ltb}
use Rattle.book.specs.Basics.{bit}
use Rattle.bits.specs.BitSets.{none, put}
use Rattle.bits.specs.BitSetLaws.{put_at, put_off}
use Rattle.register.specs.Marks.{withdrawn_mark, has_mark}
use Rattle.query.specs.Evaluation.{used_below}

pub used_none : (ms : List ℕ) → used_below 0 ms ≡ none
unfolding used_below none
used_none ms = fun_ext (λ x. rw (le-ltb x 0 (omega arith)))

module _ (ms : List ℕ) (i : ℕ) where
  -- at every other record
  used_off : (x : ℕ) → (x ≡ i → ⊥) → used_below i ms x ≡ used_below (i + 1) ms x
  unfolding used_below
  used_off x d = ap (λ (t : Bool). bit (t && not (has_mark withdrawn_mark ms x))) (go (dec_lt x i))
    where
      go : Dec (x < i) → ltb x i ≡ ltb x (i + 1)
      go (yes h) = lt-ltb x i h ∙ sym (lt-ltb x (i + 1) (omega arith))
      go (no h) = le-ltb x i (omega (arith, h)) ∙ sym (le-ltb x (i + 1) (omega (arith, h, d)))

  used_at : (t : Bool) → has_mark withdrawn_mark ms i ≡ t → used_below (i + 1) ms i ≡ bit (not t)
  unfolding used_below
  used_at t e = rw (lt-ltb i (i + 1) (omega arith), e)

  used_past : used_below i ms i ≡ 0
  unfolding used_below
  used_past = rw (le-ltb i i (omega arith))

  pub used_more : has_mark withdrawn_mark ms i ≡ false → put i 1 (used_below i ms) ≡ used_below (i + 1) ms
  used_more e = fun_ext (λ x. go x (ℕ_discrete x i))
    where
      go : (x : ℕ) → Dec (x ≡ i) → put i 1 (used_below i ms) x ≡ used_below (i + 1) ms x
      go x (yes q) = rw q (put_at i 1 (used_below i ms) ∙ sym (used_at false e))
      go x (no d) = put_off i 1 (used_below i ms) x d ∙ used_off x d

  -- a withdrawn one
  pub used_same : has_mark withdrawn_mark ms i ≡ true → used_below i ms ≡ used_below (i + 1) ms
  used_same e = fun_ext (λ x. go x (ℕ_discrete x i))
    where
      go : (x : ℕ) → Dec (x ≡ i) → used_below i ms x ≡ used_below (i + 1) ms x
      go x (yes q) = rw q (used_past ∙ sym (used_at true e))
      go x (no d) = used_off x d
