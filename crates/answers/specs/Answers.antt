-- The answer of a call that counts, what holds of it and of its list over any contents, and how it is told as one number.
--   counted a       how many there are by the answer; none with a refusal
--   answered k m    the answer where k is the number of the first cause: refused with it; where there is none, which is 0, the count m
--   over_unless k ws l
--                   what a list that held l holds then: as it was; where there is no cause, the words ws over its front
--   Handed k all ws before after a
--                   the answer a, and the list, which held `before` and holds `after`, where k is the number of the first cause: how many `all` are, and the
--                   words ws of them over the list's front
--   Whole xs before after a
--                   xs handed over whole: refused with 13 where the list is too short
--   FirstPart xs before after a
--                   as many words of xs as the list takes, and how many they are in all
--   Contained most words before after a
--                   what holds over any contents: no more than `most` are told, past the first `words` words the list is as it was, with a refusal all
--                   of it, and a refusal has the number of a cause
--   past_counts      2^32, which no count reaches; told in place of one
--   refusal k, told_counted a
--                   a refusal, and a count or a refusal, told as a number of 64 bits: the count, or 2^33 and the number of the cause
-- Assumes nothing: these are definitions.
use Rattle.std.specs.Prelude.{◌≡◌, List, [], ◌∷◌, ℕ, zero, suc, ◌+◌, ◌*◌, ◌≤◌, length, take, drop, ltb}
use Rattle.book.specs.Basics.{over}
use Rattle.book.specs.Causes.{short_list, Caused, first_number}
use Rattle.answers.specs.declared.Counted.{Counted}
use Rattle.answers.specs.declared.Counted.TheVariants.{Count, Refused}

unfoldable pub counted : Counted → ℕ
counted (Count k) = k
counted (Refused k) = 0

unfoldable pub answered : ℕ → ℕ → Counted
answered zero m = Count m
answered (suc k) m = Refused (suc k)

unfoldable pub over_unless : ℕ → List ℕ → List ℕ → List ℕ
over_unless zero ws l = over ws l
over_unless (suc k) ws l = l

pub record Handed (k : ℕ) (all ws before after : List ℕ) (a : Counted) : Type 0 where
  pub answer : a ≡ answered k (length all)
  pub list : after ≡ over_unless k ws before

abbrev pub Whole : List ℕ → List ℕ → List ℕ → Counted → Type 0
Whole xs before after a = Handed (first_number ((short_list, ltb (length before) (length xs)) ∷ [])) xs xs before after a

abbrev pub FirstPart : List ℕ → List ℕ → List ℕ → Counted → Type 0
FirstPart xs before after a = Handed 0 xs (take (length before) xs) before after a

pub record Contained {A : Type 0} (most words : ℕ) (before after : List A) (a : Counted) : Type 0 where
  pub fits : counted a ≤ most
  pub past : drop words after ≡ drop words before
  pub unchanged : (k : ℕ) → a ≡ Refused k → after ≡ before
  pub caused : (k : ℕ) → a ≡ Refused k → Caused k

abbrev pub past_counts : ℕ
past_counts = 4294967296

abbrev pub refusal : ℕ → ℕ
refusal k = 2 * past_counts + k

abbrev pub told_counted : Counted → ℕ
told_counted (Count k) = k
told_counted (Refused k) = refusal k
