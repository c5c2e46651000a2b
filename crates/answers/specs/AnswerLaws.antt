-- Laws of answers that count.
--   contained_refused  a refusal that has the number of a cause and leaves the list is contained
--   contained_count    a count of at most `most` is, if the list is left past so many words
--   whole_refused, whole_given, part_given
--                      a list that is too short for xs; one that takes them; and as much of them as it takes
-- Assumes nothing.
use Rattle.std.proofs.Math.Path.{◌≡◌, ap, subst}
use Rattle.std.specs.Prelude.{refl, List, ℕ, ◌≤◌, ◌<◌, length, take, drop}
use Rattle.std.proofs.Common.{arith, lt-ltb, le-ltb}
use Rattle.book.specs.Basics.{over}
use Rattle.book.specs.Causes.{Caused, number, first_number}
use Rattle.answers.specs.Answers.{counted, answered, over_unless, Whole, FirstPart, Contained}
use Rattle.answers.specs.declared.Counted.TheVariants.{Count, Refused}

module _ {A : Type 0} (most words : ℕ) (before after : List A) where
  pub contained_refused : (k : ℕ) → Caused k → after ≡ before → Contained most words before after (Refused k)
  unfolding counted
  contained_refused k c e = record {
    fits = omega arith;
    past = ap (drop words) e;
    unchanged = λ j q. e;
    caused = λ j q. let z : k ≡ j = cc in subst Caused z c;
  }

  pub contained_count : (m : ℕ) → m ≤ most → drop words after ≡ drop words before → Contained most words before after (Count m)
  unfolding counted
  contained_count m h e = record {
    fits = h;
    past = e;
    unchanged = λ j q. absurd (let z : ◌≡◌ {A = ℕ} 0 1 = cc in omega arith);
    caused = λ j q. absurd (let z : ◌≡◌ {A = ℕ} 0 1 = cc in omega arith);
  }

module _ (xs before after : List ℕ) where
  pub whole_refused : length before < length xs → after ≡ before → Whole xs before after (Refused 13)
  unfolding answered over_unless first_number number
  whole_refused h e = record { answer = rw (lt-ltb (length before) (length xs) h) refl; list = rw (lt-ltb (length before) (length xs) h) e }

  pub whole_given : (m : ℕ) → m ≡ length xs → length xs ≤ length before → after ≡ over xs before → Whole xs before after (Count m)
  unfolding answered over_unless first_number number
  whole_given m q h e =
      record { answer = rw (le-ltb (length before) (length xs) h) (ap Count q); list = rw (le-ltb (length before) (length xs) h) e }

  pub part_given : (m : ℕ) → m ≡ length xs → after ≡ over (take (length before) xs) before → FirstPart xs before after (Count m)
  unfolding answered over_unless
  part_given m q e = record { answer = ap Count q; list = e }
