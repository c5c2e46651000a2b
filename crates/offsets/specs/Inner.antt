-- What the functions within the crate promise each other.
--   ThirdAsked            what `third` asks: its numbers fit
--   Records, Plan         what of a register the ties are judged by; how the passes go
--   OpenNumber ws k       what `open_number` promises: 0 for the words of a register, else 16
--   is_withdrawn_in ws k    whether a record is withdrawn, by its mark among the words
--   sooner a b            of two numbers of causes the one that is looked for first: 2 before 18 before 19; 0 is none
--   three a b c           the number of the first of the causes 2, 18 and 19 that is there
--   tie_number, base_number
--                         the number against one tie, and against the base and how many ties there are
--   judge_tie, judge_all    the number so far, and then that of every tie of a list in turn
--   rounds_of c n          how many passes there may be, by the number of the cause against them
--   or_else a b            a if it is a number, else b
--   Filled n base l       the front of l is as the first pass finds it
--   Plans, Begins         what `begin` promises: the number that comes before "cannot all hold", and if there is none, the work filled and n + 1 passes
--   HandsOver, TellsOver  what `hand_over` promises: the answer, and that it is told
--   Among                 what `offsets` promises of the records that it judges the ties by
-- Assumes nothing: these are definitions.
use Rattle.std.specs.Prelude.{◌≡◌, List, [], ◌∷◌, ◌++◌, Bool, true, false, ◌||◌, ℕ, zero, suc, ◌*◌, ◌^◌, ◌≤◌, ◌<◌, leb, ltb, eqb, ℤ, length, drop}
use Rattle.std.specs.Int.Signed.{mag}
use Rattle.book.specs.Basics.{pick}
use Rattle.book.specs.Causes.{no_record, withdrawn_record, bad_tie, short_work, short_list, not_open, number, first_number, max_records}
use Rattle.answers.specs.Answers.{counted, Contained}
use Rattle.register.specs.Inner.{mark_in}
use Rattle.register.specs.Marks.{withdrawn_mark}
use Rattle.register.specs.Words.{Keeps, Foreign}
use Rattle.register.specs.declared.Register.{Register}
use Rattle.offsets.specs.declared.Tie.{Tie}
use Rattle.offsets.specs.Answers.{OffsetsAnswer, Limits, CannotHold, Refused, told_offsets, max_ties, outside, offsets_work, OffsetsFor, offsets_counted}
use Rattle.offsets.specs.Thirds.{Starts}
use Rattle.offsets.specs.Finds.{Told, Fits}

pub record ThirdAsked (o a b : ℕ) (up down : ℤ) : Type 0 where
  pub place : o ≤ 2 ^ 62
  pub first : a < 2 ^ 16
  pub second : b < 2 ^ 16
  pub up_fits : mag up ≤ 2 ^ 31
  pub down_fits : mag down ≤ 2 ^ 31

-- what of a register the ties are judged by: the number with which its words were refused, its size, and its words, which have its marks
pub record Records : Type 0 where
  pub refused : ℕ
  pub n : ℕ
  pub marks : List ℕ

-- how the passes go: refused with the number of a cause, or at most so many of them
pub record Plan : Type 0 where
  pub cause : ℕ
  pub rounds : ℕ

pub record OpenNumber (ws : List ℕ) (k : ℕ) : Type 0 where
  pub kept : (r : Register) → Keeps ws r → k ≡ 0
  pub foreign : Foreign ws → k ≡ number not_open

unfoldable pub is_withdrawn_in : List ℕ → ℕ → Bool
is_withdrawn_in ws k = eqb (mark_in ws k) withdrawn_mark

unfoldable pub sooner : ℕ → ℕ → ℕ
sooner zero b = b
sooner (suc a) zero = suc a
sooner (suc a) (suc b) = pick (ltb b a) (suc b) (suc a)

unfoldable pub three : Bool → Bool → Bool → ℕ
three a b c = first_number ((no_record, a) ∷ (withdrawn_record, b) ∷ (bad_tie, c) ∷ [])

unfoldable pub tie_number : ℕ → List ℕ → Tie → ℕ
tie_number n ms t = three (leb n t.first || leb n t.second) (is_withdrawn_in ms t.first || is_withdrawn_in ms t.second) (outside t)

unfoldable pub base_number : ℕ → List ℕ → ℕ → ℕ → ℕ
base_number n ms base count = three (leb n base) (is_withdrawn_in ms base) (ltb max_ties count)

abbrev pub judge_tie : ℕ → List ℕ → Tie → ℕ → ℕ
judge_tie n ws t k = sooner k (tie_number n ws t)

abbrev pub judge_all : ℕ → List ℕ → List Tie → ℕ → ℕ
judge_all n ws [] k = k
judge_all n ws (t ∷ ts) k = judge_all n ws ts (judge_tie n ws t k)

abbrev pub rounds_of : ℕ → ℕ → ℕ
rounds_of zero n = suc n
rounds_of (suc k) n = 0

abbrev pub or_else : ℕ → ℕ → ℕ
or_else zero b = b
or_else (suc a) b = suc a

-- the work as the first pass finds it: its first n × 3 words are filled
abbrev pub Filled : ℕ → ℕ → List ℤ → Type 0
Filled n base l = (x : List ℤ) × ((y : List ℤ) × ((l ≡ x ++ y) × Starts n base x))

pub record Plans (g : Records) (base found count : ℕ) (before after : List ℤ) (p : Plan) : Type 0 where
  pub cause : p.cause ≡ or_else g.refused
      (or_else (sooner (base_number g.n g.marks base count) found) (first_number ((short_work, ltb (length before) (offsets_work g.n)) ∷ [])))
  pub filled : p.cause ≡ 0 → Filled g.n base after × (p.rounds ≡ suc g.n)

-- what `begin` promises of words
abbrev pub Begins : List ℕ → ℕ → ℕ → ℕ → ℕ → List ℤ → List ℤ → ℕ → Type 0
Begins ws n base found count before after cause =
    (k : ℕ)
    × (OpenNumber ws k × Plans (record { refused = k; n = n; marks = ws }) base found count before after (record { cause = cause; rounds = rounds_of cause n }))

pub data HandsOver (cause n : ℕ) (on : Bool) (work before after : List ℤ) : OffsetsAnswer → Type 0 where
  refused : {k : ℕ} → cause ≡ suc k → after ≡ before → HandsOver cause n on work before after (Refused (suc k))
  cannot_hold : cause ≡ 0 → on ≡ true → after ≡ before → HandsOver cause n on work before after CannotHold
  scant : cause ≡ 0 → length work < n * 3 → after ≡ before → HandsOver cause n on work before after (Refused (number short_work))
  short : cause ≡ 0 → on ≡ false → length before < n * 2 → after ≡ before → HandsOver cause n on work before after (Refused (number short_list))
  told : cause ≡ 0 → on ≡ false → n * 2 ≤ length before → (Fits n work → Told n work n after) → drop (n * 2) after ≡ drop (n * 2) before
      → HandsOver cause n on work before after (Limits (n * 2))

abbrev pub TellsOver : ℕ → ℕ → Bool → List ℤ → List ℤ → List ℤ → ℕ → Type 0
TellsOver cause n on work before after k = (a : OffsetsAnswer) × (HandsOver cause n on work before after a × (k ≡ told_offsets a))

pub record Among (g : Records) (base : ℕ) (ts : List Tie) (work : ℕ) (before after : List ℤ) (a : OffsetsAnswer) : Type 0 where
  pub refused : (k : ℕ) → g.refused ≡ suc k → (a ≡ Refused (suc k)) × (after ≡ before)
  pub contained : g.refused ≡ 0 → Contained (length before) (counted (offsets_counted a)) before after (offsets_counted a)
  pub found : g.refused ≡ 0 → g.n ≤ max_records → OffsetsFor g.n (is_withdrawn_in g.marks) base ts work before after a
