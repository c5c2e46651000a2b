-- What `offsets` promises: refusals in their order, "cannot all hold", and the list.
--   max_ties, max_rings
--                   the limits: so many ties, and so many rings either way
--   outside t       whether a tie is outside the limits of rings, or has its least above its most
--   any_tie test ts  whether a tie passes the test
--   offsets_work n   the words of work that are asked for
--   offsets_causes n w base ts work
--                   the causes that come before "cannot all hold", in their order, of n records of which those that pass w are withdrawn: each is looked for in
--                   the base and all ties before the next
--   OffsetsAnswer   the answer: so many words of the list, two to a record; no placing meets all ties; or refused with the number of the first cause
--   OffsetsFor n w base ts work before after a
--                   asked of those records, with so many words of work and a list that held `before`: the answer a, and the list, which holds `after`
--   offsets_counted a
--                   the answer as one that counts: how many words, none for "cannot all hold", or refused
--   AsksOffsets r base ts work before after a
--                   asked of the register r. Over any contents: the answer fits the list, the words past it are as they were, all of them with a refusal or
--                   "cannot all hold", and a refusal has the number of a cause. For every book that the register represents: answer and list are those of
--                   its records
--   told_offsets a   the answer told as a number of 64 bits: the words written, 2^32 for "cannot all hold", or a refusal
--   OffsetsTold ws base ts work before after k
--                   what is promised of words that a caller keeps: of a register's words k tells an answer that is promised of that register; words that are
--                   no register's are refused with 16, and the list is left
-- Assumes nothing: these are definitions.
use Rattle.std.specs.Prelude.{◌≡◌, List, [], ◌∷◌, Bool, false, ◌||◌, ℕ, suc, ◌*◌, ◌≤◌, ◌<◌, leb, ltb, ℤ, pos, neg_ℤ, length, take, drop}
use Rattle.std.specs.Int.Signed.{lt_z}
use Rattle.book.specs.Causes.{Cause, no_record, withdrawn_record, bad_tie, short_work, short_list, not_open, number, first_number}
use Rattle.book.specs.Book.{Book, is_withdrawn}
use Rattle.answers.specs.Answers.{counted, Contained, past_counts, refusal}
use Rattle.answers.specs.declared.Counted.{Counted}
use Rattle.answers.specs.declared.Counted.TheVariants.{Count, Refused as Untold}
use Rattle.register.specs.Representation.{Represents}
use Rattle.register.specs.Words.{Keeps, Foreign}
use Rattle.register.specs.declared.Register.{Register}
use Rattle.offsets.specs.Offsets.{Placing, Places, cannot, limits, OffsetsAre}
use Rattle.offsets.specs.declared.Tie.{Tie}

abbrev pub max_ties : ℕ
max_ties = 1024

abbrev pub max_rings : ℕ
max_rings = 20000

unfoldable pub outside : Tie → Bool
outside t = lt_z t.least (neg_ℤ (pos max_rings)) || (lt_z (pos max_rings) t.most || lt_z t.most t.least)

unfoldable pub any_tie : (Tie → Bool) → List Tie → Bool
any_tie test [] = false
any_tie test (t ∷ ts) = test t || any_tie test ts

abbrev pub offsets_work : ℕ → ℕ
offsets_work n = n * 64

unfoldable pub offsets_causes : ℕ → (ℕ → Bool) → ℕ → List Tie → ℕ → List (Cause × Bool)
offsets_causes n w base ts work =
    (no_record, leb n base || any_tie (λ t. leb n t.first || leb n t.second) ts) ∷
    (withdrawn_record, w base || any_tie (λ t. w t.first || w t.second) ts) ∷
    (bad_tie, ltb max_ties (length ts) || any_tie outside ts) ∷
    (short_work, ltb work (offsets_work n)) ∷ []

pub data OffsetsAnswer : Type 0 where
  Limits : ℕ → OffsetsAnswer
  CannotHold : OffsetsAnswer
  Refused : ℕ → OffsetsAnswer

pub data OffsetsFor (n : ℕ) (w : ℕ → Bool) (base : ℕ) (ts : List Tie) (work : ℕ) (before after : List ℤ) : OffsetsAnswer → Type 0 where
  refused : {k : ℕ} → first_number (offsets_causes n w base ts work) ≡ suc k → after ≡ before → OffsetsFor n w base ts work before after (Refused (suc k))
  cannot_hold : first_number (offsets_causes n w base ts work) ≡ 0 → OffsetsAre n base ts cannot
      → after ≡ before → OffsetsFor n w base ts work before after CannotHold
  short : first_number (offsets_causes n w base ts work) ≡ 0 → (p : Placing) → Places p ts → length before < n * 2 → after ≡ before
      → OffsetsFor n w base ts work before after (Refused (number short_list))
  told : first_number (offsets_causes n w base ts work) ≡ 0 → n * 2 ≤ length before → OffsetsAre n base ts (limits (take (n * 2) after))
      → drop (n * 2) after ≡ drop (n * 2) before → OffsetsFor n w base ts work before after (Limits (n * 2))

unfoldable pub offsets_counted : OffsetsAnswer → Counted
offsets_counted (Limits k) = Count k
offsets_counted CannotHold = Count 0
offsets_counted (Refused k) = Untold k

pub record AsksOffsets (r : Register) (base : ℕ) (ts : List Tie) (work : ℕ) (before after : List ℤ) (a : OffsetsAnswer) : Type 0 where
  pub contained : Contained (length before) (counted (offsets_counted a)) before after (offsets_counted a)
  pub book : (b : Book) → Represents r b → OffsetsFor b.n (is_withdrawn b.sheet) base ts work before after a

-- ---- told as 64 bits, of words that a caller keeps
abbrev pub told_offsets : OffsetsAnswer → ℕ
told_offsets (Limits k) = k
told_offsets CannotHold = past_counts
told_offsets (Refused k) = refusal k

pub record OffsetsTold (ws : List ℕ) (base : ℕ) (ts : List Tie) (work : ℕ) (before after : List ℤ) (k : ℕ) : Type 0 where
  pub answers : (r : Register) → Keeps ws r → (a : OffsetsAnswer) × (AsksOffsets r base ts work before after a × (k ≡ told_offsets a))
  pub foreign : Foreign ws → (k ≡ refusal (number not_open)) × (after ≡ before)
