-- What the exported calls promise of the words that a caller keeps: the promises of the engine, carried over to words. A caller's state may be longer
-- than a register's words; no call touches the words past them.
--   KeepsBook ws b  the front of ws is the words of a register that represents the book b
--   fresh_number n room
--                   the number of asking for a fresh register in a state of so many words: n outside 1 to 1,024, or a state shorter than a register's
--   Freshens n before after k
--                   what asking for a fresh register promises: the number k, and the words after it
--   told_chain a     the answer of a chain question told as a number of 64 bits: a count, `past_counts` for no chain, or a refusal
--   Told P f k      k tells an answer, by f, that P promises
--   Asked ws P f before after k
--                   what a question promises: of a register's words the answer is one that P promises of that register; words that are no register's
--                   are refused with 16, and the list is left
--   Lists before after r a
--                   the words of the links of the register r, handed over into a list that held `before`: the first of them that it takes, and how many
--                   they are in all
--   Sizes ws k, TellsLock ws x k, TellsWithdrawn ws x k
--                   the number of records; whether a record is locked, and whether it is withdrawn: 0 if the words are no register's
--   TellsTotal ws l k
--                   the number of links of a label, as `total` promises; words that are no register's are refused with 16
-- Assumes nothing: these are definitions.
use Rattle.std.specs.Prelude.{◌≡◌, List, [], ◌∷◌, ◌||◌, ℕ, length, take, drop, ltb}
use Rattle.book.specs.Basics.{bit}
use Rattle.book.specs.Causes.{bad_size, short_work, not_open, number, first_number, max_records}
use Rattle.book.specs.Book.{Book, fresh}
use Rattle.answers.specs.Answers.{FirstPart}
pub use Rattle.answers.specs.Answers.{past_counts, refusal, told_counted}
use Rattle.answers.specs.declared.Counted.{Counted}
use Rattle.register.specs.Representation.{Represents}
use Rattle.register.specs.Questions.{Sized, Listing, Locking, Withdrawal, Totals}
use Rattle.register.specs.Words.{state_words, Keeps, Foreign, OfWords}
use Rattle.register.specs.declared.Register.{Register}
use Rattle.register.specs.declared.Links.{Links}
use Rattle.chains.specs.declared.ChainAnswer.{ChainAnswer}
use Rattle.chains.specs.declared.ChainAnswer.TheVariants.{Chain, NoChain, Refused}

abbrev pub KeepsBook : List ℕ → Book → Type 0
KeepsBook ws b = (r : Register) × Keeps ws r × Represents r b

unfoldable pub fresh_number : ℕ → ℕ → ℕ
fresh_number n room = first_number ((bad_size, ltb n 1 || ltb max_records n) ∷ (short_work, ltb room state_words) ∷ [])

pub record Freshens (n : ℕ) (before after : List ℕ) (k : ℕ) : Type 0 where
  pub number : k ≡ fresh_number n (length before)
  pub refused : (k ≡ 0 → ⊥) → after ≡ before
  pub made : k ≡ 0 → KeepsBook after (fresh n)
  pub past : drop state_words after ≡ drop state_words before

abbrev pub told_chain : ChainAnswer → ℕ
told_chain (Chain k) = k
told_chain NoChain = past_counts
told_chain (Refused k) = refusal k

abbrev pub Told : {A : Type 0} → (A → Type 0) → (A → ℕ) → ℕ → Type 0
Told {A} P f k = (a : A) × P a × (k ≡ f a)

pub record Asked {A : Type 0} (ws : List ℕ) (P : Register → A → Type 0) (f : A → ℕ) (before after : List ℕ) (k : ℕ) : Type 0 where
  pub answers : (r : Register) → Keeps ws r → Told (P r) f k
  pub foreign : Foreign ws → (k ≡ refusal (number not_open)) × (after ≡ before)

abbrev pub Lists : List ℕ → List ℕ → Register → Counted → Type 0
Lists before after r a = (ls : Links) × Listing r ls × FirstPart (take ls.count ls.words) before after a

abbrev pub Sizes : List ℕ → ℕ → Type 0
Sizes ws k = OfWords ws Sized 0 k

-- by 1 or 0
abbrev pub TellsLock : List ℕ → ℕ → ℕ → Type 0
TellsLock ws x k = OfWords ws (λ r. Told (Locking r x) bit) 0 k

abbrev pub TellsWithdrawn : List ℕ → ℕ → ℕ → Type 0
TellsWithdrawn ws x k = OfWords ws (λ r. Told (Withdrawal r x) bit) 0 k

abbrev pub TellsTotal : List ℕ → ℕ → ℕ → Type 0
TellsTotal ws l k = OfWords ws (λ r. Told (Totals r l) told_counted) (refusal (number not_open)) k
