-- What is read of a register: its size, its marks, its totals, and its links as a slice of words. Contents out of range are those of no register: nothing is
-- read of them.
--   Sized self n         what `size` promises: at most 1,024, and the number of records of every book that the register represents
--   Listing self r       what `links` promises: at most 4,096 words, and for every book that the register represents, the words of its links
--   MarkList self r      what `marks` promises: for every book that the register represents, the mark of each record
--   Locking self k r     what `is_locked` promises: whether the record k is locked
--   Withdrawal self k r  what `is_withdrawn` promises: whether it is withdrawn
--   TotalList self r     what `totals` promises: for every book that the register represents, the total of each label
--   total_answer s l      the answer to asking for the total of the label l of the sheet s: the number of its links, or refused with 3
--   Totals self l a      what `total` promises: for every book that the register represents, that answer; of other contents 16 or 3 on their causes, else some
--                        number
-- Assumes nothing: these are definitions.
use Rattle.std.specs.Prelude.{◌≡◌, List, Bool, false, ℕ, ◌≤◌, ◌<◌, length, take, get_or, replicate}
use Rattle.book.specs.Causes.{bad_label, not_open, number, labels, max_records, max_links}
use Rattle.book.specs.Book.{Sheet, Book, is_locked, is_withdrawn, total, total_number}
use Rattle.answers.specs.Answers.{answered}
use Rattle.answers.specs.declared.Counted.{Counted}
use Rattle.answers.specs.declared.Counted.TheVariants.{Count, Refused}
use Rattle.links.specs.Links.{Linked}
use Rattle.register.specs.Marks.{free_mark, mark_of}
use Rattle.register.specs.Counters.{InRange}
use Rattle.register.specs.Representation.{Represents}
use Rattle.register.specs.declared.Register.{Register}
use Rattle.register.specs.declared.Links.{Links}

pub record Sized (self : Register) (n : ℕ) : Type 0 where
  pub small : n ≤ max_records
  pub foreign : (InRange self → ⊥) → n ≡ 0
  pub size : (b : Book) → Represents self b → n ≡ b.n

pub record Listing (self : Register) (r : Links) : Type 0 where
  pub few : r.count ≤ max_links
  pub long : length r.words ≡ max_links
  pub foreign : (InRange self → ⊥) → r.count ≡ 0
  pub linked : (b : Book) → Represents self b → Linked (take r.count r.words) b.sheet

pub record MarkList (self : Register) (r : List ℕ) : Type 0 where
  pub long : length r ≡ max_records
  pub foreign : (InRange self → ⊥) → r ≡ replicate max_records free_mark
  pub marks : (b : Book) → Represents self b → (x : ℕ) → get_or r x free_mark ≡ mark_of b.sheet x

pub record Locking (self : Register) (k : ℕ) (r : Bool) : Type 0 where
  pub foreign : (InRange self → ⊥) → r ≡ false
  pub locked : (b : Book) → Represents self b → r ≡ is_locked b.sheet k

pub record Withdrawal (self : Register) (k : ℕ) (r : Bool) : Type 0 where
  pub foreign : (InRange self → ⊥) → r ≡ false
  pub withdrawn : (b : Book) → Represents self b → r ≡ is_withdrawn b.sheet k

pub record TotalList (self : Register) (r : List ℕ) : Type 0 where
  pub long : length r ≡ labels
  pub foreign : (InRange self → ⊥) → r ≡ replicate labels 0
  pub totals : (b : Book) → Represents self b → (l : ℕ) → l < labels → get_or r l 0 ≡ total b.sheet l

abbrev pub total_answer : Sheet → ℕ → Counted
total_answer s l = answered (total_number l) (total s l)

pub record Totals (self : Register) (l : ℕ) (a : Counted) : Type 0 where
  -- over any contents
  pub foreign : (InRange self → ⊥) → a ≡ Refused (number not_open)
  pub refused : InRange self → labels ≤ l → a ≡ Refused (number bad_label)
  pub given : InRange self → l < labels → (t : ℕ) × (a ≡ Count t)
  -- of a register that represents a book
  pub told : (b : Book) → Represents self b → a ≡ total_answer b.sheet l
