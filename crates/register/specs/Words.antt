-- A register kept by a caller as plain words. A state may be longer than a register's words: its front is the register, and the words past it are left.
--   links_at, ring_at, marks_at, totals_at
--                   the places of a register's first link, of the ring, of its first mark and of its first total
--   state_words      how many words a register has
--   numbers_of r, state_of r
--                   the words of a register: its counters, its links, its ring, its marks, its totals
--   Keeps ws r      the front of ws is the words of the register r, whose counters are in range and whose marks are marks
--   Foreign ws      the front of ws is the words of no register
--   OfWords ws P none a
--                   what is read of words: of a register's words a is what P promises of that register; of words that are no register's it is none
--   Edits c before after k
--                   what an edit or undo of such words promises: over any words a refused one leaves them; words that are no register's are refused
--                   with 16; of a register's words the number and the words after it are those of an outcome that the call c promises
-- Assumes nothing: these are definitions.
use Rattle.std.specs.Prelude.{◌≡◌, List, [], ◌∷◌, ◌++◌, ℕ, ◌+◌, length, take, drop}
use Rattle.book.specs.Causes.{not_open, number, labels, max_links, max_held, max_records}
use Rattle.book.specs.Book.{Call}
use Rattle.register.specs.Marks.{Marked}
use Rattle.register.specs.Counters.{InRange}
use Rattle.register.specs.Calls.{answer_number, Steps}
use Rattle.register.specs.declared.Register.{Register}
use Rattle.register.specs.declared.Outcome.{Outcome}

abbrev pub links_at : ℕ
links_at = 4

abbrev pub ring_at : ℕ
ring_at = links_at + max_links

abbrev pub marks_at : ℕ
marks_at = ring_at + max_held

abbrev pub totals_at : ℕ
totals_at = marks_at + max_records

abbrev pub state_words : ℕ
state_words = totals_at + labels

abbrev pub numbers_of : Register → List ℕ
numbers_of r = r.n ∷ r.count ∷ r.top ∷ r.held ∷ []

abbrev pub state_of : Register → List ℕ
state_of r = numbers_of r ++ r.links ++ r.ring ++ r.marks ++ r.totals

-- the lengths are those of the arrays
pub record Keeps (ws : List ℕ) (r : Register) : Type 0 where
  pub ranged : InRange r
  pub links : length r.links ≡ max_links
  pub ring : length r.ring ≡ max_held
  pub marks : length r.marks ≡ max_records
  pub marked : Marked r.marks
  pub totals : length r.totals ≡ labels
  pub words : take state_words ws ≡ state_of r

abbrev pub Foreign : List ℕ → Type 0
Foreign ws = (r : Register) → Keeps ws r → ⊥

pub record OfWords {A : Type 0} (ws : List ℕ) (P : Register → A → Type 0) (none a : A) : Type 0 where
  pub kept : (r : Register) → Keeps ws r → P r a
  pub foreign : Foreign ws → a ≡ none

pub record Edits (c : Call) (before after : List ℕ) (k : ℕ) : Type 0 where
  pub refused : (k ≡ 0 → ⊥) → after ≡ before
  pub past : drop state_words after ≡ drop state_words before
  pub foreign : Foreign before → k ≡ number not_open
  pub steps : (r : Register) → Keeps before r → (o : Outcome) × Steps r c o × (k ≡ answer_number o.answer) × Keeps after o.register
