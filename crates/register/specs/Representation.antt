-- That a register stands for a book: the means by which its calls are proved. What is claimed in the end does not name it (engine `Demand`).
--   previous t      the place before a place of the ring
--   latest, held_words
--                   the words of the held edits, the latest first: of a ring, its top and their number, and of a register
--   packed_of r      the sheet that a register keeps
--   Represents r b  the register r stands for the book b: n, links, marks, totals, and every sheet that an undo could restore
-- Assumes nothing: these are definitions.
use Rattle.std.specs.Prelude.{◌≡◌, List, [], ◌∷◌, ℕ, zero, suc, ◌-◌, ◌<◌, take, get_or}
use Rattle.book.specs.Causes.{labels, max_held}
use Rattle.book.specs.Book.{Book, total}
use Rattle.register.specs.Packed.{Packed, Shows, Piled}
use Rattle.register.specs.Counters.{InRange}
use Rattle.register.specs.declared.Register.{Register}

abbrev pub previous : ℕ → ℕ
previous zero = max_held - 1
previous (suc t) = t

-- the latest of the ring stands before top
unfoldable pub latest : List ℕ → ℕ → ℕ → List ℕ
latest ring top zero = []
latest ring top (suc h) = get_or ring (previous top) 0 ∷ latest ring (previous top) h

abbrev pub held_words : Register → List ℕ
held_words r = latest r.ring r.top r.held

abbrev pub packed_of : Register → Packed
packed_of r = record { links = take r.count r.links; marks = r.marks }

pub record Represents (r : Register) (b : Book) : Type 0 where
  pub size : r.n ≡ b.n
  pub ranged : InRange r
  pub sheet : Shows b.n (packed_of r) b.sheet
  pub pile : Piled b.n (packed_of r) (held_words r) b.pile
  pub totals : (l : ℕ) → l < labels → get_or r.totals l 0 ≡ total b.sheet l
