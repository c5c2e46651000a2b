-- The register without the links that touch a record.
--   touches x k            whether the link k has the record x as an end
--   filter t l             the members of the list l that pass the test t, in their order
--   apart x                the test of a link that it does not touch the record x
--   without_links x s, without_record x b
--                          the sheet s with every link gone that touches x, its locks and withdrawn records as they were; the book b so, with nothing to undo
--   Without self x r       what `without` promises. Over any contents: those out of range come back as they were, and the marks are as they were. For every
--                          book that the register represents: the register that comes back represents that book without the links
-- Assumes nothing: these are definitions.
use Rattle.std.specs.Prelude.{◌≡◌, List, [], ◌∷◌, Bool, not, ◌||◌, ℕ, eqb}
use Rattle.book.specs.Basics.{pick}
use Rattle.book.specs.Book.{Link, Sheet, Book}
use Rattle.register.specs.Counters.{InRange}
use Rattle.register.specs.Representation.{Represents}
use Rattle.register.specs.declared.Register.{Register}

abbrev pub touches : ℕ → Link → Bool
touches x k = eqb k.from x || eqb k.to x

unfoldable pub filter : {A : Type 0} → (A → Bool) → List A → List A
filter t [] = []
filter t (x ∷ l) = pick (t x) (x ∷ filter t l) (filter t l)

abbrev pub apart : ℕ → Link → Bool
apart x k = not (touches x k)

unfoldable pub without_links : ℕ → Sheet → Sheet
without_links x s = record { links = filter (apart x) s.links; locks = s.locks; withdrawn = s.withdrawn }

unfoldable pub without_record : ℕ → Book → Book
without_record x b = record { n = b.n; sheet = without_links x b.sheet; pile = [] }

pub record Without (self : Register) (x : ℕ) (r : Register) : Type 0 where
  -- over any contents
  pub foreign : (InRange self → ⊥) → r ≡ self
  pub marks : r.marks ≡ self.marks
  -- of a register that represents a book
  pub book : (b : Book) → Represents self b → Represents r (without_record x b)
