-- Two edits of a book, in one order and in the other.
--   Single e        the edit e is of a single link: an add or a remove
--   link_in x        its link
--   Alike b c       two books that cannot be told apart but by undo: the same n, and of their sheets the same links, locked records, withdrawn records and
--                   totals. Their piles may differ
-- Assumes nothing: these are definitions.
use Rattle.std.specs.Prelude.{◌≡◌, ℕ}
use Rattle.book.specs.Book.{Link, Book, Edit, add, remove, present, is_locked, is_withdrawn, total}

pub data Single : Edit → Type 0 where
  adds : {k : Link} → Single (add k)
  removes : {k : Link} → Single (remove k)

unfoldable pub link_in : {e : Edit} → Single e → Link
link_in (adds {k}) = k
link_in (removes {k}) = k

pub record Alike (b c : Book) : Type 0 where
  pub size : b.n ≡ c.n
  pub links : (k : Link) → present b.sheet k ≡ present c.sheet k
  pub locks : (r : ℕ) → is_locked b.sheet r ≡ is_locked c.sheet r
  pub withdrawn : (r : ℕ) → is_withdrawn b.sheet r ≡ is_withdrawn c.sheet r
  pub totals : (l : ℕ) → total b.sheet l ≡ total c.sheet l
