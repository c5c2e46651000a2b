-- What holds of the sheets of every book that a history makes (BookLaws `after_sound`).
--   Distinct same l no member of the list l stands twice
--   Proper n k      a link between records below n, with a letter's label
--   Fit n s         a sheet's links are proper and their ends in use, its locks are of records in use, the withdrawn ones are records, none stands twice,
--                   and there are at most 4,096 links
--   Sound b         n is at most 1,024, and every sheet of the book fits
-- Assumes nothing: these are definitions.
use Rattle.std.specs.Prelude.{◌≡◌, List, [], ◌∷◌, Bool, true, false, ℕ, ◌≤◌, ◌<◌, length, eqb}
use Rattle.book.specs.Basics.{has, All}
use Rattle.book.specs.Causes.{max_records, labels, max_links}
use Rattle.book.specs.Book.{Link, same_link, Sheet, Book, present, is_locked, is_withdrawn}

unfoldable pub Distinct : {A : Type 0} → (A → A → Bool) → List A → Type 0
Distinct same [] = Unit {0}
Distinct same (x ∷ xs) = (has same x xs ≡ false) × Distinct same xs

pub record Proper (n : ℕ) (k : Link) : Type 0 where
  pub from : k.from < n
  pub label : k.label < labels
  pub to : k.to < n

pub record Fit (n : ℕ) (s : Sheet) : Type 0 where
  pub links : (k : Link) → present s k ≡ true → Proper n k
  pub locks : (r : ℕ) → is_locked s r ≡ true → r < n
  pub ends : (k : Link) → present s k ≡ true → (is_withdrawn s k.from ≡ false) × (is_withdrawn s k.to ≡ false)
  pub free : (r : ℕ) → is_locked s r ≡ true → is_withdrawn s r ≡ false
  pub withdrawn : (r : ℕ) → is_withdrawn s r ≡ true → r < n
  pub once : Distinct same_link s.links
  pub single : Distinct eqb s.locks
  pub apart : Distinct eqb s.withdrawn
  pub room : length s.links ≤ max_links

pub record Sound (b : Book) : Type 0 where
  pub small : b.n ≤ max_records
  pub sheet : Fit b.n b.sheet
  pub pile : All (Fit b.n) b.pile
