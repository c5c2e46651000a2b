-- What the inner functions of closing up promise one another.
--   in_use ms x            whether the record x is in use, by the marks ms
--   new_of rs x            the new number of the record x, by the ranks rs
--   renamed_word f w       the word w of a link, with the record x called f x
--   Ranked ms rs          rs has, for each number up to 1,024, how many records below it are in use
--   Small rs              the ranks of all records are those of records
--   Moved ms rs n os      os has the lock of each of the first n records of ms at its new number, and no other mark
--   Roomed room length k  k is how many words of a list of that length are used for a closing up of a history whose word says room
-- Assumes nothing: these are definitions.
use Rattle.std.specs.Prelude.{◌≡◌, ◌⊎◌, List, Bool, not, ℕ, ◌≤◌, ◌<◌, length, get_or}
use Rattle.book.specs.Causes.{max_records}
use Rattle.book.specs.Book.{rank, renamed_link}
use Rattle.links.specs.Links.{link_word}
use Rattle.links.specs.Parts.{link_of}
use Rattle.register.specs.Replaying.{room_most}
use Rattle.register.specs.Marks.{free_mark, lock_mark, withdrawn_mark, has_mark}

abbrev pub in_use : List ℕ → ℕ → Bool
in_use ms x = not (has_mark withdrawn_mark ms x)

abbrev pub new_of : List ℕ → ℕ → ℕ
new_of rs x = get_or rs x 0

abbrev pub renamed_word : (ℕ → ℕ) → ℕ → ℕ
renamed_word f w = link_word (renamed_link f (link_of w))

abbrev pub Ranked : List ℕ → List ℕ → Type 0
Ranked ms rs = (x : ℕ) → x ≤ max_records → new_of rs x ≡ rank (in_use ms) x

pub record Small (rs : List ℕ) : Type 0 where
  pub long : max_records ≤ length rs
  pub below : (x : ℕ) → x < max_records → new_of rs x < max_records

pub record Moved (ms rs : List ℕ) (n : ℕ) (os : List ℕ) : Type 0 where
  pub all : (x : ℕ) → x < n → get_or ms x free_mark ≡ lock_mark → get_or os (new_of rs x) free_mark ≡ lock_mark
  pub from : (y : ℕ) → (get_or os y free_mark ≡ free_mark)
      ⊎ ((get_or os y free_mark ≡ lock_mark) × ((x : ℕ) × (x < n) × (get_or ms x free_mark ≡ lock_mark) × (new_of rs x ≡ y)))

pub record Roomed (room length k : ℕ) : Type 0 where
  pub within : k ≤ length
  pub most : k ≤ room_most room
  pub whole : k < room_most room → k ≡ length
