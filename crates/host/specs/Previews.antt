-- What `dating_preview` promises of the words that a caller keeps. They are lent to be read, so they and the edits held in them stay as they are.
--   Foresees c ws text work before after k
--                   a preview of the call c: of a register's words the promise of the engine; words that are no register's are refused with 16, and the list
--                   is left
--   Previewed ws text work before after k e
--                   a preview of the entry e: of a call the same; of no call 15, whatever the words are, and the list is left
-- Assumes nothing: these are definitions.
use Rattle.std.specs.Prelude.{◌≡◌, List, ℕ}
use Rattle.book.specs.Causes.{unknown_kind, number}
use Rattle.book.specs.Book.{Call}
use Rattle.register.specs.History.{Entry, is-call, no_call}
use Rattle.engine.specs.Previews.{Previews}
use Rattle.host.specs.Host.{refusal, told_counted, Asked}

abbrev pub Foresees : Call → List ℕ → List ℕ → ℕ → List ℕ → List ℕ → ℕ → Type 0
Foresees c ws text work before after k = Asked ws (λ r. Previews r c text work before after) told_counted before after k

pub data Previewed (ws text : List ℕ) (work : ℕ) (before after : List ℕ) (k : ℕ) : Entry → Type 0 where
  foreseen : {c : Call} → Foresees c ws text work before after k → Previewed ws text work before after k (is-call c)
  unknown : k ≡ refusal (number unknown_kind) → after ≡ before → Previewed ws text work before after k no_call
