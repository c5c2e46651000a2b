-- A draft: a list of edits and undos, given as words of a history, that is made as one: all of them, or none.
--   unclosed e      the entry e, where a closing up is no call
--   draft_calls ws   the calls of a draft
--   draft_numbers b ws
--                   the number told to each word of a draft, if each were made on the book that those before it left: the book's answer to a call; 15,
--                   unknown kind, for no call
--   first_refused i ks
--                   of the numbers told from the place i on: made if all are 0; else refused, with the first that is not, and its place
--   draft_answer b ws
--                   the book's answer to a draft
--   made_words a ws  the words of a draft that are made with the answer a: all of them, or none
--   draft_next b ws  the book after a draft
--   Drafts self ws out
--                   what a draft promises. Over any contents: a refused one has the place of a word and the number of a cause, and hands the register back
--                   as it was; and what is handed back is what the calls of the words that are made lead to, one after the other, a call to each word and
--                   each accepted. For every book that the register represents: answer and book are those above
-- Assumes nothing: these are definitions.
use Rattle.std.specs.Prelude.{◌≡◌, List, [], ◌∷◌, ◌++◌, ℕ, zero, suc, ◌<◌, length, replicate}
use Rattle.book.specs.Causes.{Caused}
use Rattle.book.specs.Book.{Book, Call, edit, undo, close, after}
use Rattle.register.specs.Representation.{Represents}
use Rattle.register.specs.History.{CallsMade, Entry, is-call, no_call, word_call, entry_number, entry_next, entry_calls}
use Rattle.register.specs.declared.Register.{Register}
use Rattle.register.specs.declared.Applied.{Applied}
use Rattle.register.specs.declared.DraftAnswer.{DraftAnswer}
use Rattle.register.specs.declared.DraftAnswer.TheVariants.{Made, Refused}

unfoldable pub unclosed : Entry → Entry
unclosed (is-call (edit e)) = is-call (edit e)
unclosed (is-call undo) = is-call undo
unclosed (is-call (close room)) = no_call
unclosed no_call = no_call

unfoldable pub draft_calls : List ℕ → List Call
draft_calls [] = []
draft_calls (w ∷ ws) = entry_calls (unclosed (word_call w)) ++ draft_calls ws

unfoldable pub draft_numbers : Book → List ℕ → List ℕ
draft_numbers b [] = []
draft_numbers b (w ∷ ws) = entry_number b (unclosed (word_call w)) ∷ draft_numbers (entry_next b (unclosed (word_call w))) ws

unfoldable pub first_refused : ℕ → List ℕ → DraftAnswer
first_refused i [] = Made
first_refused i (zero ∷ ks) = first_refused (suc i) ks
first_refused i (suc k ∷ ks) = Refused i (suc k)

abbrev pub draft_answer : Book → List ℕ → DraftAnswer
draft_answer b ws = first_refused 0 (draft_numbers b ws)

unfoldable pub made_words : DraftAnswer → List ℕ → List ℕ
made_words Made ws = ws
made_words (Refused i k) ws = []

abbrev pub draft_next : Book → List ℕ → Book
draft_next b ws = after b (draft_calls (made_words (draft_answer b ws) ws))

pub record Drafts (self : Register) (ws : List ℕ) (out : Applied) : Type 0 where
  -- over any contents
  pub refused : (i k : ℕ) → out.answer ≡ Refused i k → (i < length ws) × Caused k × (out.register ≡ self)
  pub made : CallsMade self (draft_calls (made_words out.answer ws)) (replicate (length (made_words out.answer ws)) 0) [] out.register
  -- of a register that represents a book
  pub answers : (b : Book) → Represents self b → out.answer ≡ draft_answer b ws
  pub follows : (b : Book) → Represents self b → Represents out.register (draft_next b ws)
