-- What a call by its word and a whole replay promise.
--   room_most room         of a list lent to a closing up of a history, how many words are used: no more than a register has records
--   EntryCloses self k l out
--                         what is promised of a closing up with the first k words of the list l
--   EntrySteps self e l out
--                         what is promised of an entry, with a list l for a closing up: of a call, what `Steps` and `Closes` say; of no call, that it is
--                         refused and changes nothing; of any but a closing up, that the list is as it was
--   Replays               what `replay` promises
-- Assumes nothing: these are definitions.
use Rattle.std.specs.Prelude.{◌≡◌, List, ◌++◌, ℕ, length, take, drop, ltb}
use Rattle.book.specs.Basics.{pick}
use Rattle.book.specs.Causes.{unknown_kind, number, max_records}
use Rattle.book.specs.Book.{edit, undo, close, fresh, after, givens}
use Rattle.register.specs.Representation.{Represents}
use Rattle.register.specs.Calls.{answer_of, Steps, Closes}
use Rattle.register.specs.declared.Register.{Register}
use Rattle.register.specs.declared.Outcome.{Outcome}
use Rattle.register.specs.History.{Lent, Entry, word_answers, calls_of, laid, replay_number, is-call, no_call}

abbrev pub room_most : ℕ → ℕ
room_most room = pick (ltb max_records room) max_records room

pub record EntryCloses (self : Register) (k : ℕ) (l : Lent) (out : Outcome) : Type 0 where
  pub closes : Closes self (take k l.before) (take k l.after) out
  pub past : drop k l.after ≡ drop k l.before

abbrev pub EntrySteps : Register → Entry → Lent → Outcome → Type 0
EntrySteps self (is-call (edit a)) l out = Steps self (edit a) out × (l.after ≡ l.before)
EntrySteps self (is-call undo) l out = Steps self undo out × (l.after ≡ l.before)
EntrySteps self (is-call (close room)) l out = EntryCloses self (room_most room) l out
EntrySteps self no_call l out = (out.answer ≡ answer_of (number unknown_kind)) × (out.register ≡ self) × (l.after ≡ l.before)

-- of the words of a list, on a fresh register of n records: the number told to each in one list, the words of the list past them as they were, the lists
-- that the closings up give in the other, and the register that represents the book after the calls among them; a refused replay leaves both lists as
-- they were and hands back no records
pub record Replays (n : ℕ) (words : List ℕ) (list numbers : Lent) (out : Outcome) : Type 0 where
  pub answer : out.answer ≡ answer_of (replay_number n words list.before numbers.before)
  pub refused : (replay_number n words list.before numbers.before ≡ 0 → ⊥)
      → (list.after ≡ list.before) × (numbers.after ≡ numbers.before) × Represents out.register (fresh 0)
  pub told : replay_number n words list.before numbers.before ≡ 0 → list.after ≡ word_answers (fresh n) words ++ drop (length words) list.before
  pub given : replay_number n words list.before numbers.before ≡ 0 → numbers.after ≡ laid (givens (fresh n) (calls_of words)) numbers.before
  pub book : replay_number n words list.before numbers.before ≡ 0 → Represents out.register (after (fresh n) (calls_of words))
