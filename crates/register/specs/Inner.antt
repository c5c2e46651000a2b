-- What the inner functions of the register promise one another.
--   link_causes n marks k  the causes against the ends and the label of a link, in their order
--   Guarded n c t h ok    what `ranged` promises
--   register_of c links marks ring totals
--                         the register of counters and arrays
--   outcome_of e links marks ring totals
--                         the outcome of an edit of arrays, with what they hold then
--   AsLong ls ms hs ts    the arrays are as long as a register's
--   Whole c ls ms hs
--                         the counters are in range, and the arrays as long as a register's
--   relinks m             the edit that puts a link in or takes it out
--   Remarks e r m         the edit e of the record r is the change of its mark m
--   Holding self w r      what `hold` promises
--   Kept self r           all but the sheet is as it was
--   Tallied r             the totals of the register are those of its links' words
--   Changed self p r, TakenBack self kind x r
--                         what the inner edits and `taken_back` promise
--   Formed ws             the words of a register, as they are told: enough of them, the counters in range, each mark one of the three
--   KeepsOne ws           the front of ws is the words of a register
--   SizeIn ws n           n is the size of the register whose words are ws, 0 if they are no register's, and at most 1,024
--   mark_in ws x           the mark of the record x, as it stands among any words
--   Shown ws f l          of a register's words l is f of that register
--   Tested P ok           ok is whether P
--   DraftSteps self e out what is promised of an entry of a draft: of a call what `Steps` says; no call is refused with 15 and changes nothing
--   Reached self ws r     from the register self on, every word of ws was accepted, and they led to the register r
--   Loads ws out    what `load` promises: the register of the words, or, if they are no register's, 16 and the register of no records
--   Stores r before after ok
--                   what `store` promises: the register's words in the front, or, with too few words, or counters or marks out of
--                   range, false and nothing changed
-- Assumes nothing: these are definitions.
use Rattle.std.specs.Prelude.{◌≡◌, List, ◌∷◌, [], Bool, true, false, ◌||◌, ℕ, ◌*◌, ◌≤◌, ◌<◌, length, take, drop, get_or, replicate, leb}
use Rattle.book.specs.Basics.{pick, Rises}
use Rattle.book.specs.Causes.{Cause, no_record, bad_label, locked_end, already, missing, withdrawn_record, unknown_kind, number, labels, max_records, max_links}
use Rattle.book.specs.Causes.{max_held, not_open}
use Rattle.book.specs.Book.{Link, Book, Call, Edit, add, remove, lock, unlock, withdraw, reinstate, fresh}
use Rattle.links.specs.Parts.{word_total}
use Rattle.register.specs.Marks.{free_mark, lock_mark, withdrawn_mark, has_mark, Marked}
use Rattle.register.specs.Packed.{Packed, kind_unit, take_back_kind}
use Rattle.register.specs.Counters.{Ranged, InRange}
use Rattle.register.specs.Representation.{held_words, packed_of, Represents}
use Rattle.register.specs.Calls.{answer_of, Steps}
use Rattle.register.specs.History.{CallsMade, Entry, is-call, no_call}
use Rattle.register.specs.Drafts.{draft_calls, draft_numbers}
use Rattle.register.specs.Questions.{Sized}
use Rattle.register.specs.Words.{state_words, marks_at, Keeps, OfWords, Foreign}
use Rattle.register.specs.declared.Register.{Register}
use Rattle.register.specs.declared.Counters.{Counters}
use Rattle.register.specs.declared.Edited.{Edited}
use Rattle.register.specs.declared.Outcome.{Outcome}
use Rattle.register.specs.declared.Linking.{Linking}
use Rattle.register.specs.declared.Marking.{Marking}
use Rattle.register.specs.declared.Answer.TheVariants.{Done}

unfoldable pub link_causes : ℕ → List ℕ → Link → List (Cause × Bool)
link_causes n marks k =
    (no_record, leb n k.from || leb n k.to) ∷
    (withdrawn_record, has_mark withdrawn_mark marks k.from || has_mark withdrawn_mark marks k.to) ∷
    (bad_label, leb labels k.label) ∷
    (locked_end, has_mark lock_mark marks k.from || has_mark lock_mark marks k.to) ∷ []

pub record Guarded (n c t h : ℕ) (ok : Bool) : Type 0 where
  pub sure : ok ≡ true → Ranged n c t h
  pub none : ok ≡ false → Ranged n c t h → ⊥

abbrev pub register_of : Counters → (links marks ring totals : List ℕ) → Register
register_of c links marks ring totals =
    record { n = c.n; count = c.count; links = links; marks = marks; ring = ring; top = c.top; held = c.held; totals = totals }

abbrev pub outcome_of : Edited → (links marks ring totals : List ℕ) → Outcome
outcome_of e links marks ring totals = record { register = register_of e.counters links marks ring totals; answer = e.answer }

abbrev pub AsLong : (ls ms hs ts : List ℕ) → Type 0
AsLong ls ms hs ts = (length ls ≡ max_links) × (length ms ≡ max_records) × (length hs ≡ max_held) × (length ts ≡ labels)

pub record Whole (c : Counters) (ls ms hs : List ℕ) : Type 0 where
  pub ranged : Ranged c.n c.count c.top c.held
  pub links : length ls ≡ max_links
  pub marks : length ms ≡ max_records
  pub ring : length hs ≡ max_held

unfoldable pub relinks : Linking → Edit
relinks m =
    pick m.adds (add (record { from = m.from; label = m.label; to = m.to })) (remove (record { from = m.from; label = m.label; to = m.to }))

-- from, to, the cause if the record has the second mark already, the cause if it has another, the kind that is held
pub data Remarks : Edit → ℕ → Marking → Type 0 where
  locks : {r : ℕ} → Remarks (lock r) r
      (record { from = free_mark; to = lock_mark; already = number already; barred = number withdrawn_record; kind = 2 * kind_unit })
  unlocks : {r : ℕ} → Remarks (unlock r) r
      (record { from = lock_mark; to = free_mark; already = number missing; barred = number withdrawn_record; kind = 3 * kind_unit })
  withdraws : {r : ℕ} → Remarks (withdraw r) r
      (record { from = free_mark; to = withdrawn_mark; already = number already; barred = number locked_end; kind = 4 * kind_unit })
  reinstates : {r : ℕ} → Remarks (reinstate r) r
      (record { from = withdrawn_mark; to = free_mark; already = number missing; barred = number missing; kind = 5 * kind_unit })

-- one more word is held, and the oldest is forgotten where 256 were
pub record Holding (self : Register) (w : ℕ) (r : Register) : Type 0 where
  pub n : r.n ≡ self.n
  pub sheet : packed_of r ≡ packed_of self
  pub count : r.count ≡ self.count
  pub top : r.top < max_held
  pub few : r.held ≤ max_held
  pub words : held_words r ≡ take max_held (w ∷ held_words self)
  pub totals : r.totals ≡ self.totals

-- all but the sheet is as it was
pub record Kept (self r : Register) : Type 0 where
  pub n : r.n ≡ self.n
  pub ring : r.ring ≡ self.ring
  pub top : r.top ≡ self.top
  pub held : r.held ≡ self.held
  pub count : r.count ≤ max_links

abbrev pub Tallied : Register → Type 0
Tallied r = (l : ℕ) → l < labels → get_or r.totals l 0 ≡ word_total l (packed_of r).links

-- where the words ascend, the sheet is changed to p, and the totals follow
pub record Changed (self : Register) (p : Packed) (r : Register) : Type 0 where
  pub kept : Kept self r
  pub marks : r.marks ≡ p.marks
  pub sheet : Rises 0 (packed_of self).links → packed_of r ≡ p
  pub counted : Rises 0 (packed_of self).links → Tallied self → Tallied r

-- where the words ascend and there is room, an edit is taken back, and the totals follow
pub record TakenBack (self : Register) (kind x : ℕ) (r : Register) : Type 0 where
  pub kept : Kept self r
  pub marks : r.marks ≡ (take_back_kind kind x (packed_of self)).marks
  pub sheet : Rises 0 (packed_of self).links → length (take_back_kind kind x (packed_of self)).links ≤ max_links
      → packed_of r ≡ take_back_kind kind x (packed_of self)
  pub counted : Rises 0 (packed_of self).links → Tallied self → Tallied r

pub record Formed (ws : List ℕ) : Type 0 where
  pub long : state_words ≤ length ws
  pub ranged : Ranged (get_or ws 0 0) (get_or ws 1 0) (get_or ws 2 0) (get_or ws 3 0)
  pub marked : Marked (take max_records (drop marks_at ws))

abbrev pub KeepsOne : List ℕ → Type 0
KeepsOne ws = (r : Register) × Keeps ws r

abbrev pub SizeIn : List ℕ → ℕ → Type 0
SizeIn ws n = (n ≤ max_records) × OfWords ws Sized 0 n

unfoldable pub mark_in : List ℕ → ℕ → ℕ
mark_in ws x = get_or (take max_records (drop marks_at ws)) x free_mark

abbrev pub Shown : List ℕ → (Register → List ℕ) → List ℕ → Type 0
Shown ws f l = (r : Register) → Keeps ws r → l ≡ f r

pub record Tested (P : Type 0) (ok : Bool) : Type 0 where
  pub sure : ok ≡ true → P
  pub none : ok ≡ false → P → ⊥

pub data DraftSteps (self : Register) : Entry → Outcome → Type 0 where
  steps : {c : Call} {out : Outcome} → Steps self c out → DraftSteps self (is-call c) out
  turned_down : {out : Outcome} → out.answer ≡ answer_of (number unknown_kind) → out.register ≡ self → DraftSteps self no_call out

pub record Reached (self : Register) (ws : List ℕ) (r : Register) : Type 0 where
  pub made : CallsMade self (draft_calls ws) (replicate (length ws) 0) [] r
  pub numbers : (b : Book) → Represents self b → draft_numbers b ws ≡ replicate (length ws) 0

pub record Loads (ws : List ℕ) (out : Outcome) : Type 0 where
  pub loaded : out.answer ≡ Done → Keeps ws out.register
  pub refused : (out.answer ≡ Done → ⊥) → (out.answer ≡ answer_of (number not_open)) × Foreign ws × Represents out.register (fresh 0)

pub record Stores (r : Register) (before after : List ℕ) (ok : Bool) : Type 0 where
  pub done : ok ≡ true → Keeps after r × (drop state_words after ≡ drop state_words before)
  pub refused : ok ≡ false → (after ≡ before) × (state_words ≤ length before → InRange r → Marked r.marks → ⊥)
