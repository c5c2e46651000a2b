-- The history theorem: whatever calls are made, refused ones included, the answers and the lists given are the book's, and the register at the end represents
-- the book at the end. And laws of a history as words.
--   number_answer, answer_done, by_number
--                     an answer and its number
--   answered, kept, given_lent
--                     of calls made one after the other: the numbers told, the register at the end and the lists lent are the book's
--   history           so of a history of any length from a fresh register
--   made_history      so of every register that calls made
--   Members e b       what the register e and the book b have in common, as sets: the links, each once, the totals, and the locks
--   members, history_members
--                     so of a register that represents the book, at the end of a history
--   represents_sound  a book that a register represents is sound
--   after-append, after_entry
--                     the book after two lists of calls, and after an entry and more calls
--   calls_append, word_answers_length, word_answers_append
--                     the calls among joined lists of words, and the numbers told to words
--   told-calls        the numbers told to the calls among words are the book's answers to them
--   Small c           the arguments of the call are as wide as the frames': records of 16 bits, a label of 8; and the length of a list has 40 bits
--   has_word          every such call has a word
-- Assumes nothing.
use Rattle.std.specs.Prelude.{◌≡◌, List, [], ◌∷◌, ◌++◌, ℕ, zero, suc, ◌+◌, ◌*◌, ◌/◌, ◌%◌, ◌<◌, eqb, length, take, get_or}
use Rattle.std.proofs.Math.Path.{refl}
use Rattle.std.proofs.Common.{ap, ap₂, sym, ◌∙◌, append_assoc, arith, le-ltb}
use Rattle.book.specs.Basics.{pick, All, all_none, all_more}
use Rattle.book.specs.Causes.{labels, number, first_number, max_records}
use Rattle.book.specs.Book.{same_link, Sheet, Book, add, remove, lock, unlock, withdraw, reinstate, Call, edit, undo, close, is_locked, is_withdrawn, total}
use Rattle.book.specs.Book.{answer, next, fresh_answer, fresh, answers, after, givens}
use Rattle.book.specs.Sheets.{Distinct, Fit, Sound}
use Rattle.links.specs.Links.{Linked}
use Rattle.register.specs.Marks.{lock_mark, withdrawn_mark, has_mark}
use Rattle.register.specs.Packed.{Packed, take_back, Piled}
use Rattle.register.specs.Representation.{held_words, packed_of, Represents}
use Rattle.register.specs.MarkLaws.{shows_locked, shows_withdrawn}
use Rattle.register.specs.Calls.{answer_of, answer_number}
use Rattle.register.specs.History.{Lent, CallsMade, done, more_edit, more_undo, more_close, Gives, none_given, more_given}
use Rattle.register.specs.History.{add_kind, remove_kind, lock_kind, unlock_kind, undo_kind, withdraw_kind, reinstate_kind, close_kind, kind_call, word_call}
use Rattle.register.specs.History.{Entry, is-call, no_call, entry_number, entry_next, entry_calls, is_call}
use Rattle.register.specs.History.{word_answers, calls_of, told_calls}
use Rattle.register.specs.Made.{MadeBy}
use Rattle.register.specs.declared.Register.{Register}
use Rattle.register.specs.declared.Answer.{Answer}
use Rattle.register.specs.declared.Answer.TheVariants.{Done, Refused}

pub number_answer : (k : ℕ) → answer_number (answer_of k) ≡ k
number_answer zero = refl
number_answer (suc k) = refl

pub answer_done : (a : Answer) (k : ℕ) → a ≡ answer_of k → answer_number a ≡ 0 → a ≡ Done
answer_done a zero e z = e
answer_done a (suc k) e z = absurd (omega (arith, ap answer_number e, z))

pub by_number : (a : Answer) (k : ℕ) → k ≡ answer_number a → (k ≡ 0 → ⊥) → a ≡ Refused k
by_number Done k e z = absurd (z e)
by_number (Refused j) k e z = ap Refused (sym e)

told_more : (a : Answer) (k : ℕ) {told rest : List ℕ} → a ≡ answer_of k → told ≡ rest → answer_number a ∷ told ≡ k ∷ rest
told_more a k e t = ap₂ (λ (x : ℕ) (l : List ℕ). x ∷ l) (ap answer_number e ∙ number_answer k) t

module _ {e : Register} where
  pub answered : {r : Register} {cs : List Call} {told : List ℕ} {ls : List Lent} → CallsMade r cs told ls e → (b : Book) → Represents r b → told ≡ answers b cs
  unfolding answers
  answered done b h = refl
  answered (more_edit {a = a} out s run) b h = told_more out.answer (answer b (edit a)) (s.answers b h) (answered run (next b (edit a)) (s.follows b h))
  answered (more_undo out s run) b h = told_more out.answer (answer b undo) (s.answers b h) (answered run (next b undo) (s.follows b h))
  answered (more_close l out s run) b h =
      let c = close (length l.before) in
      told_more out.answer (answer b c) (s.steps.answers b h) (answered run (next b c) (s.steps.follows b h))

  pub kept : {r : Register} {cs : List Call} {told : List ℕ} {ls : List Lent}
      → CallsMade r cs told ls e → (b : Book) → Represents r b → Represents e (after b cs)
  unfolding after
  kept done b h = h
  kept (more_edit out s run) b h = kept run (next b _) (s.follows b h)
  kept (more_undo out s run) b h = kept run (next b _) (s.follows b h)
  kept (more_close l out s run) b h = kept run (next b _) (s.steps.follows b h)

  pub given_lent : {r : Register} {cs : List Call} {told : List ℕ} {ls : List Lent}
      → CallsMade r cs told ls e → (b : Book) → Represents r b → Gives (givens b cs) ls
  unfolding givens
  given_lent done b h = none_given
  given_lent (more_edit out s run) b h = given_lent run (next b _) (s.follows b h)
  given_lent (more_undo out s run) b h = given_lent run (next b _) (s.follows b h)
  given_lent (more_close l out s run) b h = more_given (s.given b h) (given_lent run (next b _) (s.steps.follows b h))

-- a history of any length from a fresh register
pub history : (n : ℕ) {r e : Register} {cs : List Call} {told : List ℕ} {ls : List Lent} → Represents r (fresh n) → CallsMade r cs told ls e
    → (told ≡ answers (fresh n) cs) × Gives (givens (fresh n) cs) ls × Represents e (after (fresh n) cs)
history n h run = (answered run (fresh n) h, given_lent run (fresh n) h, kept run (fresh n) h)

-- of every register that calls made
pub made_history : {n : ℕ} {cs : List Call} {r : Register} (M : MadeBy n cs r)
    → (M.told ≡ answers (fresh n) cs) × Gives (givens (fresh n) cs) M.lists × Represents r (after (fresh n) cs)
unfolding fresh_answer first_number number
made_history {n} M =
    let z : fresh_answer n ≡ 0 = rw (le-ltb n 1 M.some, le-ltb max_records n M.few) in
    history n (M.opens.made z) M.calls

-- ---- what the register at the end shows
pub record Members (e : Register) (b : Book) : Type 0 where
  -- the register's words are those of the book's links, ascending, each once; and no link of the book is there twice
  pub links : Linked (take e.count e.links) b.sheet
  pub once : Distinct same_link b.sheet.links
  pub count : length (take e.count e.links) ≡ length b.sheet.links
  -- the register's total of each label is the number of the book's links of that label
  pub totals : (l : ℕ) → l < labels → get_or e.totals l 0 ≡ total b.sheet l
  -- a record is locked in the register exactly if it is in the book, and so is a withdrawn one; and none of either is in the book twice
  pub locks : (r : ℕ) → has_mark lock_mark e.marks r ≡ is_locked b.sheet r
  pub single : Distinct eqb b.sheet.locks
  pub withdrawn : (r : ℕ) → has_mark withdrawn_mark e.marks r ≡ is_withdrawn b.sheet r
  pub apart : Distinct eqb b.sheet.withdrawn

pub members : {e : Register} {b : Book} → Represents e b → Members e b
members h =
    let s = h.sheet in
    record {
      links = s.links;
      once = s.fit.once;
      count = s.count;
      totals = h.totals;
      locks = shows_locked s;
      single = s.fit.single;
      withdrawn = shows_withdrawn s;
      apart = s.fit.apart;
    }

pub history_members : (n : ℕ) {r e : Register} {cs : List Call} {told : List ℕ} {ls : List Lent} → Represents r (fresh n) → CallsMade r cs told ls e
    → (told ≡ answers (fresh n) cs) × Gives (givens (fresh n) cs) ls × Members e (after (fresh n) cs)
history_members n h run = let o = history n h run in (o.0, o.1, members o.2)

-- every sheet of a book that a register represents fits
piled_fit : (n : ℕ) (p : Packed) (ws : List ℕ) (ss : List Sheet) → Piled n p ws ss → All (Fit n) ss
unfolding Piled
piled_fit n p [] [] h = all_none
piled_fit n p [] (s ∷ ss) h = absurd h
piled_fit n p (w ∷ ws) [] h = absurd h
piled_fit n p (w ∷ ws) (s ∷ ss) h = all_more h.0.fit (piled_fit n (take_back w p) ws ss h.1)

pub represents_sound : {r : Register} {b : Book} → Represents r b → Sound b
represents_sound {r} {b} h =
    record { small = omega (arith, h.size, h.ranged.size); sheet = h.sheet.fit; pile = piled_fit b.n (packed_of r) (held_words r) b.pile h.pile }

-- ---- entries
pub after-append : (b : Book) (cs ds : List Call) → after b (cs ++ ds) ≡ after (after b cs) ds
unfolding after
after-append b [] ds = refl
after-append b (c ∷ cs) ds = after-append (next b c) cs ds

pub after_entry : (b : Book) (e : Entry) (cs : List Call) → after b (entry_calls e ++ cs) ≡ after (entry_next b e) cs
unfolding after entry_calls entry_next
after_entry b (is-call c) cs = refl
after_entry b no_call cs = refl

-- ---- words
pub calls_append : (ws vs : List ℕ) → calls_of (ws ++ vs) ≡ calls_of ws ++ calls_of vs
unfolding calls_of
calls_append [] vs = refl
calls_append (w ∷ ws) vs =
    ap (λ (l : List Call). entry_calls (word_call w) ++ l) (calls_append ws vs) ∙ sym (append_assoc (entry_calls (word_call w)) (calls_of ws) (calls_of vs))

pub word_answers_length : (b : Book) (ws : List ℕ) → length (word_answers b ws) ≡ length ws
unfolding word_answers
word_answers_length b [] = refl
word_answers_length b (w ∷ ws) = ap suc (word_answers_length (entry_next b (word_call w)) ws)

-- after the words ws the book is the one after their calls: by it more words are answered
pub word_answers_append : (b : Book) (ws vs : List ℕ) → word_answers b (ws ++ vs) ≡ word_answers b ws ++ word_answers (after b (calls_of ws)) vs
unfolding word_answers calls_of after
word_answers_append b [] vs = refl
word_answers_append b (w ∷ ws) vs =
    ap (λ (l : List ℕ). entry_number b (word_call w) ∷ l) (word_answers_append (entry_next b (word_call w)) ws vs
    ∙ ap (λ (a : Book). word_answers (entry_next b (word_call w)) ws ++ word_answers a vs) (sym (after_entry b (word_call w) (calls_of ws))))

-- the numbers told to the calls are the book's answers to them
pub told-calls : (b : Book) (ws : List ℕ) → told_calls ws (word_answers b ws) ≡ answers b (calls_of ws)
unfolding word_answers calls_of told_calls is_call entry_number entry_next entry_calls answers
told-calls b [] = refl
told-calls b (w ∷ ws) = go (word_call w) (told-calls (entry_next b (word_call w)) ws)
  where
    go : (e : Entry) → told_calls ws (word_answers (entry_next b e) ws) ≡ answers (entry_next b e) (calls_of ws)
        → pick (is_call e) (entry_number b e ∷ told_calls ws (word_answers (entry_next b e) ws)) (told_calls ws (word_answers (entry_next b e) ws))
        ≡ answers b (entry_calls e ++ calls_of ws)
    go (is-call c) h = ap (λ (l : List ℕ). answer b c ∷ l) h
    go no_call h = h

-- ---- every call that a frame can carry has a word, and so has every closing up with a list whose length has 40 bits
abbrev call_word : ℕ → ℕ → ℕ → ℕ → ℕ
call_word k f l t = ((k * 65536 + f) * 256 + l) * 65536 + t

word_of : (k f l t : ℕ) → f < 65536 → l < 256 → t < 65536
    → word_call (call_word k f l t) ≡ pick (eqb k close_kind) (is-call (close ((f * 256 + l) * 65536 + t))) (kind_call k f l t)
unfolding word_call
word_of k f l t p q r =
    let a : call_word k f l t / 1099511627776 ≡ k = omega arith in
    let b : call_word k f l t / 16777216 % 65536 ≡ f = omega arith in
    let c : call_word k f l t / 65536 % 256 ≡ l = omega arith in
    let d : call_word k f l t % 65536 ≡ t = omega arith in
    let e : call_word k f l t % 1099511627776 ≡ (f * 256 + l) * 65536 + t = omega arith in
    rw (a, b, c, d, e)

room_of : (room : ℕ) → room < 1099511627776 → word_call (close_kind * 1099511627776 + room) ≡ is-call (close room)
unfolding word_call
room_of room h =
    let a : (close_kind * 1099511627776 + room) / 1099511627776 ≡ close_kind = omega arith in
    let e : (close_kind * 1099511627776 + room) % 1099511627776 ≡ room = omega arith in
    rw (a, e)

pub Small : Call → Type 0
Small (edit (add k)) = (k.from < 65536) × (k.label < 256) × (k.to < 65536)
Small (edit (remove k)) = (k.from < 65536) × (k.label < 256) × (k.to < 65536)
Small (edit (lock r)) = r < 65536
Small (edit (unlock r)) = r < 65536
Small (edit (withdraw r)) = r < 65536
Small (edit (reinstate r)) = r < 65536
Small undo = Unit {0}
Small (close room) = room < 1099511627776

pub has_word : (c : Call) → Small c → (w : ℕ) × (word_call w ≡ is-call c)
unfolding Small kind_call
has_word (edit (add k)) h = (call_word add_kind k.from k.label k.to, word_of add_kind k.from k.label k.to h.0 h.1 h.2)
has_word (edit (remove k)) h = (call_word remove_kind k.from k.label k.to, word_of remove_kind k.from k.label k.to h.0 h.1 h.2)
has_word (edit (lock r)) h = (call_word lock_kind r 0 0, word_of lock_kind r 0 0 h (omega arith) (omega arith))
has_word (edit (unlock r)) h = (call_word unlock_kind r 0 0, word_of unlock_kind r 0 0 h (omega arith) (omega arith))
has_word (edit (withdraw r)) h = (call_word withdraw_kind r 0 0, word_of withdraw_kind r 0 0 h (omega arith) (omega arith))
has_word (edit (reinstate r)) h = (call_word reinstate_kind r 0 0, word_of reinstate_kind r 0 0 h (omega arith) (omega arith))
has_word undo h = (call_word undo_kind 0 0 0, word_of undo_kind 0 0 0 (omega arith) (omega arith) (omega arith))
has_word (close room) h = (close_kind * 1099511627776 + room, room_of room h)
