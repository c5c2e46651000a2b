-- Laws by which a promise of the engine is carried over to words: words have one register (`keeps_same`), so what holds of the one that was loaded holds of
-- every register whose words they are.
--   refused_done          a refused call is not accepted
--   load_none, load_some  by the number of the answer: the words are no register's, or those of the register that was loaded
--   edit_kept             an edit over a register's words
--   close_foreign, close_kept
--                         closing up, in the same way
--   size_first, room_short, room_enough
--                         the number of asking for a fresh register: by its size first, then by the room
--   fresh_refused, fresh_short, fresh_made
--                         what asking for one promises, in each case
--   asked_foreign, asked  a question over words that are no register's, and over a register's
--   copied                words copied to the front of a list, the first that it takes
--   asked_list            a part of the words handed over so, which is what a register has there
--   told_word             what is read of words, told as a number
--   mark_told             whether a record has a mark, told so
-- Assumes nothing.
use mathlib.Core.Path.{◌≡◌, refl, sym, ap, subst, ◌∙◌}
use mathlib.Core.Bool.{Bool, true, false, ◌||◌}
use mathlib.Core.List.{List, ◌++◌}
use Prim.Native.Nat.{ℕ, ◌+◌, ◌≤◌, ◌<◌}
use native.Mathlib.Decide.{dec_lt}
use native.Mathlib.Omega.{arith}
use mir.Val.{bool_byte}
use lib.Dec.{ltb}
use lib.ListN.{length, take, drop}
use borrow.Author.Tests.{lt-ltb, le-ltb}
use Rattle.book.specs.Basics.{pick, bit}
use Rattle.book.specs.Causes.{short_work, not_open, number, first_number, max_records}
use Rattle.book.specs.Book.{Call, close, fresh_answer}
use Rattle.answers.specs.Answers.{FirstPart}
use Rattle.answers.specs.Written.{written, Wrote}
use Rattle.answers.specs.AnswerLaws.{part_given}
use Rattle.answers.specs.declared.Counted.{Counted}
use Rattle.answers.specs.declared.Counted.TheVariants.{Count}
use Rattle.register.specs.Representation.{Represents}
use Rattle.register.specs.Marks.{has_mark}
use Rattle.register.specs.Calls.{answer_number, Opens, Steps, Closes}
use Rattle.register.specs.HistoryLaws.{number_answer}
use Rattle.register.specs.Inner.{Shown}
use Rattle.register.specs.Words.{state_words, Keeps, Foreign, OfWords, Edits}
use Rattle.register.specs.Inner.{Loads, Stores}
use Rattle.register.specs.MarkLaws.{represents_marked}
use Rattle.register.specs.WordLaws.{keeps_long, keeps_same, load_done, edit_foreign, edit_stepped}
use Rattle.register.specs.declared.Register.{Register}
use Rattle.register.specs.declared.Outcome.{Outcome}
use Rattle.register.specs.declared.Answer.TheVariants.{Done, Refused}
use Rattle.host.specs.Host.{fresh_number, Freshens, refusal, told_counted, Told, Asked}
use Rattle.host.specs.Histories.{Renumbers}
use Rattle.host.specs.Inner.{Finishes, refused, kept, lost}

-- a refused call is not accepted
pub refused_done : {k : ℕ} → Refused k ≡ Done → ⊥
refused_done e = let z : ◌≡◌ {A = ℕ} 0 1 = cc in omega arith

-- ---- what was loaded, by the number of the answer
module _ {ws : List ℕ} {o : Outcome} {k : ℕ} (l : Loads ws o) (e : k ≡ answer_number o.answer) where
  pub load_none : (k ≡ 0 → ⊥) → Foreign ws
  load_none z = (l.refused (λ d. z (e ∙ ap answer_number d))).1

  pub load_some : k ≡ 0 → Keeps ws o.register
  load_some z = l.loaded (load_done l (sym e ∙ z))

-- ---- edits
pub edit_kept : {c : Call} {before after : List ℕ} {k : ℕ} {r : Register} → Keeps before r → {o : Outcome} → Steps r c o → Finishes o before after k
    → Edits c before after k
edit_kept {before = before} w {o} t (refused n e a) =
    edit_stepped o w (λ _. a) (ap (drop state_words) a) t e
    (subst (λ (ws : List ℕ). Keeps ws o.register) (sym a) (subst (Keeps before) (sym (t.refused n)) w))
edit_kept w {o} t (kept n e v p) = edit_stepped o w (λ z. absurd (z e)) p t (e ∙ sym (ap answer_number n)) v
edit_kept w t (lost n e a g) = let f = t.formed n in absurd (g (keeps_long w) f.0 (f.1 w.marked))

-- ---- closing up
pub close_foreign : (ws list : List ℕ) → Foreign ws → Renumbers (record { before = ws; after = ws }) (record { before = list; after = list }) (number not_open)
close_foreign ws list f =
    record { edits = edit_foreign (close (length list)) ws f; refused = λ _. refl; past = λ r k. refl; given = λ b h. absurd (f h.0 h.1) }

list_left : {before after list list' : List ℕ} {k : ℕ} {r : Register} {o : Outcome} → Keeps before r → Closes r list list' o → Finishes o before after k
    → (k ≡ 0 → ⊥) → list' ≡ list
list_left w c (refused n e a) z = c.refused n
list_left w c (kept n e v p) z = absurd (z e)
list_left w c (lost n e a g) z = let m = c.formed n in absurd (g (keeps_long w) m.0 m.1)

pub close_kept : {before after list list' : List ℕ} {k : ℕ} {r : Register} {o : Outcome} → Keeps before r → Closes r list list' o → Finishes o before after k
    → Renumbers (record { before = before; after = after }) (record { before = list; after = list' }) k
close_kept {list = list} {list'} w c f = record {
  edits = edit_kept w c.steps f;
  refused = list_left w c f;
  past = λ s v. subst (λ (q : Register). drop q.n list' ≡ drop q.n list) (keeps_same w v) c.past;
  given = λ b h. c.given b (subst (λ (q : Register). Represents q b) (sym (keeps_same w h.1)) h.2);
}

-- ---- a fresh register
-- the number of asking for one: by its size first, then by the room
module _ (n room : ℕ) where
  pub size_first : (fresh_answer n ≡ 0 → ⊥) → fresh_number n room ≡ fresh_answer n
  unfolding fresh_answer fresh_number first_number number
  size_first z = go (ltb n 1 || ltb max_records n) z
    where
      go : (t : Bool) → (◌≡◌ {A = ℕ} (pick t 1 0) 0 → ⊥) → ◌≡◌ {A = ℕ} (pick t 1 (pick (ltb room state_words) 12 0)) (pick t 1 0)
      go true z = refl
      go false z = absurd (z refl)

  by_room : fresh_answer n ≡ 0 → fresh_number n room ≡ pick (ltb room state_words) (number short_work) 0
  unfolding fresh_answer fresh_number first_number number
  by_room z = go (ltb n 1 || ltb max_records n) z
    where
      go : (t : Bool) → ◌≡◌ {A = ℕ} (pick t 1 0) 0 → ◌≡◌ {A = ℕ} (pick t 1 (pick (ltb room state_words) 12 0)) (pick (ltb room state_words) 12 0)
      go true z = absurd (omega arith)
      go false z = refl

  pub room_short : fresh_answer n ≡ 0 → room < state_words → fresh_number n room ≡ number short_work
  room_short z l = by_room z ∙ ap (λ (t : Bool). pick t (number short_work) 0) (lt-ltb room state_words l)

  pub room_enough : fresh_answer n ≡ 0 → state_words ≤ room → fresh_number n room ≡ 0
  room_enough z l = by_room z ∙ ap (λ (t : Bool). pick t (number short_work) 0) (le-ltb room state_words l)

module _ {n : ℕ} {o : Outcome} (p : Opens n o) (before : List ℕ) where
  answered : {k : ℕ} → k ≡ answer_number o.answer → k ≡ fresh_answer n
  answered e = e ∙ ap answer_number p.answers ∙ number_answer (fresh_answer n)

  pub fresh_refused : {k : ℕ} → k ≡ answer_number o.answer → (k ≡ 0 → ⊥) → Freshens n before before k
  fresh_refused {k} e z = record {
    number = answered e ∙ sym (size_first n (length before) (λ y. z (answered e ∙ y)));
    refused = λ _. refl;
    made = λ y. absurd (z y);
    past = refl;
  }

  pub fresh_short : answer_number o.answer ≡ 0 → (after : List ℕ) (ok : Bool)
      → Stores o.register before after ok → ok ≡ false → Freshens n before after (number short_work)
  unfolding number
  fresh_short e after ok s f = go (dec_lt (length before) state_words)
    where
      z : fresh_answer n ≡ 0
      z = sym (answered (sym e))

      go : Dec (length before < state_words) → Freshens n before after (number short_work)
      go (yes l) = record {
        number = sym (room_short n (length before) z l);
        refused = λ _. (s.refused f).0;
        made = λ y. absurd (let w : ◌≡◌ {A = ℕ} 12 0 = y in omega arith);
        past = ap (drop state_words) (s.refused f).0;
      }
      go (no l) = absurd ((s.refused f).1 (omega (arith, l)) (p.made z).ranged (represents_marked (p.made z)))

  pub fresh_made : answer_number o.answer ≡ 0 → (after : List ℕ) (ok : Bool) → length after ≡ length before
      → Stores o.register before after ok → ok ≡ true → Freshens n before after 0
  fresh_made e after ok l s f =
      let z : fresh_answer n ≡ 0 = sym (answered (sym e)) in
      let w = s.done f in
      record {
        number = sym (room_enough n (length before) z (omega (arith, l, keeps_long w.0)));
        refused = λ y. absurd (y refl);
        made = λ _. (o.register, w.0, p.made z);
        past = w.1;
      }

-- ---- questions
module _ {A : Type 0} {ws : List ℕ} {P : Register → A → Type 0} {f : A → ℕ} {before after : List ℕ} {k : ℕ} where
  pub asked_foreign : Foreign ws → k ≡ refusal (number not_open) → after ≡ before → Asked ws P f before after k
  asked_foreign g e a = record { answers = λ r w. absurd (g r w); foreign = λ _. (e, a) }

  pub asked : {r : Register} → Keeps ws r → (a : A) → P r a → k ≡ f a → Asked ws P f before after k
  asked {r} w a p e = record { answers = λ s v. subst (λ (t : Register). Told (P t) f k) (keeps_same w v) (a, p, e); foreign = λ g. absurd (g r w) }

-- words copied to the front of a list, the first that it takes
pub copied : {before after : List ℕ} {q : ℕ} (l xs : List ℕ) → Wrote 0 xs before after q → xs ≡ take (length before) l
    → FirstPart l before after (Count (length l))
unfolding written
copied {before} {after} l xs c q =
    let z : 0 + length xs ≡ length xs = omega arith in
    part_given l before after (length l) refl
    (c.contents ∙ ap (λ (j : ℕ). xs ++ drop j before) z ∙ ap (λ (ys : List ℕ). ys ++ drop (length ys) before) q)

pub asked_list : {ws before after part : List ℕ} {k : ℕ} {Q : Register → Counted → Type 0} (f : Register → List ℕ) → Shown ws f part
    → Asked ws (λ _. FirstPart part before after) told_counted before after k
    → ((r : Register) → Keeps ws r → (a : Counted) → FirstPart (f r) before after a → Q r a) → Asked ws Q told_counted before after k
asked_list {before = before} {after} f s q g = record {
  answers = λ r w.
      let t = q.answers r w in
      (t.0, g r w t.0 (subst (λ (l : List ℕ). FirstPart l before after t.0) (s r w) t.1), t.2);
  foreign = q.foreign;
}

-- what is read of words, told as a number
pub told_word : {A : Type 0} {ws : List ℕ} {P Q : Register → A → Type 0} {f : A → ℕ} {none a : A} {k : ℕ}
    → ((r : Register) → Keeps ws r → P r a → Q r a) → OfWords ws P none a → k ≡ f a → OfWords ws (λ r. Told (Q r) f) (f none) k
told_word {f = f} {a = a} g o e = record { kept = λ r w. (a, g r w (o.kept r w), e); foreign = λ z. e ∙ ap f (o.foreign z) }

byte : (t : Bool) → bool_byte t ≡ bit t
byte true = refl
byte false = refl

-- by a bit
pub mark_told : {ws : List ℕ} {Q : Register → Bool → Type 0} (m x : ℕ) (t : Bool) → ((r : Register) → Keeps ws r → Q r (has_mark m r.marks x))
    → OfWords ws (λ r u. u ≡ has_mark m r.marks x) false t → OfWords ws (λ r. Told (Q r) bit) 0 (bool_byte t)
mark_told {Q = Q} m x t g o = told_word (λ r w e. subst (Q r) (sym e) (g r w)) o (byte t)
