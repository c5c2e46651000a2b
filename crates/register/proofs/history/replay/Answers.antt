-- `register::history::replay` meets its contract. The loop's invariant: after i words the register represents the book after their calls, the
-- one list has the numbers told to them and then what stood there, and the other has the lists of the closings up among them, each in its 1,024
-- words. The measure is the words left. Assumes nothing.
use Prim.Native.Nat.{ℕ, ◌+◌, ◌*◌, ◌-◌, ◌≤◌, ◌<◌}
use mathlib.Core.Path.{◌≡◌, refl, sym, ap, ◌∙◌}
use mathlib.Core.List.{List}
use native.Mathlib.Omega.{arith}
use borrow.Author.Tests.{leb-true, leb-false}
use lib.ListN.{length, take, drop, set, get_or, length-drop}
use lib.Seq.{take_all}
use Rattle.book.specs.Basics.{tally}
use Rattle.book.specs.Causes.{max_records}
use Rattle.book.specs.Book.{fresh_answer, fresh, after, givens}
use Rattle.book.proofs.ListLaws.{rest_whole}
use Rattle.register.specs.Calls.{answer_of, answer_number}
use Rattle.register.specs.History.{Lent, word_call, entry_number, word_answers, entry_calls, calls_of, closings, laid}
use Rattle.register.specs.HistoryLaws.{number_answer, represents_sound}
use Rattle.register.specs.LaidLaws.{entry_answers, entry_follows, entry_given}
use Rattle.register.proofs.ReplayLaws.{replay_size, replay_short, replay_few, replay_free, replay_refused, after_turn, told_turn, closings_turn}
use Rattle.register.proofs.ReplayLaws.{closings_part, numbers_turn}
use Rattle.register.proofs.history.replay.Goals as goal
use Rattle.register.proofs.history.replay.Goals.{After-number_of}

-- the number that opening told
opened : (c : After-number_of) → c.number_of.result ≡ fresh_answer c.args.n
opened c = c.number_of.ensures ∙ ap answer_number c.fresh-opened.ensures.answers ∙ number_answer (fresh_answer c.args.n)

pub returns-then-number_of-ne0 : goal.returns-then-number_of-ne0
returns-then-number_of-ne0 c =
    let s = c.args in
    let o = opened ((goal.at.returns-then-number_of-ne0 c).After-number_of) in
    let z : (fresh_answer s.n ≡ 0 → ⊥) = λ z. c.if-number_of-ne0.true (o ∙ z) in
    let e = replay_size s.n s.words.now s.told.now s.numbers.now z in
    replay_refused s.n s.words.now s.told.now s.numbers.now 0 e (c.fresh-opened.ensures.empty z)

pub returns-then-told-words : goal.returns-then-told-words
returns-then-told-words c =
    let s = c.args in
    let made = sym (opened ((goal.at.returns-then-told-words c).After-number_of)) ∙ c.if-number_of-ne0.false in
    let e = replay_short s.n s.words.now s.told.now s.numbers.now made c.if-told-words.true in
    replay_refused s.n s.words.now s.told.now s.numbers.now 11 e c.empty.ensures

pub returns-then-not-lists_fit : goal.returns-then-not-lists_fit
returns-then-not-lists_fit c =
    let s = c.args in
    let made = sym (opened ((goal.at.returns-then-not-lists_fit c).After-number_of)) ∙ c.if-number_of-ne0.false in
    let few = leb-false _ _ (sym c.lists_fit.ensures ∙ c.if-not-lists_fit.true) in
    let e = replay_few s.n s.words.now s.told.now s.numbers.now made c.if-told-words.false few in
    replay_refused s.n s.words.now s.told.now s.numbers.now 11 e c.empty-then-not-lists_fit.ensures

pub loop-i-init : goal.loop-i-init
unfolding after word_answers calls_of tally givens laid
loop-i-init c =
    let made = sym (opened ((goal.at.loop-i-init c).After-number_of)) ∙ c.if-number_of-ne0.false in
    record { inside = omega arith; place = refl; book = c.fresh-opened.ensures.made made; said = refl; given = refl }

pub offset_bounds-numbers-at : goal.offset_bounds-numbers-at
offset_bounds-numbers-at c =
    let ws = c.args.words.now in
    let l = c.loop-i in
    let room : max_records * closings (calls_of ws) ≤ length c.args.numbers.now = leb-true _ _ (sym c.lists_fit.ensures ∙ c.if-not-lists_fit.false) in
    let place : l.at + max_records * closings (entry_calls (word_call (get_or ws l.i 0))) ≤ length l.numbers =
    omega (arith, l.invariant.place, room, closings_turn ws l.i c.loop-i-test.true, closings_part ws (l.i + 1)) in
    omega (arith, place)

pub slice_bounds-step-count : goal.slice_bounds-step-count
slice_bounds-step-count c =
    let ws = c.args.words.now in
    let l = c.loop-i in
    let room : max_records * closings (calls_of ws) ≤ length c.args.numbers.now = leb-true _ _ (sym c.lists_fit.ensures ∙ c.if-not-lists_fit.false) in
    let place : l.at + max_records * closings (entry_calls (word_call (get_or ws l.i 0))) ≤ length l.numbers =
    omega (arith, l.invariant.place, room, closings_turn ws l.i c.loop-i-test.true, closings_part ws (l.i + 1)) in
    omega (arith, place)

pub slice_bounds-step-start : goal.slice_bounds-step-start
slice_bounds-step-start c =
    let ws = c.args.words.now in
    let l = c.loop-i in
    let room : max_records * closings (calls_of ws) ≤ length c.args.numbers.now = leb-true _ _ (sym c.lists_fit.ensures ∙ c.if-not-lists_fit.false) in
    let place : l.at + max_records * closings (entry_calls (word_call (get_or ws l.i 0))) ≤ length l.numbers =
    omega (arith, l.invariant.place, room, closings_turn ws l.i c.loop-i-test.true, closings_part ws (l.i + 1)) in
    omega (arith, place)

pub overflow_add-at : goal.overflow_add-at
overflow_add-at c =
    let ws = c.args.words.now in
    let l = c.loop-i in
    let room : max_records * closings (calls_of ws) ≤ length c.args.numbers.now = leb-true _ _ (sym c.lists_fit.ensures ∙ c.if-not-lists_fit.false) in
    let place : l.at + max_records * closings (entry_calls (word_call (get_or ws l.i 0))) ≤ length l.numbers =
    omega (arith, l.invariant.place, room, closings_turn ws l.i c.loop-i-test.true, closings_part ws (l.i + 1)) in
    omega (arith, place, c.list_words-at.ensures)

pub loop-i-preserved : goal.loop-i-preserved
loop-i-preserved c =
    let ws = c.args.words.now in
    let l = c.loop-i in
    let room : max_records * closings (calls_of ws) ≤ length c.args.numbers.now = leb-true _ _ (sym c.lists_fit.ensures ∙ c.if-not-lists_fit.false) in
    let place : l.at + max_records * closings (entry_calls (word_call (get_or ws l.i 0))) ≤ length l.numbers =
    omega (arith, l.invariant.place, room, closings_turn ws l.i c.loop-i-test.true, closings_part ws (l.i + 1)) in
    let s = c.args in
    let made = sym (opened ((goal.at.loop-i-preserved c).After-number_of)) ∙ c.if-number_of-ne0.false in
    let b = after (fresh s.n) (calls_of (take l.i ws)) in
    let e = word_call (get_or ws l.i 0) in
    let h : l.i < length ws = c.loop-i-test.true in
    let t : l.i < length s.told.now = omega (arith, c.if-told-words.false) in
    let o = c.step-out in
    let a = c.number_of-in-loop-i in
    let lent : Lent = record { before = take (length l.numbers - l.at) (drop l.at l.numbers); after = o.new.numbers } in
    let whole : lent.before ≡ drop l.at l.numbers = rest_whole l.numbers l.at in
    let enough : max_records * closings (entry_calls e) ≤ length lent.before = omega (arith, ap length whole, length-drop l.at l.numbers, place) in
    let given = entry_given l.register lent o.result b l.invariant.book e o.ensures enough ∙ ap (laid (givens b (entry_calls e))) whole in
    let said : a.result ≡ entry_number b e =
    a.ensures ∙ ap answer_number (entry_answers l.register lent o.result b l.invariant.book e o.ensures enough) ∙ number_answer (entry_number b e) in
    record {
      inside = omega arith;
      place = omega (arith, l.invariant.place, c.list_words-at.ensures, closings_turn ws l.i h);
      book = rw (after_turn (fresh s.n) ws l.i h) (entry_follows l.register lent o.result b l.invariant.book e o.ensures enough);
      said = ap (λ (x : List ℕ). set x l.i a.result) l.invariant.said ∙ told_turn (fresh s.n) ws l.i h s.told.now a.result t said;
      given = numbers_turn (fresh s.n) ws l.i h (represents_sound (c.fresh-opened.ensures.made made)) s.numbers.now l.numbers
          o.new.numbers l.at l.invariant.given l.invariant.place (omega (arith, place, c.loop-i.auto.numbers)) c.loop-i.auto.numbers given;
    }

pub returns : goal.returns
returns c =
    let s = c.args in
    let ws = s.words.now in
    let k = c.loop-i in
    let made = sym (opened ((goal.at.returns c).After-number_of)) ∙ c.if-number_of-ne0.false in
    let room : max_records * closings (calls_of ws) ≤ length s.numbers.now = leb-true _ _ (sym c.lists_fit.ensures ∙ c.if-not-lists_fit.false) in
    let i : k.i ≡ length ws = omega arith in
    let a : take k.i ws ≡ ws = take_all k.i ws (omega arith) in
    let e = replay_free s.n ws s.told.now s.numbers.now made c.if-told-words.false room in
    record {
      answer = ap answer_of (sym e);
      refused = λ z. absurd (z e);
      told = λ _. rw (← i) (rw a at k.invariant.said);
      given = λ _. rw a at k.invariant.given;
      book = λ _. rw a at k.invariant.book;
    }
