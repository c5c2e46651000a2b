-- Laws of the lists that the closings up of a history give, and of how they lie in the one that is lent.
--   givens_append, length_givens, givens_short
--                   the lists of joined histories; one for each closing up; none is longer than a register has records
--   laid_past, laid_append, laid_gives
--                   lists laid one behind the other: what lies past them is as it was, more lie behind, and each lies over the front of its part
--   room_small      of the room that is lent, no more is used than a register has records
--   entry_answers, entry_follows, entry_given
--                   what an entry of a history promises: the book's answer, the book after it, and the lists laid
--   replayed_gives  of a replay, each closing up among the calls has its list in its part of the numbers
-- Assumes nothing.
use Rattle.std.specs.Prelude.{◌≡◌, refl, Bool, true, false, ℕ, suc, ◌+◌, ◌*◌, ◌≤◌, ltb, take, drop}
use Rattle.std.proofs.Math.Path.{sym, ap, ap₂, subst}
use Rattle.std.proofs.Common.{◌∙◌, length-drop, take-append-drop, length-take-le, take_at, drop_at, drop-drop, ltb-true, ltb-false}
use mathlib.Core.List.{List, [], ◌∷◌, ◌++◌, append_assoc}
use native.Mathlib.Omega.{arith}
use Rattle.std.proofs.Math.ListN.{length}
use Rattle.std.proofs.lemmas.List.{drop-append-le}
use Rattle.std.proofs.Math.Seq.{take-append-add, drop-append-add}
use Rattle.book.specs.Basics.{pick, over, All, all_none, all_more, tally}
use Rattle.book.specs.Causes.{bad_size, short_work, max_records}
use Rattle.book.specs.Book.{Book, Call, edit, undo, close, closed, close_answer, close_given, answer, next, given, fresh, after, givens}
use Rattle.book.proofs.BookLaws.{first-none, next_sound, fresh_sound}
use Rattle.book.proofs.SetLaws.{or_neither}
use Rattle.book.proofs.GivenLaws.{room_same, given_length}
use Rattle.book.specs.Sheets.{Sound}
use Rattle.book.proofs.ListLaws.{length_over}
use Rattle.register.specs.Calls.{answer_of}
use Rattle.register.specs.History.{Lent, Gives, none_given, more_given, Entry, is-call, no_call, entry_number, entry_next, entry_calls}
use Rattle.register.specs.Replaying.{room_most, EntrySteps}
use Rattle.register.specs.History.{calls_of, is_close, closings, laid, parts, replay_number}
use Rattle.register.specs.Replaying.{Replays}
use Rattle.register.specs.HistoryLaws.{represents_sound}
use Rattle.register.specs.Representation.{Represents}
use Rattle.register.specs.declared.Register.{Register}
use Rattle.register.specs.declared.Outcome.{Outcome}

-- ---- the lists of a history
pub givens_append : (b : Book) (cs ds : List Call) → givens b (cs ++ ds) ≡ givens b cs ++ givens (after b cs) ds
unfolding givens after
givens_append b [] ds = refl
givens_append b (edit a ∷ cs) ds = givens_append (next b (edit a)) cs ds
givens_append b (undo ∷ cs) ds = givens_append (next b undo) cs ds
givens_append b (close room ∷ cs) ds = ap (λ (l : List (List ℕ)). given b (close room) ∷ l) (givens_append (next b (close room)) cs ds)

-- one for each closing up
pub length_givens : (b : Book) (cs : List Call) → length (givens b cs) ≡ closings cs
unfolding givens tally is_close
length_givens b [] = refl
length_givens b (edit a ∷ cs) = omega (arith, length_givens (next b (edit a)) cs)
length_givens b (undo ∷ cs) = omega (arith, length_givens (next b undo) cs)
length_givens b (close room ∷ cs) = omega (arith, length_givens (next b (close room)) cs)

-- none is longer than a register has records
pub givens_short : (b : Book) (cs : List Call) → Sound b → All (λ g. length g ≤ max_records) (givens b cs)
unfolding givens
givens_short b [] o = all_none
givens_short b (edit a ∷ cs) o = givens_short (next b (edit a)) cs (next_sound b (edit a) o)
givens_short b (undo ∷ cs) o = givens_short (next b undo) cs (next_sound b undo o)
givens_short b (close room ∷ cs) o =
    all_more {x = given b (close room)} (omega (arith, (given_length b room).0, o.small)) (givens_short (next b (close room)) cs (next_sound b (close room) o))

-- ---- a list written over a front
-- written over the first k words, and the rest behind them
over_take : (g l : List ℕ) (k : ℕ) → length g ≤ k → k ≤ length l → over g (take k l) ++ drop k l ≡ over g l
over_take g l k p q =
    append_assoc g (drop (length g) (take k l)) (drop k l)
    ∙ ap (λ (t : List ℕ). g ++ t) (sym (drop-append-le (length g) (take k l) (drop k l) (omega (arith, length-take-le k l q)))
    ∙ ap (drop (length g)) (take-append-drop k l))

-- ---- lists laid one behind the other
front_length : (g l : List ℕ) → length g ≤ max_records → max_records ≤ length l → length (over g (take max_records l)) ≡ max_records
front_length g l h k = length_over g (take max_records l) (omega (arith, length-take-le max_records l k)) ∙ length-take-le max_records l k

-- what lies past them is as it was
pub laid_past : (gs : List (List ℕ)) (l : List ℕ) → All (λ g. length g ≤ max_records) gs → max_records * length gs ≤ length l
    → drop (max_records * length gs) (laid gs l) ≡ drop (max_records * length gs) l
unfolding laid
laid_past [] l a h = refl
laid_past (g ∷ gs) l (all_more s a) h =
    let m = max_records * length gs in
    let e : max_records * suc (length gs) ≡ max_records + m = omega arith in
    let f : length (over g (take max_records l)) ≡ max_records = front_length g l s (omega arith) in
    ap (λ (i : ℕ). drop i (over g (take max_records l) ++ laid gs (drop max_records l))) (e ∙ ap (λ (i : ℕ). i + m) (sym f))
    ∙ drop-append-add (over g (take max_records l)) (laid gs (drop max_records l)) m
    ∙ laid_past gs (drop max_records l) a (omega (arith, length-drop max_records l))
    ∙ drop-drop m max_records l
    ∙ ap (λ (i : ℕ). drop i l) (sym e)

-- more lists lie behind those that are laid
pub laid_append : (gs hs : List (List ℕ)) (l : List ℕ) → All (λ g. length g ≤ max_records) gs → max_records * length gs ≤ length l
    → laid (gs ++ hs) l ≡ take (max_records * length gs) (laid gs l) ++ laid hs (drop (max_records * length gs) l)
unfolding laid
laid_append [] hs l a h = refl
laid_append (g ∷ gs) hs l (all_more s a) h =
    let m = max_records * length gs in
    let e : max_records * suc (length gs) ≡ max_records + m = omega arith in
    let A = over g (take max_records l) in
    let B = laid gs (drop max_records l) in
    let f : length A ≡ max_records = front_length g l s (omega arith) in
    let t : take (max_records * suc (length gs)) (A ++ B) ≡ A ++ take m B =
    ap (λ (i : ℕ). take i (A ++ B)) (e ∙ ap (λ (i : ℕ). i + m) (sym f)) ∙ take-append-add A B m in
    let d : drop m (drop max_records l) ≡ drop (max_records * suc (length gs)) l = drop-drop m max_records l ∙ ap (λ (i : ℕ). drop i l) (sym e) in
    ap (λ (k : List ℕ). A ++ k) (laid_append gs hs (drop max_records l) a (omega (arith, length-drop max_records l)))
    ∙ sym (append_assoc A (take m B) (laid hs (drop m (drop max_records l))))
    ∙ ap₂ (λ (x y : List ℕ). x ++ laid hs y) (sym t) d

-- each lies over the front of its part
pub laid_gives : (gs : List (List ℕ)) (l : List ℕ) → All (λ g. length g ≤ max_records) gs → max_records * length gs ≤ length l
    → Gives gs (parts (length gs) (record { before = l; after = laid gs l }))
unfolding laid parts
laid_gives [] l a h = none_given
laid_gives (g ∷ gs) l (all_more s a) h =
    let A = over g (take max_records l) in
    let B = laid gs (drop max_records l) in
    let f : length A ≡ max_records = front_length g l s (omega arith) in
    more_given (take_at A B max_records f)
    (subst (λ (k : List ℕ). Gives gs (parts (length gs) (record { before = drop max_records l; after = k }))) (sym (drop_at A B max_records f))
    (laid_gives gs (drop max_records l) a (omega (arith, length-drop max_records l))))

-- ---- a room above what a register has records
room-most : (b : Book) (room : ℕ) → Sound b → close_answer b.n b.sheet (room_most room) ≡ close_answer b.n b.sheet room
room-most b room o = go (ltb max_records room) refl
  where
    go : (t : Bool) → ltb max_records room ≡ t → close_answer b.n b.sheet (pick t max_records room) ≡ close_answer b.n b.sheet room
    go true e = room_same b.n b.sheet max_records room o.small (omega (arith, o.small, ltb-true max_records room e))
    go false e = refl

pub room_small : (room : ℕ) → room_most room ≤ max_records
room_small room = go (ltb max_records room) refl
  where
    go : (t : Bool) → ltb max_records room ≡ t → pick t max_records room ≤ max_records
    go true e = omega arith
    go false e = ltb-false max_records room e

module _ (b : Book) (room : ℕ) (o : Sound b) where
  most_answer : answer b (close (room_most room)) ≡ answer b (close room)
  unfolding answer
  most_answer = room-most b room o

  most_next : next b (close (room_most room)) ≡ next b (close room)
  unfolding next
  most_next = ap (λ (k : ℕ). closed k b) (room-most b room o)

  most_given : given b (close (room_most room)) ≡ given b (close room)
  unfolding given
  most_given = ap (λ (k : ℕ). close_given k b) (room-most b room o)

-- ---- entries
module _ (self : Register) (l : Lent) (out : Outcome) (b : Book) (h : Represents self b) where
  -- a closing up of a history is lent a list of a length that it can use
  lent_length : (room : ℕ) → max_records ≤ length l.before → length (take (room_most room) l.before) ≡ room_most room
  lent_length room e = length-take-le (room_most room) l.before (omega (arith, room_small room))

  pub entry_answers : (e : Entry) → EntrySteps self e l out → max_records * closings (entry_calls e) ≤ length l.before
      → out.answer ≡ answer_of (entry_number b e)
  unfolding entry_number entry_calls tally is_close
  entry_answers (is-call (edit a)) s k = s.0.answers b h
  entry_answers (is-call undo) s k = s.0.answers b h
  entry_answers (is-call (close room)) s k =
      s.closes.steps.answers b h
      ∙ ap (λ (i : ℕ). answer_of (answer b (close i))) (lent_length room (omega arith))
      ∙ ap answer_of (most_answer b room (represents_sound h))
  entry_answers no_call s k = s.0

  pub entry_follows : (e : Entry) → EntrySteps self e l out → max_records * closings (entry_calls e) ≤ length l.before
      → Represents out.register (entry_next b e)
  unfolding entry_next entry_calls tally is_close
  entry_follows (is-call (edit a)) s k = s.0.follows b h
  entry_follows (is-call undo) s k = s.0.follows b h
  entry_follows (is-call (close room)) s k =
      subst (λ (c : Book). Represents out.register c)
      (ap (λ (i : ℕ). next b (close i)) (lent_length room (omega arith)) ∙ most_next b room (represents_sound h))
      (s.closes.steps.follows b h)
  entry_follows no_call s k = rw s.1 h

  pub entry_given : (e : Entry) → EntrySteps self e l out → max_records * closings (entry_calls e) ≤ length l.before
      → l.after ≡ laid (givens b (entry_calls e)) l.before
  unfolding entry_calls tally is_close givens laid
  entry_given (is-call (edit a)) s k = s.1
  entry_given (is-call undo) s k = s.1
  entry_given (is-call (close room)) s k =
      let j = room_most room in
      let g = given b (close room) in
      let m : max_records ≤ length l.before = omega arith in
      let e : given b (close (length (take j l.before))) ≡ g =
      ap (λ (i : ℕ). given b (close i)) (lent_length room m) ∙ most_given b room (represents_sound h) in
      let p : length g ≤ j = subst (λ (x : List ℕ). length x ≤ j) (most_given b room (represents_sound h)) (given_length b j).1 in
      let q : length g ≤ max_records = omega (arith, room_small room) in
      sym (take-append-drop j l.after)
      ∙ ap₂ (λ (x y : List ℕ). x ++ y) (s.closes.given b h ∙ ap (λ (x : List ℕ). over x (take j l.before)) e) s.past
      ∙ over_take g l.before j p (omega (arith, room_small room))
      ∙ sym (over_take g l.before max_records q m)
  entry_given no_call s k = s.2

-- ---- of a replay
replay_room : (n : ℕ) (words told numbers : List ℕ) → replay_number n words told numbers ≡ 0
    → (n ≤ max_records) × (max_records * closings (calls_of words) ≤ length numbers)
unfolding replay_number
replay_room n words told numbers z =
    let p = first-none bad_size _ _ z in
    let q = first-none short_work _ _ p.1 in (
      ltb-false max_records n (or_neither (ltb n 1) (ltb max_records n) p.0).1,
      ltb-false (length numbers) _ (or_neither (ltb (length told) (length words)) _ q.0).1,
    )

-- each closing up among the calls has its list in its part of the numbers
pub replayed_gives : {n : ℕ} {words : List ℕ} {list numbers : Lent} {out : Outcome}
    → Replays n words list numbers out → replay_number n words list.before numbers.before ≡ 0
    → Gives (givens (fresh n) (calls_of words)) (parts (closings (calls_of words)) numbers)
replayed_gives {n} {words} {list} {numbers} r z =
    let cs = calls_of words in
    let gs = givens (fresh n) cs in
    let m = replay_room n words list.before numbers.before z in
    let l = length_givens (fresh n) cs in
    let h : max_records * length gs ≤ length numbers.before = omega (arith, m.1) in
    subst (λ (k : ℕ). Gives gs (parts k numbers)) l
    (subst (λ (x : List ℕ). Gives gs (parts (length gs) (record { before = numbers.before; after = x }))) (sym (r.given z))
    (laid_gives gs numbers.before (givens_short (fresh n) cs (fresh_sound n m.0)) h))
