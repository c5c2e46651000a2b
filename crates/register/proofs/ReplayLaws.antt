-- Laws of replaying a list of words: its refusals, the kinds that are no call, and the numbers told and the book after one word more.
--   replay_size, replay_short, replay_few, replay_free, replay_refused
--                         the number of replaying: 1, 12 for the answers, 12 for the numbers, none; a refused one leaves both lists
--   kind_none             a kind that is none of the calls'
--   called, uncalled      an entry that is a call and no closing up, and one that is no call: the list is as it was
--   set_next              one number more behind those that are told
--   after_turn, told_turn, givens_turn
--                         one word more: the book, the numbers told and the lists given
--   kind_open, closings_turn, closings_part
--                         how many closings up there are: none in another kind, one word more, in a part
--   roomed, entry_closes  the words that a closing up uses, and what it then promises
--   numbers_turn          the list of numbers after one word more: what its entry gives lies in the part from its place on
-- Assumes nothing.
use mathlib.Core.Path.{◌≡◌, refl, sym, ap, ap₂, subst, ◌∙◌}
use mathlib.Core.List.{List, [], ◌∷◌, ◌++◌, append_assoc, append-nil}
use mathlib.Core.Bool.{Bool, true, false, ◌||◌}
use Prim.Native.Nat.{ℕ, suc, ◌+◌, ◌*◌, ◌-◌, ◌≤◌, ◌<◌}
use native.Mathlib.Numerals.{add-one}
use native.Mathlib.Omega.{arith}
use native.Mathlib.Decide.{dec_lt}
use lib.Dec.{ltb, eqb}
use lib.ListN.{length, take, drop, set, get_or, take-append-drop, drop_of_length-le}
use lib.Seq.{drop-length, take-suc, take_all, take_at, drop_at, drop-cons, set_at, length-take-le}
use borrow.Rule.Slice.PartMut.{put_mid, Post-is}
use borrow.Author.Tests.{lt-ltb, le-ltb, ne_eqb}
use Rattle.book.specs.Basics.{pick, tally}
use Rattle.book.specs.Causes.{unknown_kind, number, first_number, max_records}
use Rattle.book.specs.Book.{Book, add, remove, lock, unlock, withdraw, reinstate, Call, edit, undo, fresh_answer, fresh, after, givens}
use Rattle.book.specs.Sheets.{Sound}
use Rattle.register.specs.History.{add_kind, remove_kind, lock_kind, unlock_kind, undo_kind, withdraw_kind, reinstate_kind, Entry, is-call, no_call, kind_call}
use Rattle.register.specs.History.{word_call}
use Rattle.register.specs.History.{entry_number, entry_next, entry_calls, word_answers, calls_of, is_close, closings, laid}
use Rattle.register.specs.Replaying.{room_most, EntryCloses, EntrySteps}
use Rattle.register.specs.History.{replay_number}
use Rattle.register.specs.Replaying.{Replays}
use Rattle.register.specs.LaidLaws.{givens_append, length_givens, givens_short, laid_past, laid_append}
use Rattle.register.specs.Representation.{Represents}
use Rattle.register.specs.Calls.{call_of, answer_of, Steps, Closes}
use Rattle.register.specs.declared.Call.{Call as Code-as-Call}
use Rattle.register.specs.declared.Call.TheVariants.{Add, Remove, Lock, Unlock, Withdraw, Reinstate, Undo}
use Rattle.register.specs.declared.Register.{Register}
use Rattle.register.specs.declared.Answer.TheVariants.{Refused}
use Rattle.register.specs.declared.Outcome.{Outcome}
use Rattle.register.specs.Closing.{Roomed}
use Rattle.register.specs.HistoryLaws.{after-append, after_entry, calls_append, word_answers_length, word_answers_append}

-- ---- refusals
module _ (n : ℕ) (ws told numbers : List ℕ) where
  abbrev short : Bool
  short = ltb (length told) (length ws) || ltb (length numbers) (max_records * closings (calls_of ws))

  pub replay_size : (fresh_answer n ≡ 0 → ⊥) → replay_number n ws told numbers ≡ 1
  unfolding fresh_answer replay_number first_number number
  replay_size z = go (ltb n 1 || ltb max_records n) z
    where
      go : (t : Bool) → (◌≡◌ {A = ℕ} (pick t 1 0) 0 → ⊥) → ◌≡◌ {A = ℕ} (pick t 1 (pick short 12 0)) 1
      go true z = refl
      go false z = absurd (z refl)

  replay_rest : fresh_answer n ≡ 0 → replay_number n ws told numbers ≡ pick short 12 0
  unfolding fresh_answer replay_number first_number number
  replay_rest z = go (ltb n 1 || ltb max_records n) z
    where
      go : (t : Bool) → ◌≡◌ {A = ℕ} (pick t 1 0) 0 → ◌≡◌ {A = ℕ} (pick t 1 (pick short 12 0)) (pick short 12 0)
      go true z = absurd (omega arith)
      go false z = refl

  pub replay_short : fresh_answer n ≡ 0 → length told < length ws → replay_number n ws told numbers ≡ 12
  replay_short z h = replay_rest z ∙ rw (lt-ltb (length told) (length ws) h)

  pub replay_few : fresh_answer n ≡ 0 → length ws ≤ length told → length numbers < max_records * closings (calls_of ws) → replay_number n ws told numbers ≡ 12
  replay_few z h k = replay_rest z ∙ rw (le-ltb (length told) (length ws) h, lt-ltb (length numbers) (max_records * closings (calls_of ws)) k)

  pub replay_free : fresh_answer n ≡ 0 → length ws ≤ length told → max_records * closings (calls_of ws) ≤ length numbers → replay_number n ws told numbers ≡ 0
  replay_free z h k = replay_rest z ∙ rw (le-ltb (length told) (length ws) h, le-ltb (length numbers) (max_records * closings (calls_of ws)) k)

  -- a refused replay, with both lists as they were
  pub replay_refused : (k : ℕ) {r : Register} → replay_number n ws told numbers ≡ suc k → Represents r (fresh 0)
      → Replays n ws (record { before = told; after = told }) (record { before = numbers; after = numbers }) (record { register = r; answer = Refused (suc k) })
  replay_refused k e h = record {
    answer = ap answer_of (sym e);
    refused = λ _. (refl, refl, h);
    told = λ z. absurd (omega arith);
    given = λ z. absurd (omega arith);
    book = λ z. absurd (omega arith);
  }

-- ---- kinds
pub kind_none : (k f l t : ℕ) → (k ≡ add_kind → ⊥) → (k ≡ remove_kind → ⊥) → (k ≡ lock_kind → ⊥) → (k ≡ unlock_kind → ⊥) → (k ≡ undo_kind → ⊥)
    → (k ≡ withdraw_kind → ⊥) → (k ≡ reinstate_kind → ⊥)
    → kind_call k f l t ≡ no_call
unfolding kind_call
kind_none k f l t a b c d e g h =
    rw (
      ne_eqb k add_kind a,
      ne_eqb k remove_kind b,
      ne_eqb k lock_kind c,
      ne_eqb k unlock_kind d,
      ne_eqb k undo_kind e,
      ne_eqb k withdraw_kind g,
      ne_eqb k reinstate_kind h,
    )

-- ---- entries that are no closing up: the list is as it was
pub called : (self : Register) (c : Code-as-Call) {e : Entry} (l : List ℕ) (out : Outcome) → is-call (call_of c) ≡ e → Steps self (call_of c) out
    → EntrySteps self e (record { before = l; after = l }) out
unfolding call_of
called self c l out q s = subst (λ (x : Entry). EntrySteps self x (record { before = l; after = l }) out) q (by_call c s)
  where
    by_call : (d : Code-as-Call) → Steps self (call_of d) out → EntrySteps self (is-call (call_of d)) (record { before = l; after = l }) out
    by_call (Add f a t) s = (s, refl)
    by_call (Remove f a t) s = (s, refl)
    by_call (Lock r) s = (s, refl)
    by_call (Unlock r) s = (s, refl)
    by_call (Withdraw r) s = (s, refl)
    by_call (Reinstate r) s = (s, refl)
    by_call Undo s = (s, refl)

pub uncalled : (self : Register) {e : Entry} (l : List ℕ) → no_call ≡ e
    → EntrySteps self e (record { before = l; after = l }) (record { register = self; answer = answer_of (number unknown_kind) })
uncalled self l q =
    subst (λ (x : Entry). EntrySteps self x (record { before = l; after = l }) (record { register = self; answer = answer_of (number unknown_kind) }))
    q (refl, refl, refl)

-- ---- one word more
pub set_next : (told old : List ℕ) (i a : ℕ) → length told ≡ i → i < length old → set (told ++ drop i old) i a ≡ (told ++ (a ∷ [])) ++ drop (suc i) old
set_next told old i a e h =
    rw (drop-cons old i 0 h) (set_at told (get_or old i 0) (drop (suc i) old) a i e ∙ sym (append_assoc told (a ∷ []) (drop (suc i) old)))

one_more : (ws : List ℕ) (i : ℕ) → i < length ws → take (i + 1) ws ≡ take i ws ++ (get_or ws i 0 ∷ [])
one_more ws i h = rw (add-one, take-suc ws i 0 h)

module _ (b : Book) (ws : List ℕ) (i : ℕ) (h : i < length ws) where
  abbrev reached : Book
  reached = after b (calls_of (take i ws))

  pub after_turn : after b (calls_of (take (i + 1) ws)) ≡ entry_next reached (word_call (get_or ws i 0))
  unfolding calls_of after
  after_turn =
      ap (λ (l : List ℕ). after b (calls_of l)) (one_more ws i h)
      ∙ ap (after b) (calls_append (take i ws) (get_or ws i 0 ∷ []))
      ∙ after-append b (calls_of (take i ws)) (calls_of (get_or ws i 0 ∷ []))
      ∙ after_entry reached (word_call (get_or ws i 0)) []

  -- the list after one number more
  pub told_turn : (old : List ℕ) (a : ℕ) → i < length old → a ≡ entry_number reached (word_call (get_or ws i 0)) →
      set (word_answers b (take i ws) ++ drop i old) i a ≡ word_answers b (take (i + 1) ws) ++ drop (i + 1) old
  unfolding word_answers
  told_turn old a k e =
      let l : length (word_answers b (take i ws)) ≡ i = word_answers_length b (take i ws) ∙ length-take-le i ws (omega arith) in
      let m : word_answers b (take (i + 1) ws) ≡ word_answers b (take i ws) ++ (a ∷ []) =
      ap (word_answers b) (one_more ws i h) ∙ word_answers_append b (take i ws) (get_or ws i 0 ∷ [])
      ∙ ap (λ (x : ℕ). word_answers b (take i ws) ++ (x ∷ [])) (sym e) in
      rw (m, add-one) (set_next (word_answers b (take i ws)) old i a l k)

  -- the lists after one word more
  pub givens_turn : givens b (calls_of (take (i + 1) ws)) ≡ givens b (calls_of (take i ws)) ++ givens reached (entry_calls (word_call (get_or ws i 0)))
  unfolding calls_of
  givens_turn =
      ap (λ (l : List ℕ). givens b (calls_of l)) (one_more ws i h)
      ∙ ap (givens b) (calls_append (take i ws) (get_or ws i 0 ∷ []))
      ∙ givens_append b (calls_of (take i ws)) (entry_calls (word_call (get_or ws i 0)) ++ [])
      ∙ ap (λ (cs : List Call). givens b (calls_of (take i ws)) ++ givens reached cs) (append-nil (entry_calls (word_call (get_or ws i 0))))

-- ---- closings up
-- no other kind is one
pub kind_open : (k f l t : ℕ) → closings (entry_calls (kind_call k f l t)) ≡ 0
unfolding kind_call entry_calls tally is_close
kind_open k f l t = go (eqb k add_kind) (eqb k remove_kind) (eqb k lock_kind) (eqb k unlock_kind) (eqb k undo_kind) (eqb k withdraw_kind) (eqb k reinstate_kind)
  where
    go : (a b c d e g h : Bool) → closings (entry_calls (
        pick a (is-call (edit (add (record { from = f; label = l; to = t }))))
        (pick b (is-call (edit (remove (record { from = f; label = l; to = t }))))
        (pick c (is-call (edit (lock f)))
        (pick d (is-call (edit (unlock f)))
        (pick e (is-call undo)
        (pick g (is-call (edit (withdraw f)))
        (pick h (is-call (edit (reinstate f)))
        no_call)))))))) ≡ 0
    go true b c d e g h = refl
    go false true c d e g h = refl
    go false false true d e g h = refl
    go false false false true e g h = refl
    go false false false false true g h = refl
    go false false false false false true h = refl
    go false false false false false false true = refl
    go false false false false false false false = refl

tally_append : (cs ds : List Call) → closings (cs ++ ds) ≡ closings cs + closings ds
unfolding tally
tally_append [] ds = omega arith
tally_append (c ∷ cs) ds = omega (arith, tally_append cs ds)

-- one word more, and all of them
pub closings_turn : (ws : List ℕ) (i : ℕ) → i < length ws
    → closings (calls_of (take (i + 1) ws)) ≡ closings (calls_of (take i ws)) + closings (entry_calls (word_call (get_or ws i 0)))
unfolding calls_of
closings_turn ws i h =
    ap (λ (l : List ℕ). closings (calls_of l)) (one_more ws i h)
    ∙ ap closings (calls_append (take i ws) (get_or ws i 0 ∷ []))
    ∙ tally_append (calls_of (take i ws)) (entry_calls (word_call (get_or ws i 0)) ++ [])
    ∙ ap (λ (cs : List Call). closings (calls_of (take i ws)) + closings cs) (append-nil (entry_calls (word_call (get_or ws i 0))))

pub closings_part : (ws : List ℕ) (i : ℕ) → closings (calls_of (take i ws)) ≤ closings (calls_of ws)
closings_part ws i =
    let e : closings (calls_of ws) ≡ closings (calls_of (take i ws)) + closings (calls_of (drop i ws)) =
    ap (λ (l : List ℕ). closings (calls_of l)) (sym (take-append-drop i ws))
    ∙ ap closings (calls_append (take i ws) (drop i ws)) ∙ tally_append (calls_of (take i ws)) (calls_of (drop i ws)) in
    omega arith

-- the words that a closing up uses
pub roomed : (room length k : ℕ) (t : Bool) → ltb max_records room ≡ t → k ≤ length
    → k ≤ pick t max_records room → (k < pick t max_records room → k ≡ length) → Roomed room length k
roomed room length k t e p q r = record {
  within = p;
  most = subst (λ (u : Bool). k ≤ pick u max_records room) (sym e) q;
  whole = subst (λ (u : Bool). k < pick u max_records room → k ≡ length) (sym e) r;
}

-- a closing up with the words that it uses, and the rest behind them
pub entry_closes : (self : Register) (room k : ℕ) (before last : List ℕ) (out : Outcome)
    → Roomed room (length before) k → length last ≡ k → Closes self (take k before) last out
    → EntryCloses self (room_most room) (record { before = before; after = last ++ drop k before }) out
entry_closes self room k before last out r l c = record {
  closes =
      subst (λ (x : List ℕ). Closes self x (take (room_most room) (last ++ drop k before)) out)
      (sym lent.0) (subst (λ (y : List ℕ). Closes self (take k before) y out) (sym lent.1) c);
  past = lent.2;
}
  where
    whole : k ≡ length before → k ≤ room_most room → (take (room_most room) before ≡ take k before)
        × (take (room_most room) (last ++ drop k before) ≡ last) × (drop (room_most room) (last ++ drop k before) ≡ drop (room_most room) before)
    whole e m =
        let none : drop k before ≡ [] = drop_of_length-le before {i = k} (omega arith) in
        let same : last ++ drop k before ≡ last = ap (λ (x : List ℕ). last ++ x) none ∙ append-nil last in (
          take_all (room_most room) before (omega arith) ∙ sym (take_all k before (omega arith)),
          ap (take (room_most room)) same ∙ take_all (room_most room) last (omega arith),
          ap (drop (room_most room)) same ∙ drop_of_length-le last {i = room_most room} (omega arith)
              ∙ sym (drop_of_length-le before {i = room_most room} (omega arith)),
        )

    exact : k ≡ room_most room → (take (room_most room) before ≡ take k before) × (take (room_most room) (last ++ drop k before) ≡ last)
        × (drop (room_most room) (last ++ drop k before) ≡ drop (room_most room) before)
    exact e = (
      ap (λ (i : ℕ). take i before) (sym e),
      ap (λ (i : ℕ). take i (last ++ drop k before)) (sym e) ∙ take_at last (drop k before) k l,
      ap (λ (i : ℕ). drop i (last ++ drop k before)) (sym e) ∙ drop_at last (drop k before) k l ∙ ap (λ (i : ℕ). drop i before) e,
    )

    go : Dec (k < room_most room) → (take (room_most room) before ≡ take k before) × (take (room_most room) (last ++ drop k before) ≡ last)
        × (drop (room_most room) (last ++ drop k before) ≡ drop (room_most room) before)
    go (yes h) = whole (r.whole h) r.most
    go (no h) = exact (let m = r.most in omega arith)

    lent : (take (room_most room) before ≡ take k before) × (take (room_most room) (last ++ drop k before) ≡ last)
        × (drop (room_most room) (last ++ drop k before) ≡ drop (room_most room) before)
    lent = go (dec_lt k (room_most room))

put_rest : (l part : List ℕ) (at : ℕ) → at ≤ length l → put_mid at (length l - at) l part ≡ take at l ++ part
put_rest l part at h = ap (λ (k : List ℕ). take at l ++ k) (ap (λ (k : List ℕ). part ++ k) (Post-is at (length l) l h ∙ drop-length l) ∙ append-nil part)

-- the list of numbers after one word more: what its entry gives lies in the part from its place on
pub numbers_turn : (b : Book) (ws : List ℕ) (i : ℕ) (h : i < length ws) → Sound b → (old now part : List ℕ) (at : ℕ)
    → now ≡ laid (givens b (calls_of (take i ws))) old → at ≡ max_records * closings (calls_of (take i ws)) → at ≤ length old → length now ≡ length old
    → part ≡ laid (givens (reached b ws i h) (entry_calls (word_call (get_or ws i 0)))) (drop at now)
    → put_mid at (length now - at) now part ≡ laid (givens b (calls_of (take (i + 1) ws))) old
numbers_turn b ws i h o old now part at e p l m q =
    let gs = givens b (calls_of (take i ws)) in
    let hs = givens (reached b ws i h) (entry_calls (word_call (get_or ws i 0))) in
    let short = givens_short b (calls_of (take i ws)) o in
    let many : at ≡ max_records * length gs = p ∙ ap (λ (k : ℕ). max_records * k) (sym (length_givens b (calls_of (take i ws)))) in
    let room : max_records * length gs ≤ length old = omega arith in
    let past : drop at now ≡ drop (max_records * length gs) old = ap₂ (λ (j : ℕ) (x : List ℕ). drop j x) many e ∙ laid_past gs old short room in
    put_rest now part at (omega arith)
    ∙ ap₂ (λ (x y : List ℕ). x ++ y) (ap₂ (λ (j : ℕ) (x : List ℕ). take j x) many e) (q ∙ ap (laid hs) past)
    ∙ sym (laid_append gs hs old short room)
    ∙ ap (λ (x : List (List ℕ)). laid x old) (sym (givens_turn b ws i h))
