-- Laws of drafts.
--   draft_kind       the entry of a word of a draft, by its kind and arguments
--   called, uncalled
--                    an entry that is a call, and one that is none
--   made_append      calls made one after the other, and then more of them
--   reached_none, reached_next
--                    with no word, and with one word more that is accepted
--   draft_made, draft_refused
--                    what is promised with every word accepted, and with one refused after those before it were accepted
--   draft_answers    if every word of a draft is a call, the numbers told to them are the book's answers to its calls
--   draft_all        a draft of calls that the book accepts one after the other is made, and the book after it is the one after that history
--   draft_none       after a refused draft the book is as it was
--   draft_one        a draft of one call is that call
--   draft_apply      so of registers: what a draft of one call hands back is what `apply` hands back, told as a draft's answer
--   draft_history    calls, and then a draft: the register handed back is one that calls made, those before and those of the draft that are made
--   made_length, draft-calls
--                    every call made was told a number; so of a draft that is made, over any contents, every word is a call
-- Assumes nothing.
use Rattle.std.specs.Prelude.{◌≡◌, refl, Bool, true, false, ℕ, zero, suc, ◌+◌, ◌≤◌, ◌<◌, ◌/◌, ◌%◌, eqb, length, take, drop, get_or, replicate}
use Rattle.std.proofs.Common.{sym, ap₂, ◌∙◌, add-one, arith, take-append-drop, take-suc, drop-cons, length-take-le, eqb-true}
use Rattle.std.proofs.Math.Path.{ap, subst}
use mathlib.Core.List.{List, [], ◌∷◌, ◌++◌, append_assoc, append-nil}
use Rattle.std.proofs.lemmas.List.{length-replicate}
use Rattle.book.specs.Basics.{pick}
use Rattle.book.specs.Causes.{unknown_kind, number, Caused}
use Rattle.book.specs.Book.{Book, add, remove, lock, unlock, withdraw, reinstate, Call, edit, undo, close, answer, next, answers, after}
use Rattle.book.proofs.BookLaws.{refused_same}
use Rattle.register.specs.Representation.{Represents}
use Rattle.register.specs.Calls.{answer_of, answer_number, call_of, Steps}
use Rattle.register.specs.History.{Lent, CallsMade, done, more_edit, more_undo, more_close, Entry, is-call, no_call, kind_call, word_call, close_kind}
use Rattle.register.specs.History.{add_kind, remove_kind, lock_kind, unlock_kind, undo_kind, withdraw_kind, reinstate_kind, entry_number, entry_next}
use Rattle.register.specs.History.{entry_calls}
use Rattle.register.specs.HistoryLaws.{by_number, number_answer, kept, after_entry}
use Rattle.register.specs.declared.Register.{Register}
use Rattle.register.specs.declared.Outcome.{Outcome}
use Rattle.register.specs.declared.Answer.{Answer}
use Rattle.register.specs.declared.Call.{Call as Code-as-Call}
use Rattle.register.specs.Drafts.{unclosed, draft_calls, draft_numbers, first_refused, draft_answer, made_words, draft_next, Drafts}
use Rattle.register.specs.Inner.{DraftSteps, steps, turned_down, Reached}
use Rattle.register.specs.declared.Applied.{Applied}
use Rattle.register.specs.declared.DraftAnswer.{DraftAnswer}
use Rattle.register.specs.declared.DraftAnswer.TheVariants.{Made, Refused}

-- ---- entries
kind_unclosed : (k f l t : ℕ) → unclosed (kind_call k f l t) ≡ kind_call k f l t
unfolding kind_call unclosed
kind_unclosed k f l t =
    go (eqb k add_kind) (eqb k remove_kind) (eqb k lock_kind) (eqb k unlock_kind) (eqb k undo_kind) (eqb k withdraw_kind) (eqb k reinstate_kind)
  where
    by : (a b c d e g h : Bool) → Entry
    by a b c d e g h =
        pick a (is-call (edit (add (record { from = f; label = l; to = t }))))
        (pick b (is-call (edit (remove (record { from = f; label = l; to = t }))))
        (pick c (is-call (edit (lock f)))
        (pick d (is-call (edit (unlock f)))
        (pick e (is-call undo)
        (pick g (is-call (edit (withdraw f)))
        (pick h (is-call (edit (reinstate f)))
        no_call))))))

    go : (a b c d e g h : Bool) → unclosed (by a b c d e g h) ≡ by a b c d e g h
    go true b c d e g h = refl
    go false true c d e g h = refl
    go false false true d e g h = refl
    go false false false true e g h = refl
    go false false false false true g h = refl
    go false false false false false true h = refl
    go false false false false false false true = refl
    go false false false false false false false = refl

close_none : (f l t : ℕ) → kind_call close_kind f l t ≡ no_call
unfolding kind_call
close_none f l t = refl

pub draft_kind : (w : ℕ) → unclosed (word_call w) ≡ kind_call (w / 1099511627776) (w / 16777216 % 65536) (w / 65536 % 256) (w % 65536)
unfolding word_call unclosed
draft_kind w =
    go (w / 1099511627776) (w / 16777216 % 65536) (w / 65536 % 256) (w % 65536) (w % 1099511627776) (eqb (w / 1099511627776) close_kind) refl
  where
    go : (k f l t room : ℕ) (x : Bool) → eqb k close_kind ≡ x → unclosed (pick x (is-call (close room)) (kind_call k f l t)) ≡ kind_call k f l t
    go k f l t room true e = sym (ap (λ (j : ℕ). kind_call j f l t) (eqb-true k close_kind e) ∙ close_none f l t)
    go k f l t room false e = kind_unclosed k f l t

module _ {self : Register} {e : Entry} where
  pub called : (c : Code-as-Call) {out : Outcome} → is-call (call_of c) ≡ e → Steps self (call_of c) out → DraftSteps self e out
  called c {out} q s = subst (λ (x : Entry). DraftSteps self x out) q (steps s)

  pub uncalled : no_call ≡ e → DraftSteps self e (record { register = self; answer = answer_of (number unknown_kind) })
  uncalled q = subst (λ (x : Entry). DraftSteps self x (record { register = self; answer = answer_of (number unknown_kind) })) q (turned_down refl refl)

unknown : (a : Answer) → a ≡ answer_of (number unknown_kind) → answer_number a ≡ 0 → ⊥
unfolding number
unknown a e z = omega (arith, ap answer_number e, z)

module _ {r : Register} {out : Outcome} where
  one_made : (x : Entry) → DraftSteps r (unclosed x) out → answer_number out.answer ≡ 0
      → CallsMade r (entry_calls (unclosed x)) (0 ∷ []) [] out.register
  unfolding unclosed entry_calls
  one_made (is-call (edit a)) (steps s) z = subst (λ (k : ℕ). CallsMade r (edit a ∷ []) (k ∷ []) [] out.register) z (more_edit out s done)
  one_made (is-call undo) (steps s) z = subst (λ (k : ℕ). CallsMade r (undo ∷ []) (k ∷ []) [] out.register) z (more_undo out s done)
  one_made (is-call (close room)) (turned_down e q) z = absurd (unknown out.answer e z)
  one_made no_call (turned_down e q) z = absurd (unknown out.answer e z)

  one_number : {x : Entry} → DraftSteps r x out → (b : Book) → Represents r b → answer_number out.answer ≡ entry_number b x
  unfolding entry_number
  one_number (steps {c = c} s) b h = ap answer_number (s.answers b h) ∙ number_answer (answer b c)
  one_number (turned_down e q) b h = ap answer_number e ∙ number_answer (number unknown_kind)

  one_caused : {x : Entry} → DraftSteps r x out → (k : ℕ) → k ≡ answer_number out.answer → (k ≡ 0 → ⊥) → Caused k
  one_caused (steps s) k e z = s.caused k (by_number out.answer k e z)
  one_caused (turned_down q p) k e z = (unknown_kind, e ∙ ap answer_number q ∙ number_answer (number unknown_kind))

-- ---- one word more
pub made_append : {r m e : Register} {cs ds : List Call} {told after : List ℕ} {ls ks : List Lent} → CallsMade r cs told ls m → CallsMade m ds after ks e
    → CallsMade r (cs ++ ds) (told ++ after) (ls ++ ks) e
made_append done q = q
made_append (more_edit out s run) q = more_edit out s (made_append run q)
made_append (more_undo out s run) q = more_undo out s (made_append run q)
made_append (more_close l out s run) q = more_close l out s (made_append run q)

draft_calls_append : (ws vs : List ℕ) → draft_calls (ws ++ vs) ≡ draft_calls ws ++ draft_calls vs
unfolding draft_calls
draft_calls_append [] vs = refl
draft_calls_append (w ∷ ws) vs =
    ap (λ (l : List Call). entry_calls (unclosed (word_call w)) ++ l) (draft_calls_append ws vs)
    ∙ sym (append_assoc (entry_calls (unclosed (word_call w))) (draft_calls ws) (draft_calls vs))

draft_calls_next : (ws : List ℕ) (w : ℕ) → draft_calls (ws ++ (w ∷ [])) ≡ draft_calls ws ++ entry_calls (unclosed (word_call w))
unfolding draft_calls
draft_calls_next ws w = draft_calls_append ws (w ∷ []) ∙ ap (λ (l : List Call). draft_calls ws ++ l) (append-nil (entry_calls (unclosed (word_call w))))

draft_numbers_append : (b : Book) (ws vs : List ℕ) → draft_numbers b (ws ++ vs) ≡ draft_numbers b ws ++ draft_numbers (after b (draft_calls ws)) vs
unfolding draft_numbers draft_calls after
draft_numbers_append b [] vs = refl
draft_numbers_append b (w ∷ ws) vs =
    let x = unclosed (word_call w) in
    ap (λ (l : List ℕ). entry_number b x ∷ l) (draft_numbers_append (entry_next b x) ws vs
    ∙ ap (λ (a : Book). draft_numbers (entry_next b x) ws ++ draft_numbers a vs) (sym (after_entry b x (draft_calls ws))))

zeros_next : (ws : List ℕ) (w : ℕ) → replicate {A = ℕ} (length (ws ++ (w ∷ []))) 0 ≡ replicate (length ws) 0 ++ (0 ∷ [])
zeros_next [] w = refl
zeros_next (v ∷ ws) w = ap (λ (l : List ℕ). 0 ∷ l) (zeros_next ws w)

pub reached_none : (r : Register) → Reached r [] r
unfolding draft_calls draft_numbers
reached_none r = record { made = done; numbers = λ b h. refl }

more : {self r : Register} {ws : List ℕ} (w : ℕ) {out : Outcome} → Reached self ws r → DraftSteps r (unclosed (word_call w)) out
    → answer_number out.answer ≡ 0 → Reached self (ws ++ (w ∷ [])) out.register
unfolding draft_numbers
more {self} {r} {ws} w {out} q s z = record {
  made =
      subst (λ (cs : List Call). CallsMade self cs (replicate (length (ws ++ (w ∷ []))) 0) [] out.register) (sym (draft_calls_next ws w))
      (subst (λ (l : List ℕ). CallsMade self (draft_calls ws ++ entry_calls (unclosed (word_call w))) l [] out.register) (sym (zeros_next ws w))
      (made_append q.made (one_made (word_call w) s z)));
  numbers = λ b h.
      draft_numbers_append b ws (w ∷ [])
      ∙ ap₂ (λ (l : List ℕ) (k : ℕ). l ++ (k ∷ [])) (q.numbers b h) (sym (one_number s (after b (draft_calls ws)) (kept q.made b h)) ∙ z)
      ∙ sym (zeros_next ws w);
}

module _ {self r : Register} {out : Outcome} (ws : List ℕ) (i : ℕ) where
  pub reached_next : Reached self (take i ws) r → i < length ws → DraftSteps r (unclosed (word_call (get_or ws i 0))) out
      → answer_number out.answer ≡ 0 → Reached self (take (i + 1) ws) out.register
  reached_next q h s z =
      let e : take (i + 1) ws ≡ take i ws ++ (get_or ws i 0 ∷ []) = rw (add-one, take-suc ws i 0 h) in
      subst (λ (l : List ℕ). Reached self l out.register) (sym e) (more (get_or ws i 0) q s z)

-- ---- what is promised
first_made : (i : ℕ) (ws : List ℕ) → first_refused i (replicate (length ws) 0) ≡ Made
unfolding first_refused
first_made i [] = refl
first_made i (w ∷ ws) = first_made (suc i) ws

first-refused : (i : ℕ) (ws : List ℕ) (k : ℕ) (ks : List ℕ) → (k ≡ 0 → ⊥)
    → first_refused i (replicate (length ws) 0 ++ (k ∷ ks)) ≡ Refused (i + length ws) k
unfolding first_refused
first-refused i [] zero ks z = absurd (z refl)
first-refused i [] (suc k) ks z = let e : i ≡ i + 0 = omega arith in ap (λ (j : ℕ). Refused j (suc k)) e
first-refused i (w ∷ ws) k ks z =
    let e : suc i + length ws ≡ i + suc (length ws) = omega arith in
    first-refused (suc i) ws k ks z ∙ ap (λ (j : ℕ). Refused j k) e

pub draft_made : {self r : Register} {ws : List ℕ} → Reached self ws r → Drafts self ws (record { register = r; answer = Made })
unfolding made_words
draft_made {self} {r} {ws} q = record {
  refused = λ i k e. absurd (let z : ◌≡◌ {A = ℕ} 0 1 = cc in omega arith);
  made = q.made;
  answers = said;
  follows = λ b h. subst (λ (a : DraftAnswer). Represents r (after b (draft_calls (made_words a ws)))) (said b h) (kept q.made b h);
}
  where
    said : (b : Book) → Represents self b → Made ≡ draft_answer b ws
    said b h = sym (ap (first_refused 0) (q.numbers b h) ∙ first_made 0 ws)

pub draft_refused : {self r : Register} {out : Outcome} (ws : List ℕ) (i k : ℕ) → Reached self (take i ws) r → i < length ws
    → DraftSteps r (unclosed (word_call (get_or ws i 0))) out → k ≡ answer_number out.answer → (k ≡ 0 → ⊥)
    → Drafts self ws (record { register = self; answer = Refused i k })
unfolding made_words after draft_calls draft_numbers
draft_refused {self} {r} {out} ws i k q h s e z = record {
  refused = λ j m u.
      let a : i ≡ j = cc in
      let d : k ≡ m = cc in
      (rw (← a) h, rw (← d) (one_caused s k e z), refl);
  made = done;
  answers = said;
  follows = λ b R. subst (λ (a : DraftAnswer). Represents self (after b (draft_calls (made_words a ws)))) (said b R) R;
}
  where
    whole : ws ≡ take i ws ++ (get_or ws i 0 ∷ drop (suc i) ws)
    whole = sym (take-append-drop i ws) ∙ ap (λ (l : List ℕ). take i ws ++ l) (drop-cons ws i 0 h)

    numbers : (b : Book) → Represents self b
        → (ks : List ℕ) × (draft_numbers b ws ≡ replicate (length (take i ws)) 0 ++ (k ∷ ks))
    numbers b R =
        let a = after b (draft_calls (take i ws)) in
        let x = unclosed (word_call (get_or ws i 0)) in (
          draft_numbers (entry_next a x) (drop (suc i) ws),
          ap (draft_numbers b) whole ∙ draft_numbers_append b (take i ws) (get_or ws i 0 ∷ drop (suc i) ws)
              ∙ ap₂ (λ (l : List ℕ) (j : ℕ). l ++ (j ∷ draft_numbers (entry_next a x) (drop (suc i) ws))) (q.numbers b R)
              (sym (e ∙ one_number s a (kept q.made b R))),
        )

    said : (b : Book) → Represents self b → Refused i k ≡ draft_answer b ws
    said b R =
        let n = numbers b R in
        let l : 0 + length (take i ws) ≡ i = omega (arith, length-take-le i ws (omega arith)) in
        sym (ap (first_refused 0) n.1 ∙ first-refused 0 (take i ws) k n.0 z ∙ ap (λ (j : ℕ). Refused j k) l)

-- ---- what a draft is to the book
draft_calls_length : (ws : List ℕ) → length (draft_calls ws) ≤ length ws
unfolding draft_calls entry_calls
draft_calls_length [] = omega arith
draft_calls_length (w ∷ ws) = go (unclosed (word_call w)) (draft_calls_length ws)
  where
    go : (x : Entry) → length (draft_calls ws) ≤ length ws → length (entry_calls x ++ draft_calls ws) ≤ suc (length ws)
    go (is-call c) h = omega arith
    go no_call h = omega arith

pub draft_answers : (b : Book) (ws : List ℕ) → length (draft_calls ws) ≡ length ws → draft_numbers b ws ≡ answers b (draft_calls ws)
unfolding draft_numbers draft_calls entry_calls entry_number entry_next answers
draft_answers b [] l = refl
draft_answers b (w ∷ ws) l = go (unclosed (word_call w)) l (draft_answers (entry_next b (unclosed (word_call w))) ws)
  where
    go : (x : Entry) → length (entry_calls x ++ draft_calls ws) ≡ suc (length ws)
        → (length (draft_calls ws) ≡ length ws → draft_numbers (entry_next b x) ws ≡ answers (entry_next b x) (draft_calls ws))
        → entry_number b x ∷ draft_numbers (entry_next b x) ws ≡ answers b (entry_calls x ++ draft_calls ws)
    go (is-call c) l h = ap (λ (ks : List ℕ). answer b c ∷ ks) (h (omega arith))
    go no_call l h = absurd (omega (arith, l, draft_calls_length ws))

pub draft_all : (b : Book) (ws : List ℕ) → length (draft_calls ws) ≡ length ws → answers b (draft_calls ws) ≡ replicate (length ws) 0
    → (draft_answer b ws ≡ Made) × (draft_next b ws ≡ after b (draft_calls ws))
unfolding made_words
draft_all b ws l e =
    let m : draft_answer b ws ≡ Made = ap (first_refused 0) (draft_answers b ws l ∙ e) ∙ first_made 0 ws in
    (m, ap (λ (a : DraftAnswer). after b (draft_calls (made_words a ws))) m)

pub draft_none : (b : Book) (ws : List ℕ) (i k : ℕ) → draft_answer b ws ≡ Refused i k → draft_next b ws ≡ b
unfolding made_words draft_calls after
draft_none b ws i k e = ap (λ (a : DraftAnswer). after b (draft_calls (made_words a ws))) e

pub draft_one : (b : Book) (w : ℕ) (c : Call) → unclosed (word_call w) ≡ is-call c
    → (draft_answer b (w ∷ []) ≡ first_refused 0 (answer b c ∷ [])) × (draft_next b (w ∷ []) ≡ next b c)
unfolding draft_numbers draft_calls entry_number entry_calls first_refused made_words after
draft_one b w c e =
    let m : draft_answer b (w ∷ []) ≡ first_refused 0 (answer b c ∷ []) = ap (λ (x : Entry). first_refused 0 (entry_number b x ∷ [])) e in
    (m, ap (λ (a : DraftAnswer). after b (draft_calls (made_words a (w ∷ [])))) m ∙ go (answer b c) refl)
  where
    calls : draft_calls (w ∷ []) ≡ c ∷ []
    calls = ap (λ (x : Entry). entry_calls x ++ []) e

    go : (k : ℕ) → answer b c ≡ k → after b (draft_calls (made_words (first_refused 0 (k ∷ [])) (w ∷ []))) ≡ next b c
    go zero q = ap (after b) calls
    go (suc k) q = sym (refused_same b c (λ z. omega (arith, q, z)))

pub draft_apply : {r : Register} {w : ℕ} {c : Call} {o : Outcome} {out : Applied} → unclosed (word_call w) ≡ is-call c → Steps r c o → Drafts r (w ∷ []) out
    → (b : Book) → Represents r b
    → (out.answer ≡ first_refused 0 (answer_number o.answer ∷ [])) × Represents out.register (next b c) × Represents o.register (next b c)
draft_apply {w = w} {c} {o} {out} e s d b h =
    let m = draft_one b w c e in
    let n : answer b c ≡ answer_number o.answer = sym (ap answer_number (s.answers b h) ∙ number_answer (answer b c)) in (
      d.answers b h ∙ m.0 ∙ ap (λ (k : ℕ). first_refused 0 (k ∷ [])) n,
      subst (λ (x : Book). Represents out.register x) m.1 (d.follows b h),
      s.follows b h,
    )

-- ---- what a draft is to a history
pub draft_history : {r m : Register} {cs : List Call} {told : List ℕ} {ls : List Lent} {ws : List ℕ} {out : Applied} → CallsMade r cs told ls m
    → Drafts m ws out
    → CallsMade r (cs ++ draft_calls (made_words out.answer ws)) (told ++ replicate (length (made_words out.answer ws)) 0) (ls ++ []) out.register
draft_history run d = made_append run d.made

made_length : {r e : Register} {cs : List Call} {told : List ℕ} {ls : List Lent} → CallsMade r cs told ls e → length told ≡ length cs
made_length done = refl
made_length (more_edit out s run) = ap suc (made_length run)
made_length (more_undo out s run) = ap suc (made_length run)
made_length (more_close l out s run) = ap suc (made_length run)

pub draft-calls : {self : Register} {ws : List ℕ} {out : Applied} → Drafts self ws out → out.answer ≡ Made → length (draft_calls ws) ≡ length ws
unfolding made_words
draft-calls {ws = ws} {out} d e =
    ap (λ (a : DraftAnswer). length (draft_calls (made_words a ws))) (sym e) ∙ sym (made_length d.made)
    ∙ length-replicate {A = ℕ} (length (made_words out.answer ws)) 0
    ∙ ap (λ (a : DraftAnswer). length (made_words a ws)) e
