-- Laws by which the promise of a draft is carried over to words, as those of `CarryLaws` carry that of an edit.
--   draft_foreign   words that are no register's
--   draft_long      2^32 calls or more
--   draft_refused, draft_kept
--                   a refused draft, and one that is made and stored
--   draft_lost      one that is made and cannot be stored: the words represent no book, so that a refusal keeps every promise
-- Assumes nothing.
use mathlib.Core.Path.{◌≡◌, refl, sym, ap, subst, ◌∙◌}
use mathlib.Core.List.{List, [], ◌∷◌}
use Prim.Native.Nat.{ℕ, ◌+◌, ◌*◌, ◌≤◌, ◌<◌}
use native.Mathlib.Omega.{arith}
use lib.ListN.{length, drop}
use Rattle.book.specs.Causes.{broken_frame, not_open, number}
use Rattle.book.specs.Book.{Book, Call}
use Rattle.register.specs.Representation.{Represents}
use Rattle.register.specs.Marks.{Marked}
use Rattle.register.specs.Counters.{InRange}
use Rattle.register.specs.History.{Lent, CallsMade, done, more_edit, more_undo, more_close}
use Rattle.register.specs.Words.{state_words, Keeps, Foreign}
use Rattle.register.specs.MarkLaws.{represents_marked}
use Rattle.register.specs.WordLaws.{keeps_long, keeps_same}
use Rattle.register.specs.declared.Register.{Register}
use Rattle.register.specs.Drafts.{draft_calls, made_words, Drafts}
use Rattle.register.specs.declared.Applied.{Applied}
use Rattle.register.specs.declared.DraftAnswer.{DraftAnswer}
use Rattle.register.specs.declared.DraftAnswer.TheVariants.{Made, Refused}
use Rattle.host.specs.Host.{past_counts, refusal}
use Rattle.host.specs.Drafts.{place_unit, told_draft, Applies}

pub draft_foreign : {ws before : List ℕ} {k : ℕ} → Foreign before → k ≡ refusal (number not_open) → Applies ws before before k
draft_foreign f e = record { refused = λ _. refl; past = refl; foreign = λ _. e; long = λ r w. absurd (f r w); drafts = λ r w. absurd (f r w) }

-- no call leads nowhere
none_made : {r e : Register} {cs : List Call} {told : List ℕ} {ls : List Lent} → CallsMade r cs told ls e → length cs ≡ 0 → e ≡ r
none_made done z = refl
none_made (more_edit out s run) z = absurd (omega arith)
none_made (more_undo out s run) z = absurd (omega arith)
none_made (more_close l out s run) z = absurd (omega arith)

empty_made : {r : Register} {a : Applied} → Drafts r [] a → a.answer ≡ Made → a.register ≡ r
unfolding made_words draft_calls
empty_made d q = none_made d.made (ap (λ (x : DraftAnswer). length (draft_calls (made_words x []))) q)

abbrev Drafted : List ℕ → List ℕ → ℕ → Register → Type 0
Drafted ws after k s = (a : Applied) × Drafts s ws a × (k ≡ told_draft ws a.answer) × Keeps after a.register

-- the register that represents no book, refused at the first call
unmet : {r : Register} (v : ℕ) (vs : List ℕ) → ((b : Book) → Represents r b → ⊥)
    → Drafts r (v ∷ vs) (record { register = r; answer = Refused 0 (number not_open) })
unfolding made_words draft_calls
unmet v vs none = record {
  refused = λ i k e.
      let a : 0 ≡ i = cc in
      let d : number not_open ≡ k = cc in
      (omega arith, (not_open, sym d), refl);
  made = done;
  answers = λ b h. absurd (none b h);
  follows = λ b h. absurd (none b h);
}

module _ {before : List ℕ} {r : Register} (w : Keeps before r) (ws : List ℕ) where
  pub draft_long : {k : ℕ} → past_counts ≤ length ws → k ≡ refusal (number broken_frame) → Applies ws before before k
  draft_long l e = record {
    refused = λ _. refl;
    past = refl;
    foreign = λ f. absurd (f r w);
    long = λ _ _ _. e;
    drafts = λ _ _ m. absurd (omega arith);
  }

  drafted : {after : List ℕ} {k : ℕ} → length ws < past_counts → (2 * past_counts ≤ k → after ≡ before) → drop state_words after ≡ drop state_words before
      → Drafted ws after k r → Applies ws before after k
  drafted {after} {k} l e p t = record {
    refused = e;
    past = p;
    foreign = λ f. absurd (f r w);
    long = λ _ _ m. absurd (omega arith);
    drafts = λ s v _. subst (Drafted ws after k) (keeps_same w v) t;
  }

  module _ {a : Applied} (l : length ws < past_counts) (d : Drafts r ws a) where
    pub draft_refused : {i j k : ℕ} → a.answer ≡ Refused i j → k ≡ refusal (place_unit * i + j) → Applies ws before before k
    draft_refused {i} {j} q e =
        drafted l (λ _. refl) refl (a, d, e ∙ sym (ap (told_draft ws) q), subst (Keeps before) (sym (d.refused i j q).2) w)

    pub draft_kept : {after : List ℕ} → a.answer ≡ Made → Keeps after a.register → drop state_words after ≡ drop state_words before
        → Applies ws before after (length ws)
    draft_kept q v p = drafted l (λ m. absurd (omega arith)) p (a, d, sym (ap (told_draft ws) q), v)

    pub draft_lost : {after : List ℕ} {k : ℕ} → a.answer ≡ Made → k ≡ refusal (number not_open) → after ≡ before
        → (state_words ≤ length before → InRange a.register → Marked a.register.marks → ⊥) → Applies ws before after k
    unfolding number
    draft_lost {after} {k} q e u g = drafted l (λ _. u) (ap (drop state_words) u) (go ws d)
      where
        none : (b : Book) → Represents r b → ⊥
        none b h = g (keeps_long w) (d.follows b h).ranged (represents_marked (d.follows b h))

        go : (vs : List ℕ) → Drafts r vs a → Drafted vs after k r
        go [] d =
            let s = empty_made d q in
            absurd (g (keeps_long w) (subst InRange (sym s) w.ranged) (subst (λ (t : Register). Marked t.marks) (sym s) w.marked))
        go (v ∷ vs) d = (
          record { register = r; answer = Refused 0 (number not_open) },
          unmet v vs none,
          e,
          subst (λ (t : List ℕ). Keeps t r) (sym u) w,
        )
