-- Laws by which the promise of a preview is carried over to words: the call is made on a copy of them, and the question is asked of the copy as it is then.
--   copied_front      the front of a copy is that of the words
--   asked_front       a question promises of words what it promises of others with the same front
--   foreseen_refused  a refused call: its number, and the list as it was
--   foreseen_few      after an accepted one there are no more marks and links among the words than a register has
--   foreseen_asked    and what the question gives on them is what the preview promises
-- Assumes nothing.
use mathlib.Core.Path.{◌≡◌, refl, sym, ap, ◌∙◌}
use mathlib.Core.List.{List}
use Prim.Native.Nat.{ℕ, ◌+◌, ◌≤◌, ◌<◌}
use native.Mathlib.Decide.{dec_lt}
use native.Mathlib.Omega.{arith}
use lib.ListN.{length, take, drop}
use lib.Seq.{take_at, length-take-le}
use Rattle.book.specs.Causes.{number, max_records, max_links}
use Rattle.book.specs.Book.{Call}
use Rattle.answers.specs.Written.{written, Wrote}
use Rattle.answers.specs.declared.Counted.{Counted}
use Rattle.answers.specs.declared.Counted.TheVariants.{Refused}
use Rattle.register.specs.Inner.{Shown}
use Rattle.register.specs.Reads.{ReadOf}
use Rattle.register.specs.Words.{state_words, Keeps, Foreign, Edits}
use Rattle.register.specs.declared.Register.{Register}
use Rattle.query.specs.Asking.{AsksPairs}
use Rattle.engine.specs.PreviewLaws.{preview_refused, preview_asked}
use Rattle.host.specs.Host.{refusal, told_counted, Asked}
use Rattle.host.specs.Previews.{Foresees}
use Rattle.host.proofs.ReadLaws.{read_few, read_kept}

-- ---- a copy of the words
pub copied_front : (ws : List ℕ) {before after : List ℕ} {q : ℕ} → state_words ≤ length ws → Wrote 0 (take state_words ws) before after q
    → take state_words after ≡ take state_words ws
unfolding written
copied_front ws {before} l c =
    let xs = take state_words ws in
    ap (take state_words) c.contents ∙ take_at xs (drop (0 + length xs) before) state_words (length-take-le state_words ws l)

-- words with the same front are those of the same register
keeps_front : {ws us : List ℕ} {r : Register} → take state_words us ≡ take state_words ws → Keeps us r → Keeps ws r
keeps_front e k = record {
  ranged = k.ranged;
  links = k.links;
  ring = k.ring;
  marks = k.marks;
  marked = k.marked;
  totals = k.totals;
  words = sym e ∙ k.words;
}

pub asked_front : {A : Type 0} {ws us before after : List ℕ} {P : Register → A → Type 0} {f : A → ℕ} {k : ℕ} → take state_words us ≡ take state_words ws
    → Asked us P f before after k → Asked ws P f before after k
asked_front e q = record { answers = λ r w. q.answers r (keeps_front (sym e) w); foreign = λ g. q.foreign (λ r u. g r (keeps_front e u)) }

-- ---- the call made on the copy
-- a bound that cannot fail holds
bounded : (a b : ℕ) → ((a ≤ b → ⊥) → ⊥) → a ≤ b
bounded a b f = go (dec_lt b a)
  where
    go : Dec (b < a) → a ≤ b
    go (yes h) = absurd (f (λ l. omega (arith, h, l)))
    go (no h) = omega (arith, h)

module _ {c : Call} {ws us : List ℕ} {k : ℕ} (E : Edits c ws us k) where
  pub foreseen_refused : (text : List ℕ) (work : ℕ) {before : List ℕ} {t : ℕ} → (k ≡ 0 → ⊥) → t ≡ refusal k → Foresees c ws text work before before t
  foreseen_refused text work {before} z e = record {
    answers = λ r w. let s = E.steps r w in (Refused k, preview_refused s.1 text work before k s.2 z, e);
    foreign = λ g. (e ∙ ap refusal (E.foreign g), refl);
  }

  -- an accepted call is one on a register's words
  accepted : k ≡ 0 → Foreign ws → ⊥
  unfolding number
  accepted z g = let e : k ≡ 16 = E.foreign g in omega arith

  module _ {marks links : List ℕ} (z : k ≡ 0) (M : Shown us (λ r. take r.n r.marks) marks) (L : Shown us (λ r. take r.count r.links) links) where
    pub foreseen_few : (length marks ≤ max_records) × (length links ≤ max_links)
    foreseen_few = (
      bounded _ _ (λ n. accepted z (λ r w. n (read_few (E.steps r w).3 M L).0)),
      bounded _ _ (λ n. accepted z (λ r w. n (read_few (E.steps r w).3 M L).1)),
    )

    pub foreseen_asked : (text : List ℕ) (work : ℕ) {before after : List ℕ} {t : ℕ} {a : Counted}
        → ((r : Register) → ReadOf r marks links → AsksPairs r text work before after a) → t ≡ told_counted a → Foresees c ws text work before after t
    foreseen_asked text work {before} {a = a} Q e = record {
      answers = λ r w.
          let s = E.steps r w in
          (a, preview_asked s.1 text work before k s.2 z (Q s.0.register (read_kept s.3 M L)), e);
      foreign = λ g. absurd (accepted z g);
    }
