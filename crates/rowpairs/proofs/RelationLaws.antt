-- The relation as rows, in plain variables: refused as the relation is, 12 for too few rows, or the rows made. Assumes nothing.
use mathlib.Core.Path.{◌≡◌, refl, sym, ap, ap₂, ◌∙◌}
use mathlib.Core.List.{List, ◌++◌}
use Prim.Native.Nat.{ℕ, ◌≤◌, ◌<◌}
use native.Mathlib.Omega.{arith}
use lib.ListN.{length, drop}
use Rattle.book.specs.Causes.{short_work, number, max_records}
use Rattle.book.specs.Book.{Book}
use Rattle.book.proofs.BookLaws.{caused_positive}
use Rattle.answers.specs.Answers.{answered}
use Rattle.answers.specs.declared.Counted.TheVariants.{Count, Refused}
use Rattle.k2.specs.Bits.{bit_at}
use Rattle.k2.specs.PairSets.{Cells, listed}
use Rattle.paths.specs.Grammar.{Verdict}
use Rattle.paths.specs.Chains.{asked}
use Rattle.paths.specs.Relations.{cells, pairs}
use Rattle.paths.specs.Questions.{row_width}
use Rattle.rows.specs.Rows.{flat}
use Rattle.grid.specs.Grid.{first}
use Rattle.register.specs.Representation.{Represents}
use Rattle.register.specs.declared.Register.{Register}
use Rattle.query.specs.Asking.{row_words, relation_answer, RelatesFor}
use Rattle.query.proofs.AskingLaws.{Asked, asked_enough, relation_refused, relation_few, relates_refused, relates_made}
use Rattle.rowpairs.specs.Evaluation.{relation_in, Relating}
use Rattle.rowpairs.specs.RelatingLaws.{relating_refused, relating_made}
use Rattle.rowpairs.specs.declared.Related.{Related}
use Rattle.rowpairs.proofs.AnswerLaws.{value_few}

module _ {r : Register} {v : Verdict} {work : ℕ} {ws : List ℕ} {q : Related} (A : Relating r v work ws q) (before : List ℕ) where
  pub rows_refused : {k : ℕ} → q.answer ≡ Refused k → RelatesFor r v work before before (Refused k)
  rows_refused {k} e =
      let c = A.leaves.caused k e in
      relates_refused r v work before k c (λ b R. relation_refused b work (length before) v k (relating_refused A b R e) (caused_positive c))

  module _ {n : ℕ} (d : q.answer ≡ Count n) where
    asks : (b : Book) → Represents r b → Asked b v work
    asks b R = asked_enough b v work (sym (relating_made A b R d))

    pub rows_few : length before < row_words → RelatesFor r v work before before (Refused 12)
    unfolding number
    rows_few l = relates_refused r v work before 12 (short_work, refl) (λ b R.
        let s = asks b R in
        ap (λ (x : Verdict). relation_answer b x work (length before)) s.is ∙ relation_few b work (length before) s.syntax s.enough l)

    pub rows_made : (w t : ℕ) (part : List ℕ) → w ≡ row_width n → n ≤ max_records → row_words ≤ length before → length part ≡ row_words
        → bit_at part ≡ flat (first n w ws q.masks) → t ≡ length (listed n (relation_in ws q.masks n))
        → RelatesFor r v work before (part ++ drop row_words before) (Count t)
    unfolding pairs asked answered
    rows_made w t part e small l wide spread total =
        relates_made r v work before t part asks l wide (omega (arith, total, value_few n (row_width n) ws q.masks small)) (λ b R.
        let s = asks b R in
        let B = A.leaves.book b R in
        let a : relation_in ws q.masks n ≡ cells (asked b) s.syntax = B.value s.syntax s.is n d in
        let z : Count n ≡ Count b.n = sym d ∙ B.answer ∙ ap (λ (k : ℕ). answered k b.n) (sym (relating_made A b R d)) in
        let y : n ≡ b.n = cc in (
          spread ∙ ap (λ (i : ℕ). flat (first n i ws q.masks)) e ∙ ap flat a,
          total ∙ ap₂ (λ (i : ℕ) (c : Cells). length (listed i c)) y a,
        ))
