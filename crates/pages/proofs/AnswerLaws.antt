-- The answers of the two calls, in plain variables.
--   prints_refused, prints_laid
--                   printing: refused as the pair question is; or its pages laid, or 13
--   reads_refused, reads_broken, reads_short, reads_pairs
--                   reading: the verdict's number, 14, 13, or the pairs
--   reads_accepted  an accepted text is an expression's
-- Assumes nothing.
use mathlib.Core.Path.{◌≡◌, refl, sym, ap, subst, ◌∙◌}
use mathlib.Core.List.{List}
use Prim.Native.Nat.{ℕ, ◌/◌, ◌≤◌, ◌<◌}
use native.Mathlib.Omega.{arith}
use lib.ListN.{length}
use Rattle.book.proofs.BookLaws.{caused_positive}
use Rattle.k2.specs.PairSets.{Cells}
use Rattle.paths.specs.Expressions.{Expr}
use Rattle.paths.specs.Grammar.{Verdict, accepted, long, outside, large}
use Rattle.paths.specs.Chains.{asked}
use Rattle.paths.specs.Relations.{cells, pairs}
use Rattle.paths.proofs.RelationLaws.{cells_set}
use Rattle.paths.proofs.PairLaws.{fit_inside}
use Rattle.paths.specs.Verdicts.{verdict}
use Rattle.answers.specs.Answers.{counted, Whole}
use Rattle.answers.specs.AnswerLaws.{contained_refused}
use Rattle.answers.specs.declared.Counted.{Counted}
use Rattle.answers.specs.declared.Counted.TheVariants.{Count, Refused}
use Rattle.paths.specs.Questions.{Outcome, refused, over, list_after, count_of, Tells}
use Rattle.reader.specs.Reads.{read_answer}
use Rattle.reader.specs.declared.Answer.TheVariants.{Accepted as Read, Refused as Faulty}
use Rattle.register.specs.declared.Register.{Register}
use Rattle.rows.specs.Rows.{flat}
use Rattle.rowpairs.specs.Evaluation.{Relating}
use Rattle.rowpairs.specs.RelatingLaws.{relating_refused, relating_made}
use Rattle.rowpairs.specs.declared.Related.{Related}
use Rattle.query.proofs.AskingLaws.{asked_enough, handed_tells, whole_contained}
use Rattle.pages.specs.Pages.{pages}
use Rattle.pages.specs.PageCalls.{print_outcome, Prints, ReadsPages}
use Rattle.pages.specs.PageCallLaws.{Content, listing, nothing, are_pages, no_pages, read_outcome, reads_by}
use Rattle.pages.specs.PageCallLaws.{print_refused, print_asked, read-refused, read_broken, read_short}
use Rattle.pages.specs.PageCallLaws.{read_filled}
use Rattle.pages.specs.Lines.{held, pairs_held, words_before, Judged, good, bad}
use Rattle.pages.proofs.LayoutLaws.{held_listed}
use Rattle.pages.specs.declared.reading.Judgement.{Judgement}
use Rattle.pages.specs.declared.reading.Judgement.TheVariants.{Listing, Broken}

-- ---- printing
module _ (r : Register) (text : List ℕ) (work : ℕ) (ws before : List ℕ) {q : Related} (A : Relating r (verdict text) work ws q) where
  pub prints_refused : {k : ℕ} → q.answer ≡ Refused k → Prints r text work before before (Refused k)
  unfolding counted count_of list_after
  prints_refused {k} e = record {
    contained = contained_refused (length before) 0 before before k (A.leaves.caused k e) refl;
    book = λ b R.
        let o : print_outcome b text work (length before) ≡ refused k =
        print_refused b text work (length before) k (verdict text) refl (relating_refused A b R e) (caused_positive (A.leaves.caused k e)) in
        record { answer = rw o refl; list = rw o refl };
  }

  pub prints_laid : {n : ℕ} {after : List ℕ} {a : Counted} → q.answer ≡ Count n
      → Whole (pages text (pairs_held (held ws q.masks n))) before after a → Prints r text work before after a
  unfolding pairs asked
  prints_laid {n} {after} {a} d L = record {
    contained = whole_contained L;
    book = λ b R.
        let B = A.leaves.book b R in
        let s = asked_enough b (verdict text) work (sym (relating_made A b R d)) in
        let w : pairs_held (held ws q.masks n) ≡ pairs (asked b) s.syntax =
        ap (λ (c : Cells). pairs_held (flat c)) (B.value s.syntax s.is n d)
        ∙ held_listed b.n (cells (asked b) s.syntax) (omega (arith, R.size, R.ranged.size))
        (cells_set (asked b) (fit_inside b R.sheet.fit) s.syntax) in
        subst (λ (o : Outcome). Tells o before after a) (sym (print_asked b text work (length before) s.syntax s.is s.enough))
        (handed_tells _ (subst (λ (l : List ℕ). Whole (pages text l) before after a) w L));
  }

-- ---- reading
-- an expression is not faulty
not_faulty : {v : Verdict} {k : ℕ} (e : Expr) → v ≡ accepted e → read_answer v ≡ Faulty k → ⊥
unfolding read_answer
not_faulty e v q = let a = sym (ap read_answer v) ∙ q in let z : ◌≡◌ {A = ℕ} 0 1 = cc in omega arith

pub reads_refused : (text bytes list : List ℕ) (k : ℕ) → read_answer (verdict text) ≡ Faulty k → ReadsPages text bytes list list (Refused k)
unfolding count_of list_after
reads_refused text bytes list k e =
    let o = read-refused (verdict text) k nothing (length list) e in
    reads_by {text = text} {bytes = bytes} {before = list} {after = list} {a = Refused k} (record {
      content = nothing;
      holds = λ x v. absurd (not_faulty x v e);
      tells = record { answer = rw o refl; list = rw o refl };
    })

module _ (text bytes list : List ℕ) (e : Expr) (v : verdict text ≡ accepted e) where
  outcome : (c : Content) {o : Outcome} → read_outcome (accepted e) c (length list) ≡ o → read_outcome (verdict text) c (length list) ≡ o
  outcome c q = ap (λ (w : Verdict). read_outcome w c (length list)) v ∙ q

  pub reads_broken : {j : Judgement} → j ≡ Broken → Judged text bytes j → ReadsPages text bytes list list (Refused 14)
  unfolding count_of list_after
  reads_broken q (good l s P) = absurd (let z : ◌≡◌ {A = ℕ} 0 1 = cc in omega arith)
  reads_broken q (bad n) =
      let o = outcome nothing (read_broken e (length list)) in
      reads_by {text = text} {bytes = bytes} {before = list} {after = list} {a = Refused 14} (record {
        content = nothing;
        holds = λ x u. no_pages n;
        tells = record { answer = rw o refl; list = rw o refl };
      })

  pub reads_short : {j : Judgement} {k : ℕ} → j ≡ Listing k → Judged text bytes j → length list < k → ReadsPages text bytes list list (Refused 13)
  unfolding count_of list_after
  reads_short q (bad n) h = absurd (let z : ◌≡◌ {A = ℕ} 0 1 = cc in omega arith)
  reads_short {k = k} q (good l s P) h =
      let z : length l ≡ k = cc in
      let o = outcome (listing l) (read_short e l (length list) (omega arith)) in
      reads_by {text = text} {bytes = bytes} {before = list} {after = list} {a = Refused 13} (record {
        content = listing l;
        holds = λ x u. are_pages P;
        tells = record { answer = rw o refl; list = rw o refl };
      })

  pub reads_pairs : {j : Judgement} {k : ℕ} {after : List ℕ} → j ≡ Listing k → Judged text bytes j → k ≤ length list
      → after ≡ over (words_before bytes (length bytes / 73)) list → ReadsPages text bytes list after (Count k)
  unfolding count_of list_after
  reads_pairs q (bad n) h w = absurd (let z : ◌≡◌ {A = ℕ} 0 1 = cc in omega arith)
  reads_pairs {k = k} {after} q (good l s P) h w =
      let z : length l ≡ k = cc in
      let o = outcome (listing l) (read_filled e l (length list) (omega arith)) in
      reads_by {text = text} {bytes = bytes} {before = list} {after = after} {a = Count k} (record {
        content = listing l;
        holds = λ x u. are_pages P;
        tells = record { answer = rw o (ap Count (sym z)); list = rw o (w ∙ ap (λ (m : List ℕ). over m list) (sym s)) };
      })

-- an accepted text is an expression's
pub reads_accepted : (text bytes list : List ℕ) {after : List ℕ} {a : Counted} {n : ℕ} → read_answer (verdict text) ≡ Read n
    → ((e : Expr) → verdict text ≡ accepted e → ReadsPages text bytes list after a) → ReadsPages text bytes list after a
unfolding read_answer
reads_accepted text bytes list q f = let v = read_expression (verdict text) q in f v.0 v.1
  where
    read_expression : (v : Verdict) {n : ℕ} → read_answer v ≡ Read n → (e : Expr) × (v ≡ accepted e)
    read_expression (accepted e) q = (e, refl)
    read_expression long q = absurd (let z : ◌≡◌ {A = ℕ} 0 1 = cc in omega arith)
    read_expression outside q = absurd (let z : ◌≡◌ {A = ℕ} 0 1 = cc in omega arith)
    read_expression large q = absurd (let z : ◌≡◌ {A = ℕ} 0 1 = cc in omega arith)
