-- Laws of the register's totals.
--   held_counted    holding an edit leaves them
--   represents_counted, counted_totals
--                   they are the counts of a register that represents a book, and then the book's totals
--   totals_refused, totals_given
--                   what asking for a total promises, by the label, of counters in range
-- Assumes nothing.
use mathlib.Core.Path.{◌≡◌, refl, sym, ap, ◌∙◌}
use mathlib.Core.List.{List}
use Prim.Native.Nat.{ℕ, ◌≤◌, ◌<◌}
use native.Mathlib.Omega.{arith}
use lib.ListN.{get_or}
use Rattle.book.specs.Causes.{bad_label, number, labels}
use Rattle.book.specs.Book.{Sheet, Book, total}
use Rattle.book.proofs.TotalLaws.{total_told, total_refused}
use Rattle.links.specs.Parts.{word_total}
use Rattle.register.specs.Packed.{Packed, Shows}
use Rattle.register.specs.Counters.{InRange}
use Rattle.register.specs.Questions.{Totals}
use Rattle.register.specs.Representation.{packed_of, Represents}
use Rattle.register.specs.Inner.{Tallied, Holding}
use Rattle.register.specs.declared.Register.{Register}
use Rattle.answers.specs.Answers.{answered}
use Rattle.answers.specs.declared.Counted.TheVariants.{Count, Refused}

pub held_counted : {m r : Register} {w : ℕ} → Holding m w r → Tallied m → Tallied r
held_counted o k l h = ap (λ (t : List ℕ). get_or t l 0) o.totals ∙ k l h ∙ sym (ap (λ (p : Packed). word_total l p.links) o.sheet)

pub represents_counted : {r : Register} {b : Book} → Represents r b → Tallied r
represents_counted h l p = h.totals l p ∙ sym (h.sheet.totals l)

pub counted_totals : (r : Register) {n : ℕ} {s : Sheet} → Tallied r → Shows n (packed_of r) s → (l : ℕ) → l < labels → get_or r.totals l 0 ≡ total s l
counted_totals r k s l h = k l h ∙ s.totals l

-- ---- asked for
module _ (r : Register) (l : ℕ) (i : InRange r) where
  pub totals_refused : labels ≤ l → Totals r l (Refused (number bad_label))
  unfolding number answered
  totals_refused h = record {
    foreign = λ o. absurd (o i);
    refused = λ _ _. refl;
    given = λ _ g. absurd (omega (arith, h, g));
    told = λ b _. sym (ap (λ (k : ℕ). answered k (total b.sheet l)) (total_refused l h));
  }

  pub totals_given : {t : ℕ} → l < labels → get_or r.totals l 0 ≡ t → Totals r l (Count t)
  unfolding answered
  totals_given {t} h e = record {
    foreign = λ o. absurd (o i);
    refused = λ _ g. absurd (omega (arith, h, g));
    given = λ _ _. (t, refl);
    told = λ b R. ap (λ (u : ℕ). Count u) (sym e ∙ R.totals l h) ∙ sym (ap (λ (k : ℕ). answered k (total b.sheet l)) (total_told l h));
  }
