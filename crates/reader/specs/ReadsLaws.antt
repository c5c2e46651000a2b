-- What a reading tells its callers.
--   reads_number    the answer's number is that of the verdict's cause, or 0
--   reads_as        what is read of a text that is to be accepted
--   reads_accepted  an accepted text is that of an expression, whose code the array begins with
--   reads_refused   a refused one has a cause, whose number is given, and is that of no expression within the limits
-- Assumes nothing.
use Rattle.std.specs.Prelude.{◌≡◌, refl, List, ℕ, ◌<◌, length, take}
use Rattle.std.proofs.Common.{sym, ap, ◌∙◌, arith}
use Rattle.std.proofs.Math.Seq.{take-append_seam}
use Rattle.book.specs.Causes.{number, first_number}
use Rattle.paths.specs.Expressions.{Expr}
use Rattle.paths.specs.Grammar.{Verdict, accepted, long, outside, large, verdict_cause}
use Rattle.paths.specs.Verdicts.{verdict}
use Rattle.paths.proofs.VerdictLaws.{accepted_is}
use Rattle.reader.specs.Code.{code}
use Rattle.reader.specs.CodeLaws.{code_short}
use Rattle.reader.specs.declared.Answer.TheVariants.{Accepted, Refused}
use Rattle.reader.specs.declared.Reading.{Reading}
use Rattle.reader.specs.Reads.{read_answer, code_array, Reads, read_number, ReadAs}

number_of : (v : Verdict) → read_number (read_answer v) ≡ first_number (verdict_cause v)
unfolding read_answer first_number verdict_cause
number_of (accepted e) = refl
number_of long = refl
number_of outside = refl
number_of large = refl

pub reads_number : {text : List ℕ} {r : Reading} → Reads text r → read_number r.answer ≡ first_number (verdict_cause (verdict text))
reads_number {text} h = ap read_number h.answered ∙ number_of (verdict text)

pub reads_as : {text : List ℕ} {r : Reading} (e : Expr) → Reads text r → verdict text ≡ accepted e
    → (r.answer ≡ Accepted (length (code e))) × ReadAs text (length (code e)) r.code e
unfolding read_answer code_array
reads_as {text} {r} e h v =
    let limits = accepted_is text e v in (
      h.answered ∙ ap read_answer v,
      record {
        is = v;
        limits = limits;
        end = refl;
        fits = omega (arith, limits.bytes, code_short limits.syntax);
        front = ap (take (length (code e))) (h.coded ∙ ap code_array v) ∙ take-append_seam (code e) _;
      },
    )

-- by the verdict
accepted_as : {text : List ℕ} {r : Reading} {n : ℕ} (v : Verdict) → verdict text ≡ v
    → Reads text r → read_answer v ≡ Accepted n → (e : Expr) × ReadAs text n r.code e
unfolding read_answer
accepted_as {text} {r} {n} (accepted e) q h a = let p = reads_as e h q in let z : length (code e) ≡ n = cc in (e, rw (← z) p.1)
accepted_as long q h a = absurd (let z : ◌≡◌ {A = ℕ} 0 1 = cc in omega arith)
accepted_as outside q h a = absurd (let z : ◌≡◌ {A = ℕ} 0 1 = cc in omega arith)
accepted_as large q h a = absurd (let z : ◌≡◌ {A = ℕ} 0 1 = cc in omega arith)

pub reads_accepted : {text : List ℕ} {r : Reading} {n : ℕ} → Reads text r → r.answer ≡ Accepted n → (e : Expr) × ReadAs text n r.code e
reads_accepted {text} h a = accepted_as (verdict text) refl h (sym h.answered ∙ a)

refused_some : (v : Verdict) (k : ℕ) → read_answer v ≡ Refused k → (0 < k) × ((e : Expr) → v ≡ accepted e → ⊥)
unfolding read_answer first_number verdict_cause number
refused_some (accepted e) k a = absurd (let z : ◌≡◌ {A = ℕ} 0 1 = cc in omega arith)
refused_some long k a = (let z : 10 ≡ k = cc in omega arith, λ e h. let z : ◌≡◌ {A = ℕ} 0 1 = cc in omega arith)
refused_some outside k a = (let z : 9 ≡ k = cc in omega arith, λ e h. let z : ◌≡◌ {A = ℕ} 0 1 = cc in omega arith)
refused_some large k a = (let z : 10 ≡ k = cc in omega arith, λ e h. let z : ◌≡◌ {A = ℕ} 0 1 = cc in omega arith)

pub reads_refused : {text : List ℕ} {r : Reading} {k : ℕ} → Reads text r → r.answer ≡ Refused k
    → (first_number (verdict_cause (verdict text)) ≡ k) × ((0 < k) × ((e : Expr) → verdict text ≡ accepted e → ⊥))
reads_refused {text} {r} {k} h a = (sym (reads_number h) ∙ ap read_number a, refused_some (verdict text) k (sym h.answered ∙ a))
