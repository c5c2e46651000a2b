-- From a reading of a whole text to its answer.
--   refuses_long, refuses_outside, refuses_large
--                            a refusal, by its verdict
--   more_bytes, many_letters, too_deep
--                            a verdict, by what was read
--   accepts                  a text that is accepted
--   empty_text               the empty text
-- Assumes nothing.
use mathlib.Core.Path.{◌≡◌, refl, sym, ap, ◌∙◌}
use mathlib.Core.List.{List, [], ◌++◌}
use Prim.Native.Nat.{ℕ, zero, suc, ◌+◌, ◌-◌, ◌≤◌, ◌<◌}
use native.Mathlib.Omega.{arith}
use native.Mathlib.Nat.{zero-sub, suc-sub-suc, sub-zero}
use lib.ListN.{length, drop, replicate, drop_of_length-le, length-replicate}
use lib.Seq.{sets, sets-eq, drop-cons}
use Rattle.book.specs.Causes.{first_number, number, max_bytes, max_letters, max_depth}
use Rattle.paths.specs.Grammar.{Verdict, accepted, long, outside, large, verdict_cause}
use Rattle.paths.specs.Descent.{got, alternatives_in, read_alternatives}
use Rattle.paths.specs.Verdicts.{verdict}
use Rattle.paths.proofs.VerdictLaws.{verdict_more, verdict_letters, verdict_deep, verdict_accepted}
use Rattle.reader.specs.Code.{code}
use Rattle.reader.specs.declared.Spot.{Spot}
use Rattle.reader.specs.declared.Answer.TheVariants.{Accepted, Refused}
use Rattle.reader.specs.declared.Reading.{Reading}
use Rattle.reader.specs.Reads.{read_answer, code_array, Reads}
use Rattle.reader.proofs.StepLaws.{Gave}

-- a refusal
abbrev pub Refuses : ℕ → Reading → Type 0
Refuses k r = (r.answer ≡ Refused k) × (r.code ≡ replicate max_bytes 0)

refuses : {s : List ℕ} {r : Reading} (v : Verdict) (k : ℕ) → read_answer v ≡ Refused k
    → code_array v ≡ replicate max_bytes 0 → verdict s ≡ v → Refuses k r → Reads s r
refuses v k a c h f = record { answered = f.0 ∙ sym a ∙ ap read_answer (sym h); coded = f.1 ∙ sym c ∙ ap code_array (sym h) }

pub refuses_long : {s : List ℕ} {r : Reading} → verdict s ≡ long → Refuses 10 r → Reads s r
unfolding read_answer code_array first_number verdict_cause number
refuses_long h f = refuses long 10 refl refl h f

pub refuses_outside : {s : List ℕ} {r : Reading} → verdict s ≡ outside → Refuses 9 r → Reads s r
unfolding read_answer code_array first_number verdict_cause number
refuses_outside h f = refuses outside 9 refl refl h f

pub refuses_large : {s : List ℕ} {r : Reading} → verdict s ≡ large → Refuses 10 r → Reads s r
unfolding read_answer code_array first_number verdict_cause number
refuses_large h f = refuses large 10 refl refl h f

-- the zeros after a code
abbrev zeros : ℕ → List ℕ
zeros n = replicate n 0

drop_zeros : (k n : ℕ) → drop k (zeros n) ≡ zeros (n - k)
drop_zeros zero n = ap zeros (sym (sub-zero n))
drop_zeros (suc k) zero = ap zeros (sym (zero-sub (suc k)))
drop_zeros (suc k) (suc n) = drop_zeros k n ∙ ap zeros (sym (suc-sub-suc n k))

code_then_zeros : (cs : List ℕ) (n : ℕ) → length cs ≤ n → sets (zeros n) 0 cs ≡ cs ++ zeros (n - length cs)
code_then_zeros cs n h =
    let fits : 0 + length cs ≤ length (zeros n) = omega (arith, length-replicate {A = ℕ} n 0) in
    let from : 0 + length cs ≡ length cs = omega arith in
    sets-eq cs (zeros n) 0 fits ∙ ap (λ (l : List ℕ). cs ++ l) (ap (λ (k : ℕ). drop k (zeros n)) from ∙ drop_zeros (length cs) n)

-- what was read of the text s, which is within the bytes
module _ {s b a : List ℕ} {q : Spot} (h : length s ≤ max_bytes) (g : Gave got s 0 0 b a (read_alternatives s) q) where
  whole_text : length s ≤ q.at → read_alternatives s ≡ got g.e []
  whole_text k = g.is ∙ ap (got g.e) (drop_of_length-le s k)

  pub more_bytes : q.at < length s → verdict s ≡ outside
  more_bytes k = verdict_more s g.e _ _ h (g.is ∙ ap (got g.e) (drop-cons s q.at 0 k))

  pub many_letters : length s ≤ q.at → max_letters < q.letters → verdict s ≡ large
  many_letters k l = verdict_letters s g.e h (whole_text k) (omega (arith, g.found.letters_are))

  pub too_deep : length s ≤ q.at → q.letters ≤ max_letters → max_depth < q.depth → verdict s ≡ large
  too_deep k l d = verdict_deep s g.e h (whole_text k) (omega (arith, g.found.letters_are)) (omega (arith, g.found.depth_is))

pub accepts : {s a : List ℕ} {q : Spot} → length s ≤ max_bytes → Gave got s 0 0 (replicate max_bytes 0) a (read_alternatives s) q
    → length s ≤ q.at → q.letters ≤ max_letters → q.depth ≤ max_depth → Reads s (record { answer = Accepted q.end; code = a })
unfolding read_answer code_array
accepts {s} {a} {q} h g k l d =
    let f = g.found in
    let v : verdict s ≡ accepted g.e = verdict_accepted s g.e h (whole_text h g k) (omega (arith, f.letters_are)) (omega (arith, f.depth_is)) in
    let end : q.end ≡ length (code g.e) = omega (arith, f.end_is) in
    let zeros = code_then_zeros (code g.e) max_bytes (omega (arith, f.short, f.inside)) in
    record { answered = ap Accepted end ∙ ap read_answer (sym v); coded = f.written ∙ zeros ∙ ap code_array (sym v) }

-- no text is no expression
pub empty_text : {s : List ℕ} → s ≡ [] → verdict s ≡ outside
unfolding verdict read_alternatives alternatives_in
empty_text h = ap verdict h
