-- What no cause against the ties means, and that the numbers found tie by tie are the first of all of them.
--   causes_in_order  which keep to the order of causes
--   sooner_three     the sooner of two numbers is that of the causes taken together
--   judge-all        tie by tie is all ties at once
--   causes_are       so the base's number, then the ties', then the work's are `offsets_causes`
--   no_cause_ready   where there is none, the base is a record and every tie is allowed
-- Assumes nothing.
use Rattle.std.specs.Prelude.{◌≡◌, Bool, ◌||◌, ℕ, ◌*◌, ◌≤◌, ◌<◌, leb, pos, neg_ℤ, length, ◌≤ℤ◌}
use Rattle.std.proofs.Math.Path.{refl, ap}
use Rattle.std.proofs.Common.{◌∙◌, leb-false, ltb-false}
use mathlib.Core.List.{List, [], ◌∷◌}
use Rattle.std.proofs.Math.Bool.{true, false}
use Rattle.std.proofs.Math.Dec.{ltb}
use Rattle.std.specs.Int.Signed.{lt_z}
use Rattle.book.specs.Basics.{In, here, there}
use Rattle.book.specs.Causes.{no_record, withdrawn_record, bad_tie, short_work, first_number, number, max_records}
use Rattle.book.specs.CauseOrders.{InOrder, none_left, same_cause, offsets_order}
use Rattle.book.proofs.BookLaws.{first-none}
use Rattle.book.proofs.SetLaws.{or_neither}
use Rattle.offsets.specs.declared.Tie.{Tie}
use Rattle.offsets.proofs.LinearLaws.{to_le, of_not_ltb}
use Rattle.offsets.proofs.ThirdLaws.{Ready}
use Rattle.offsets.specs.Answers.{max_ties, max_rings, outside, any_tie, offsets_work, offsets_causes}
use Rattle.offsets.specs.Inner.{Records, is_withdrawn_in, sooner, three, tie_number, base_number, judge_all, or_else}

pub causes_in_order : (n : ℕ) (w : ℕ → Bool) (base : ℕ) (ts : List Tie) (work : ℕ) → InOrder (offsets_causes n w base ts work) offsets_order
unfolding offsets_causes offsets_order
causes_in_order n w base ts work = same_cause (same_cause (same_cause (same_cause none_left)))

pub sooner_three : (a b c d e f : Bool) → sooner (three a b c) (three d e f) ≡ three (a || d) (b || e) (c || f)
unfolding sooner three first_number number
sooner_three true b c true e f = refl
sooner_three true b c false true f = refl
sooner_three true b c false false true = refl
sooner_three true b c false false false = refl
sooner_three false true c true e f = refl
sooner_three false true c false true f = refl
sooner_three false true c false false true = refl
sooner_three false true c false false false = refl
sooner_three false false true true e f = refl
sooner_three false false true false true f = refl
sooner_three false false true false false true = refl
sooner_three false false true false false false = refl
sooner_three false false false d e f = refl

or_assoc : (a b c : Bool) → ((a || b) || c) ≡ (a || (b || c))
or_assoc true b c = refl
or_assoc false b c = refl

three_same : {a a' b b' c c' : Bool} → a ≡ a' → b ≡ b' → c ≡ c' → three a b c ≡ three a' b' c'
three_same {a} {a'} {b} {b'} {c} {c'} e f g = ap (λ (t : Bool). three t b c) e ∙ ap (λ (t : Bool). three a' t c) f ∙ ap (λ (t : Bool). three a' b' t) g

module _ (g : Records) where
  abbrev n : ℕ
  n = g.n

  abbrev w : ℕ → Bool
  w = is_withdrawn_in g.marks

  -- the three tests of a tie
  abbrev far : Tie → Bool
  far t = leb n t.first || leb n t.second

  abbrev gone : Tie → Bool
  gone t = w t.first || w t.second

  tie_is : (t : Tie) → tie_number n g.marks t ≡ three (far t) (gone t) (outside t)
  unfolding tie_number
  tie_is t = refl

  pub judge-all : (ts : List Tie) (a b c : Bool)
      → judge_all g.n g.marks ts (three a b c) ≡ three (a || any_tie far ts) (b || any_tie gone ts) (c || any_tie outside ts)
  unfolding any_tie
  judge-all [] a b c = three_same (or-false a) (or-false b) (or-false c)
    where
      or-false : (t : Bool) → t ≡ (t || false)
      or-false true = refl
      or-false false = refl
  judge-all (t ∷ ts) a b c =
      ap (judge_all g.n g.marks ts) (ap (sooner (three a b c)) (tie_is t) ∙ sooner_three a b c (far t) (gone t) (outside t))
      ∙ judge-all ts (a || far t) (b || gone t) (c || outside t)
      ∙ three_same (or_assoc a (far t) (any_tie far ts)) (or_assoc b (gone t) (any_tie gone ts)) (or_assoc c (outside t) (any_tie outside ts))

  zero_is : ◌≡◌ {A = ℕ} 0 (three false false false)
  unfolding three first_number number
  zero_is = refl

  found_is : (base : ℕ) (ts : List Tie) → sooner (base_number n g.marks base (length ts)) (judge_all g.n g.marks ts 0)
      ≡ three (leb n base || any_tie far ts) (w base || any_tie gone ts) (ltb max_ties (length ts) || any_tie outside ts)
  unfolding base_number
  found_is base ts =
      ap (sooner (three (leb n base) (w base) (ltb max_ties (length ts)))) (ap (judge_all g.n g.marks ts) zero_is ∙ judge-all ts false false false)
      ∙ sooner_three (leb n base) (w base) (ltb max_ties (length ts)) (any_tie far ts) (any_tie gone ts) (any_tie outside ts)

  four : (a b c s : Bool) → or_else (three a b c) (first_number ((short_work, s) ∷ []))
      ≡ first_number ((no_record, a) ∷ (withdrawn_record, b) ∷ (bad_tie, c) ∷ (short_work, s) ∷ [])
  unfolding three first_number number
  four true b c s = refl
  four false true c s = refl
  four false false true s = refl
  four false false false s = refl

  pub causes_are : (base : ℕ) (ts : List Tie) (work : ℕ)
      → or_else (sooner (base_number n g.marks base (length ts)) (judge_all g.n g.marks ts 0)) (first_number ((short_work, ltb work (offsets_work n)) ∷ []))
      ≡ first_number (offsets_causes n w base ts work)
  unfolding offsets_causes
  causes_are base ts work =
      ap (λ (k : ℕ). or_else k (first_number ((short_work, ltb work (offsets_work n)) ∷ []))) (found_is base ts)
      ∙ four (leb n base || any_tie far ts) (w base || any_tie gone ts) (ltb max_ties (length ts) || any_tie outside ts) (ltb work (offsets_work n))

-- ---- no cause
any_no : (test : Tie → Bool) (ts : List Tie) → any_tie test ts ≡ false → (t : Tie) → In t ts → test t ≡ false
unfolding any_tie
any_no test [] e t x'' = elim x'' [ ]
any_no test (u ∷ ts) e t here = (or_neither (test u) (any_tie test ts) e).0
any_no test (u ∷ ts) e t (there i) = any_no test ts (or_neither (test u) (any_tie test ts) e).1 t i

inside_limits : (t : Tie) → outside t ≡ false → (neg_ℤ (pos max_rings) ≤ℤ t.least) × ((t.least ≤ℤ t.most) × (t.most ≤ℤ pos max_rings))
unfolding outside
inside_limits t e =
    let p = or_neither (lt_z t.least (neg_ℤ (pos max_rings))) (lt_z (pos max_rings) t.most || lt_z t.most t.least) e in
    let q = or_neither (lt_z (pos max_rings) t.most) (lt_z t.most t.least) p.1 in (
      to_le (of_not_ltb t.least (neg_ℤ (pos max_rings)) p.0),
      (to_le (of_not_ltb t.most t.least q.1), to_le (of_not_ltb (pos max_rings) t.most q.0)),
    )

pub no_cause_ready : (n : ℕ) (w : ℕ → Bool) (base : ℕ) (ts : List Tie) (work : ℕ) → n ≤ max_records
    → first_number (offsets_causes n w base ts work) ≡ 0 → Ready n ts × ((base < n) × (n * 64 ≤ work))
unfolding offsets_causes
no_cause_ready n w base ts work few e =
    let one = first-none no_record _ _ e in
    let two = first-none withdrawn_record _ _ one.1 in
    let three' = first-none bad_tie _ _ two.1 in
    let four' = first-none short_work _ _ three'.1 in
    let r = or_neither (leb n base) (any_tie (λ t. leb n t.first || leb n t.second) ts) one.0 in
    let m = or_neither (ltb max_ties (length ts)) (any_tie outside ts) three'.0 in (
      record {
        few_records = few;
        few_ties = ltb-false max_ties (length ts) m.0;
        allowed = λ t i.
            let f = or_neither (leb n t.first) (leb n t.second) (any_no (λ t. leb n t.first || leb n t.second) ts r.1 t i) in
            let l = inside_limits t (any_no outside ts m.1 t i) in
            record {
              first_in = leb-false n t.first f.0;
              second_in = leb-false n t.second f.1;
              least_in = l.0;
              ordered = l.1.0;
              most_in = l.1.1;
            };
      },
      (leb-false n base r.0, ltb-false work (n * 64) four'.0),
    )
