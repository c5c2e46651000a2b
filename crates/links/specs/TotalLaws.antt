-- Laws of the totals of labels: a word put in or taken out moves the count of its label by one, and the kept totals follow.
--   rises_distinct  ascending words are each there once
--   word_total_insert, word_total_without
--                   a word put in, or taken out, moves the count of its label by one
--   raised, lowered, raised_set, lowered_set
--                   one total more or less, the others as they were; by a store into the list
--   raised_counted, lowered_counted
--                   totals that are the counts stay so, with a word put in or taken out
-- Assumes nothing.
use Rattle.std.specs.Prelude.{◌≡◌, refl, List, [], ◌∷◌, Bool, true, false, ℕ, ◌+◌, ◌-◌, ◌/◌, ◌≤◌, ◌<◌, ltb, eqb, length, get_or, set}
use Rattle.std.proofs.Common.{sym, ap, ◌∙◌, arith, get_or-set_same, get_or-set_other, eqb-true}
use Rattle.std.proofs.lemmas.Bool.{eqb-false}
use Rattle.book.specs.Basics.{pick, bit, has, without, tally, Rises, ended, rises}
use Rattle.book.specs.Causes.{labels, max_links}
use Rattle.book.specs.Sheets.{Distinct}
use Rattle.book.proofs.SetLaws.{eqb_test}
use Rattle.book.proofs.TotalLaws.{tally_le, tally_without}
use Rattle.links.specs.Parts.{label_unit, word_total}
use Rattle.links.specs.Ascending.{insert}
use Rattle.links.specs.Totals.{TotalsOf, Raised, Lowered}
use Rattle.links.specs.AscendingLaws.{rises_absent}

-- ---- words
pub rises_distinct : {m : ℕ} {l : List ℕ} → Rises m l → Distinct eqb l
unfolding Distinct
rises_distinct ended = tt
rises_distinct (rises {w = w} h r) = (rises_absent w r (omega arith), rises_distinct r)

tally_insert : (t : ℕ → Bool) (x : ℕ) (l : List ℕ) → tally t (insert x l) ≡ bit (t x) + tally t l
unfolding tally insert
tally_insert t x [] = refl
tally_insert t x (y ∷ ys) = go (ltb y x) (tally_insert t x ys)
  where
    go : (u : Bool) → tally t (insert x ys) ≡ bit (t x) + tally t ys
        → tally t (pick u (y ∷ insert x ys) (x ∷ y ∷ ys)) ≡ bit (t x) + (bit (t y) + tally t ys)
    go true ih = omega (arith, ih)
    go false ih = refl

pub word_total_insert : (l x : ℕ) (ws : List ℕ) → word_total l (insert x ws) ≡ bit (eqb (x / label_unit) l) + word_total l ws
unfolding word_total
word_total_insert l x ws = tally_insert (λ w. eqb (w / label_unit) l) x ws

pub word_total_without : {m : ℕ} (l x : ℕ) (ws : List ℕ) → Rises m ws → has eqb x ws ≡ true
    → word_total l ws ≡ bit (eqb (x / label_unit) l) + word_total l (without eqb x ws)
unfolding word_total
word_total_without l x ws r e = tally_without (λ w. eqb (w / label_unit) l) eqb_test x ws (rises_distinct r) e

word_total_le : (l : ℕ) (ws : List ℕ) → word_total l ws ≤ length ws
unfolding word_total
word_total_le l ws = tally_le (λ w. eqb (w / label_unit) l) ws

-- ---- one total more or less
-- what has to be shown at the label, and at every other
pub raised : {l : ℕ} {ts us : List ℕ} → (l < labels → get_or ts l 0 < max_links → get_or us l 0 ≡ 1 + get_or ts l 0)
    → ((j : ℕ) → (j ≡ l → ⊥) → get_or us j 0 ≡ get_or ts j 0) → Raised l ts us
raised {l} {ts} {us} f g = record { more = λ j h k. go j h k (eqb l j) refl }
  where
    go : (j : ℕ) → j < labels → get_or ts j 0 < max_links → (t : Bool) → eqb l j ≡ t → get_or us j 0 ≡ bit t + get_or ts j 0
    go j h k true e = let z : l ≡ j = eqb-true l j e in rw (sym z) (f (omega arith) (rw z k))
    go j h k false e = omega (arith, g j (λ z. eqb-false l j e (sym z)))

pub lowered : {l : ℕ} {ts us : List ℕ} → (l < labels → 1 ≤ get_or ts l 0 → get_or ts l 0 ≡ 1 + get_or us l 0)
    → ((j : ℕ) → (j ≡ l → ⊥) → get_or us j 0 ≡ get_or ts j 0) → Lowered l ts us
lowered {l} {ts} {us} f g = record { less = λ j h k. go j h (eqb l j) refl k }
  where
    go : (j : ℕ) → j < labels → (t : Bool) → eqb l j ≡ t → bit t ≤ get_or ts j 0 → get_or ts j 0 ≡ bit t + get_or us j 0
    go j h true e k = let z : l ≡ j = eqb-true l j e in rw (sym z) (f (omega arith) (rw z k))
    go j h false e k = omega (arith, g j (λ z. eqb-false l j e (sym z)))

pub raised_set : (l : ℕ) (ts : List ℕ) → l < length ts → Raised l ts (set ts l (get_or ts l 0 + 1))
raised_set l ts h = raised (λ _ _. get_or-set_same ts l (get_or ts l 0 + 1) 0 h ∙ omega arith) (λ j z. get_or-set_other ts l j (get_or ts l 0 + 1) 0 z)

pub lowered_set : (l : ℕ) (ts : List ℕ) → l < length ts → 1 ≤ get_or ts l 0 → Lowered l ts (set ts l (get_or ts l 0 - 1))
lowered_set l ts h k =
    lowered (λ _ _. let e = get_or-set_same ts l (get_or ts l 0 - 1) 0 h in omega (arith, e)) (λ j z. get_or-set_other ts l j (get_or ts l 0 - 1) 0 z)

-- ---- totals kept
pub raised_counted : (x : ℕ) (ts us ws vs : List ℕ) → length ws < max_links → vs ≡ insert x ws → Raised (x / label_unit) ts us → TotalsOf ts ws → TotalsOf us vs
raised_counted x ts us ws vs n e r k l h =
    r.more l h (omega (arith, k l h, word_total_le l ws)) ∙ ap (λ (t : ℕ). bit (eqb (x / label_unit) l) + t) (k l h)
    ∙ sym (ap (word_total l) e ∙ word_total_insert l x ws)

pub lowered_counted : (x : ℕ) (ts us ws vs : List ℕ) → Rises 0 ws → has eqb x ws ≡ true
    → vs ≡ without eqb x ws → Lowered (x / label_unit) ts us → TotalsOf ts ws → TotalsOf us vs
lowered_counted x ts us ws vs a i e r k l h =
    let w = word_total_without l x ws a i in
    let v : word_total l vs ≡ word_total l (without eqb x ws) = ap (word_total l) e in
    omega (arith, r.less l h (omega (arith, k l h, w)), k l h, w, v)
