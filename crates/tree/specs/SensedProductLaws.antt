-- `ProductSensed` and `DamagedRefused` of SensedProducts, from what the calls promise: an accepted call wrote its answer (`accepted`), so an operand and its
-- transpose have the sets that they should (`transposed_set`), and two calls with the same causes and the same answer say the same (`same_answer`).
--   product_sensed    a product with senses is the product of the operands so transposed
--   damaged_refused   words that are no tree are refused
-- Assumes nothing.
use Rattle.std.specs.Prelude.{◌≡◌, refl, List, [], ◌∷◌, ℕ, zero, suc, ◌+◌, length, take, drop}
use Rattle.std.proofs.Common.{sym, ap, ap₂, ◌∙◌, arith, take_at}
use Rattle.book.specs.Causes.{number, first_number}
use Rattle.k2.specs.PairSets.{Cells, product, transpose}
use Rattle.k2.specs.PairSetLaws.{transpose_set}
use Rattle.k2.specs.Trees.{tree_words}
use Rattle.k2.specs.TreeSets.{set_in, formed}
use Rattle.k2.specs.TreeSetLaws.{tree_tells_set, told_set, tree_formed}
use Rattle.packing.specs.declared.loading.Sense.{Sense}
use Rattle.packing.specs.Senses.{sensed}
use Rattle.answers.specs.Answers.{answered, over_unless}
use Rattle.answers.specs.declared.Counted.{Counted}
use Rattle.answers.specs.declared.Counted.TheVariants.{Count, Refused}
use Rattle.tree.specs.Calls.{all_below, all_formed, lent_causes, Answered}
use Rattle.tree.specs.CallLaws.{tree_causes, one_more, two_formed, lent_trees, lent_met, tree_refused}
use Rattle.tree.specs.SensedProducts.{Transposed, as_it_is, written, ProductSensed, DamagedRefused}

-- ---- a call that is accepted
-- 0 for a refusal
abbrev done : Counted → ℕ
done (Count m) = m + 1
done (Refused c) = 0

accepted_words : (c m : ℕ) (xs before after : List ℕ) → Count m ≡ answered c (length xs) → after ≡ over_unless c xs before → (c ≡ 0) × (take m after ≡ xs)
unfolding answered over_unless
accepted_words zero m xs before after e l =
    let q : m ≡ length xs = omega (arith, ap done e) in
    (refl, rw (l, q) (take_at xs (drop (length xs) before) (length xs) refl))
accepted_words (suc c) m xs before after e l = absurd (omega (arith, ap done e))

no_cause : (n k : ℕ) (ps xs : List ℕ) (ts : List (List ℕ)) (room c : ℕ)
    → first_number (lent_causes n ps ts k) ≡ c → first_number (tree_causes n ps ts k xs room) ≡ 0 → c ≡ 0
no_cause n k ps xs ts room zero e z = refl
no_cause n k ps xs ts room (suc c) e z = absurd (omega (arith, tree_refused n ps ts k xs room e, z))

accepted : {n k m : ℕ} {ps xs before after : List ℕ} {ts : List (List ℕ)} → Answered n ps ts k xs before after (Count m)
    → (first_number (lent_causes n ps ts k) ≡ 0) × (take m after ≡ xs)
accepted {n} {k} {m} {ps} {xs} {before} {after} {ts} A =
    let w = accepted_words (first_number (tree_causes n ps ts k xs (length before))) m xs before after A.handed.answer A.handed.list in
    (no_cause n k ps xs ts (length before) (first_number (lent_causes n ps ts k)) refl w.0, w.1)

-- ---- an operand and its transpose
transposed_set : {n : ℕ} {t t' : List ℕ} {s : Sense} → Transposed n t t' s → set_in n t' ≡ sensed s (set_in n t)
transposed_set {n} (as_it_is e) = ap (set_in n) e
transposed_set {n} {t} (written A e) =
    ap (set_in n) (e ∙ (accepted A).1) ∙ tree_tells_set n (transpose (set_in n t)) (transpose_set n (set_in n t) (told_set n t))

transposed_formed : {n : ℕ} {t t' : List ℕ} {s : Sense} → Transposed n t t' s → formed n t ≡ formed n t'
transposed_formed {n} (as_it_is e) = ap (formed n) (sym e)
transposed_formed {n} {t} (written {k} A e) =
    let a = accepted A in
    tree_formed (two_formed n t [] (one_more n t ∙ (lent_met n [] (t ∷ []) k a.0).3)).0
    ∙ sym (tree_formed (record { set = transpose (set_in n t); is_set = transpose_set n (set_in n t) (told_set n t); tree = e ∙ a.1 }))

same_causes : (n k : ℕ) (t u t' u' : List ℕ) → formed n t ≡ formed n t'
    → formed n u ≡ formed n u' → lent_causes n [] (t ∷ u ∷ []) k ≡ lent_causes n [] (t' ∷ u' ∷ []) k
unfolding lent_causes all_formed
same_causes n k t u t' u' e f = rw (e, f) refl

-- ---- two calls with the same causes and the same answer
same_answer : {n k : ℕ} {ps xs ys before after after' : List ℕ} {ts us : List (List ℕ)} {r r' : Counted} → lent_causes n ps ts k ≡ lent_causes n ps us k
    → xs ≡ ys
    → Answered n ps ts k xs before after r → Answered n ps us k ys before after' r' → (r ≡ r') × (after ≡ after')
same_answer {n} {k} {ps} {xs} {ys} {before} {ts = ts} {us} e f A B =
    let c : first_number (tree_causes n ps ts k xs (length before)) ≡ first_number (tree_causes n ps us k ys (length before)) = rw (e, f) refl in (
      A.handed.answer ∙ ap₂ (λ (c : ℕ) (l : List ℕ). answered c (length l)) c f ∙ sym B.handed.answer,
      A.handed.list ∙ ap₂ (λ (c : ℕ) (l : List ℕ). over_unless c l before) c f ∙ sym B.handed.list,
    )

-- ---- product with senses, and on the operands so transposed
pub product_sensed : ProductSensed
product_sensed n k t u t' u' out after after' s q r r' x y A B =
    same_answer (same_causes n k t u t' u' (transposed_formed x) (transposed_formed y))
    (ap₂ (λ (a b : Cells). tree_words n (product n a b)) (sym (transposed_set x)) (sym (transposed_set y))) A B

pub damaged_refused : DamagedRefused
unfolding answered over_unless number all_below
damaged_refused n k xs before after ts r some few bad A =
    let c = tree_refused n [] ts k xs (length before) (lent_trees n [] ts k some few refl bad) in
    (A.handed.answer ∙ ap (λ (c : ℕ). answered c (length xs)) c, A.handed.list ∙ ap (λ (c : ℕ). over_unless c xs before) c)
