-- Laws of the room that the operands take.
--   totals_below, totals_most
--                  the numbers below the top one; their total
--   placed_put     an operand put on top
--   room_begins    with nothing waiting
--   room_next      one number more: its operands give way to its value
-- Assumes nothing.
use Rattle.std.specs.Prelude.{◌≡◌, List, ◌∷◌, ℕ, suc, ◌+◌, ◌-◌, ◌*◌, ◌<◌, ◌≤◌, length, set}
use Rattle.std.proofs.Common.{◌∙◌, subst, suc-mul, add-one, arith, length-set, get_or-set_same, get_or-set_other}
use Rattle.paths.specs.Expressions.{Expr}
use Rattle.reader.specs.Code.{item_of}
use Rattle.reader.specs.Running.{operands}
use Rattle.query.specs.Evaluation.{most_waiting, Coded}
use Rattle.query.proofs.EvaluationLaws.{height_begins, height_next}
use Rattle.pairs.specs.declared.Stack.{Stack}
use Rattle.tree.specs.declared.operations.Operand.{Operand}
use Rattle.tree.specs.Inner.{nothing}
use Rattle.pairs.specs.Evaluation.{operand_at, Totals, no_words, more_words, Placed, Room}

below_of : {d : ℕ} {os : List Operand} {k at : ℕ} → Totals d os k at → (j : ℕ) → k ≡ suc j
    → ((operand_at os j).size ≤ at) × ((operand_at os j).size ≤ d) × Totals d os j (at - (operand_at os j).size)
below_of no_words j e = absurd (omega arith)
below_of {d} {os} (more_words {k} {at} t h) j e =
    let z : k ≡ j = omega arith in
    subst (λ (i : ℕ). ((operand_at os i).size ≤ at + (operand_at os k).size) × ((operand_at os i).size ≤ d)
    × Totals d os i (at + (operand_at os k).size - (operand_at os i).size)) z
    (omega arith, h, subst (Totals d os k) (let q : at ≡ at + (operand_at os k).size - (operand_at os k).size = omega arith in q) t)

pub totals_below : {d k at : ℕ} {os : List Operand} → Totals d os k at → (j : ℕ) → k ≡ suc j
    → ((operand_at os j).size ≤ at) × ((operand_at os j).size ≤ d) × Totals d os j (at - (operand_at os j).size)
totals_below t j e = below_of t j e

most_of : {d : ℕ} {os : List Operand} {k at : ℕ} → Totals d os k at → at ≤ k * d
most_of no_words = omega arith
most_of {d} {os} (more_words {k} {at} t h) = omega (arith, most_of {d = d} {os = os} {k = k} {at = at} t, suc-mul k d)

pub totals_most : {d k at : ℕ} {os : List Operand} → Totals d os k at → at ≤ k * d
totals_most t = most_of t

totals_store : {d : ℕ} {os : List Operand} {k at : ℕ} (j : ℕ) (o : Operand) → k ≤ j → Totals d os k at → Totals d (set os j o) k at
totals_store j o h no_words = no_words
totals_store {d} {os} j o h (more_words {k} {at} t b) =
    let e : operand_at (set os j o) k ≡ operand_at os k = get_or-set_other os j k o nothing (λ z. omega arith) in
    subst (λ (x : Operand). Totals d (set os j o) (suc k) (at + x.size)) e (more_words (totals_store j o (omega arith) t) (rw e b))

-- ---- one operand on top of those below it
pub placed_put : {d : ℕ} {S : Stack} (start j : ℕ) (o : Operand) → Placed d S → Totals d S.operands j start → o.size ≤ d → j < most_waiting
    → Placed d (record { operands = set S.operands j o; count = j + 1; end = start + o.size })
placed_put {d} {S} start j o P t h l =
    let q : operand_at (set S.operands j o) j ≡ o = get_or-set_same S.operands j o nothing (omega (arith, P.slots)) in
    record {
      slots = length-set S.operands j o ∙ P.slots;
      totals =
          rw add-one (subst (λ (x : Operand). Totals d (set S.operands j o) (suc j) (start + x.size))
          q (more_words (totals_store j o (omega arith) t) (rw q h)));
    }

-- ---- the code
pub room_begins : (d : ℕ) {s c : List ℕ} {e : Expr} → Coded s e c → (os : List Operand) → length os ≡ most_waiting
    → Room d c (record { operands = os; count = 0; end = 0 })
room_begins d k os l = record { height = height_begins k; placed = record { slots = l; totals = no_words } }

pub room_next : {d i : ℕ} {c : List ℕ} {S S' : Stack} → Room d (i ∷ c) S → Placed d S' → S'.count ≡ suc (S.count - operands (item_of i)) → Room d c S'
room_next R P e = record { height = height_next R.height e; placed = P }
