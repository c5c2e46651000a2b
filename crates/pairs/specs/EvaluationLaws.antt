-- Laws of the evaluation.
--   Unary y k, Binary y k
--                      the item y is an operator on one operand, or on two, by the operation k
--   unary_one, binary_two
--                      such an item takes one, or two
--   does_inverse, does_one, does_two, does_letters
--                      what an item does to the stack
--   begins             with nothing waiting the whole code is left
--   Top, standing_top  the operand on top: where its tree lies, and what stands below it
--   standing_kept, standing_store
--                      what stands below a word stands if only words behind it change, and if only operands above are stored
--   standing_put       an operand put on top
--   waits_next         one number more of the code
-- Assumes nothing.
use Rattle.std.specs.Prelude.{◌≡◌, List, [], ◌∷◌, ℕ, zero, suc, ◌+◌, ◌-◌, ◌<◌, ◌≤◌, length, take, drop, set}
use Rattle.std.proofs.Math.Path.{refl, ap, ap₂}
use Rattle.std.proofs.Common.{sym, ◌∙◌, subst, add-one, arith, get_or-set_same, get_or-set_other, take-take}
use Rattle.k2.specs.PairSets.{Cells, IsSet, union, transpose, closure, diagonal}
use Rattle.k2.specs.Trees.{tree_words}
use Rattle.paths.specs.Expressions.{Expr}
use Rattle.paths.specs.Chains.{Graph}
use Rattle.paths.specs.Relations.{crossed_by, zero_steps}
use Rattle.rows.specs.RowSets.{no_pairs}
use Rattle.rows.specs.RowLaws.{union_none}
use Rattle.reader.specs.declared.items.Item.{Item}
use Rattle.reader.specs.declared.items.Item.TheVariants.{Letters, Inverse, Star, Plus, Optional, Alternative, Sequence}
use Rattle.reader.specs.Letters.{letters_in}
use Rattle.reader.specs.Code.{item_of, does, run}
use Rattle.reader.specs.Running.{operands, Runs, next}
use Rattle.reader.specs.CodeLaws.{runs_code}
use Rattle.query.specs.Evaluation.{relations, most_waiting, Coded}
use Rattle.query.proofs.EvaluationLaws.{coded_value}
use Rattle.tree.specs.declared.operations.Operation.{Operation}
use Rattle.tree.specs.declared.operations.Operation.TheVariants.{Union, Product, Closure, Optional as Possible, Star as Starred}
use Rattle.tree.specs.declared.operations.Operand.{Operand}
use Rattle.tree.specs.Inner.{nothing, valued, outcome}
use Rattle.pairs.specs.declared.Stack.{Stack}
use Rattle.pairs.specs.Evaluation.{operand_at, Standing, none_waits, one_waits, Waiting}

-- ---- what an item does
pub data Unary : Item → Operation → Type 0 where
  of_star : Unary Star Starred
  of_plus : Unary Plus Closure
  of_optional : Unary Optional Possible

pub data Binary : Item → Operation → Type 0 where
  of_alternative : Binary Alternative Union
  of_sequence : Binary Sequence Product

pub unary_one : {y : Item} {k : Operation} → Unary y k → operands y ≡ 1
unary_one of_star = refl
unary_one of_plus = refl
unary_one of_optional = refl

pub binary_two : {y : Item} {k : Operation} → Binary y k → operands y ≡ 2
binary_two of_alternative = refl
binary_two of_sequence = refl

pub does_letters : (g : Graph) (forward against : ℕ) (st : List Cells)
    → does (relations g) (Letters forward against) st ≡ crossed_by g (letters_in forward against) ∷ st
unfolding does relations
does_letters g forward against st = refl

pub does_inverse : (g : Graph) (x : Cells) (st : List Cells) → does (relations g) Inverse (x ∷ st) ≡ transpose x ∷ st
unfolding does relations
does_inverse g x st = refl

module _ (g : Graph) (u : ℕ → ℕ) (z : diagonal u ≡ zero_steps g) where
  pub does_one : {y : Item} {k : Operation} → Unary y k → (x : Cells) (st : List Cells) → does (relations g) y (x ∷ st) ≡ outcome k g.n u no_pairs x ∷ st
  unfolding does relations
  does_one of_star x st = ap₂ (λ (a d : Cells). union (closure g.n a) d ∷ st) (sym (union_none x)) (sym z)
  does_one of_plus x st = ap (λ (a : Cells). closure g.n a ∷ st) (sym (union_none x))
  does_one of_optional x st = ap₂ (λ (a d : Cells). union a d ∷ st) (sym (union_none x)) (sym z)

  pub does_two : {y : Item} {k : Operation} → Binary y k → (x x' : Cells) (st : List Cells) → does (relations g) y (x' ∷ x ∷ st) ≡ outcome k g.n u x x' ∷ st
  unfolding does relations
  does_two of_alternative x x' st = refl
  does_two of_sequence x x' st = refl

-- ---- the beginning
pub begins : (g : Graph) {s c : List ℕ} {e : Expr} → Coded s e c → (ws work : List ℕ) (os : List Operand)
    → Waiting g e c ws work (record { operands = os; count = 0; end = 0 }) []
begins g k ws work os = record {
  rest = coded_value g k;
  runs =
      subst (λ (x : List ℕ). Runs (relations g) most_waiting x []) (sym k.is)
      (runs_code (relations g) k.syntax most_waiting [] (omega (arith, k.shallow)));
  stand = none_waits;
}

-- ---- what is left to run
runs_rest : (g : Graph) {i : ℕ} {c : List ℕ} {st : List Cells} → Runs (relations g) most_waiting (i ∷ c) st
    → Runs (relations g) most_waiting c (does (relations g) (item_of i) st)
runs_rest g (next b h r) = r

-- ---- the operands
-- the operand on top: its tree begins where those below it end
pub record Top (n : ℕ) (ws work : List ℕ) (os : List Operand) (j at : ℕ) (st : List Cells) : Type 0 where
  pub a : Cells
  pub others : List Cells
  pub is : st ≡ valued ws (operand_at os j) a ∷ others
  pub set : IsSet n a
  pub within : (operand_at os j).size ≤ at
  pub tree : take (operand_at os j).size (drop (at - (operand_at os j).size) work) ≡ tree_words n a
  pub long : (operand_at os j).size ≡ length (tree_words n a)
  pub below : Standing n ws work os j (at - (operand_at os j).size) others

top_of : {n : ℕ} {ws work : List ℕ} {os : List Operand} {k at : ℕ} {st : List Cells}
    → Standing n ws work os k at st → (j : ℕ) → k ≡ suc j → Top n ws work os j at st
top_of none_waits j e = absurd (omega arith)
top_of {n} {ws} {work} {os} (one_waits {k} {at} {st} a s p t l) j e =
    let z : k ≡ j = omega arith in
    subst (λ (i : ℕ). Top n ws work os i (at + (operand_at os k).size) (valued ws (operand_at os k) a ∷ st)) z
    (let q : at + (operand_at os k).size - (operand_at os k).size ≡ at = omega arith in record {
      a = a;
      others = st;
      is = refl;
      set = p;
      within = omega arith;
      tree = rw q t;
      long = l;
      below = rw q s;
    })

pub standing_top : {n k at : ℕ} {ws work : List ℕ} {os : List Operand} {st : List Cells}
    → Standing n ws work os k at st → (j : ℕ) → k ≡ suc j → Top n ws work os j at st
standing_top s j e = top_of s j e

-- a tree lies before the word `at` whatever stands behind it
inside : (k b at : ℕ) (l : List ℕ) → b + k ≤ at → take k (drop b (take at l)) ≡ take k (drop b l)
inside k zero at l h = take-take k at l (omega arith)
inside k (suc b) zero l h = absurd (omega arith)
inside k (suc b) (suc at) [] h = refl
inside k (suc b) (suc at) (x ∷ l) h = inside k b at l (omega arith)

front_tree : (k b at : ℕ) (work work' : List ℕ) → b + k ≤ at → take at work' ≡ take at work → take k (drop b work') ≡ take k (drop b work)
front_tree k b at work work' h e = sym (inside k b at work' h) ∙ ap (λ (l : List ℕ). take k (drop b l)) e ∙ inside k b at work h

kept_of : {n : ℕ} {ws work work' : List ℕ} {os : List Operand} {k at : ℕ} {st : List Cells}
    → Standing n ws work os k at st → (top : ℕ) → at ≤ top → take top work' ≡ take top work
    → Standing n ws work' os k at st
kept_of none_waits top h e = none_waits
kept_of {n} {ws} {work} {work'} {os} (one_waits {k} {at} {st} a s p t l) top h e =
    one_waits a (kept_of s top (omega arith) e) p (front_tree (operand_at os k).size at top work work' h e ∙ t) l

pub standing_kept : {n k at : ℕ} {ws work work' : List ℕ} {os : List Operand} {st : List Cells}
    → Standing n ws work os k at st → (top : ℕ) → at ≤ top → take top work' ≡ take top work
    → Standing n ws work' os k at st
standing_kept s top h e = kept_of s top h e

store_of : {n : ℕ} {ws work : List ℕ} {os : List Operand} {k at : ℕ} {st : List Cells} (j : ℕ) (o : Operand)
    → k ≤ j → Standing n ws work os k at st → Standing n ws work (set os j o) k at st
store_of j o h none_waits = none_waits
store_of {n} {ws} {work} {os} j o h (one_waits {k} {at} {st} a s p t l) =
    let e : operand_at (set os j o) k ≡ operand_at os k = get_or-set_other os j k o nothing (λ z. omega arith) in
    subst (λ (x : Operand). Standing n ws work (set os j o) (suc k) (at + x.size) (valued ws x a ∷ st)) e
    (one_waits a (store_of j o (omega arith) s) p (rw e t) (rw e l))

pub standing_store : {n k at : ℕ} {ws work : List ℕ} {os : List Operand} {st : List Cells} (j : ℕ) (o : Operand)
    → k ≤ j → Standing n ws work os k at st → Standing n ws work (set os j o) k at st
standing_store j o h s = store_of j o h s

-- an operand put on top of st
pub standing_put : (n : ℕ) (ws work : List ℕ) (os : List Operand) (j at : ℕ) (o : Operand) (a : Cells) (st : List Cells)
    → Standing n ws work os j at st → j < length os
    → IsSet n a → take o.size (drop at work) ≡ tree_words n a → o.size ≡ length (tree_words n a)
    → Standing n ws work (set os j o) (j + 1) (at + o.size) (valued ws o a ∷ st)
standing_put n ws work os j at o a st s h p t l =
    let e : operand_at (set os j o) j ≡ o = get_or-set_same os j o nothing h in
    rw add-one (subst (λ (x : Operand). Standing n ws work (set os j o) (suc j) (at + x.size) (valued ws x a ∷ st)) e
    (one_waits a (standing_store j o (omega arith) s) p (rw e t) (rw e l)))

-- ---- one number more
pub waits_next : {g : Graph} {e : Expr} {i : ℕ} {c ws work work' : List ℕ} {S S' : Stack} {st : List Cells} (st' : List Cells)
    → Waiting g e (i ∷ c) ws work S st
    → does (relations g) (item_of i) st ≡ st' → Standing g.n ws work' S'.operands S'.count S'.end st' → Waiting g e c ws work' S' st'
unfolding run
waits_next {g} {c = c} st' w d l = record {
  rest = ap (run (relations g) c) (sym d) ∙ w.rest;
  runs = subst (λ (u : List Cells). Runs (relations g) most_waiting c u) d (runs_rest g w.runs);
  stand = l;
}
