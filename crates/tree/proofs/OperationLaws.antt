-- Laws of the operations: rows that hold nothing, an operand that has no tree or no links, and when there is room.
--   rows_none, from_none, set_shown
--                  rows that hold nothing, what `load` adds to them, and the pairs that rows of a set show
--   no_letters, no_tree, both_loaded
--                  an operand that has no links or no tree; the tree and then the links
--   joint k        0 for the operations that look at both operands apart
--   not_apart      another operation is not one of those
--   tree_at        a tree at the front of words
--   none_lent, none_tree_at
--                  terms with no record in use
--   two_lent, one_lent, two_set, one_set
--                  what a term of two trees, or of nothing and an operand, is lent, and the set that is its outcome
--   pack_room, room_or, told_room
--                  when there is room
-- Assumes nothing.
use mathlib.Core.Path.{◌≡◌, refl, sym, ap, ap₂, subst, ◌∙◌}
use mathlib.Core.Bool.{Bool, true}
use mathlib.Core.List.{List}
use Prim.Native.Nat.{ℕ, ◌+◌, ◌*◌, ◌≤◌, ◌<◌}
use native.Mathlib.Decide.{dec_lt, ℕ_discrete}
use native.Mathlib.Omega.{arith}
use lib.ListN.{length, take, drop, replicate}
use Rattle.book.specs.Causes.{max_records}
use Rattle.k2.specs.Bits.{bit_at}
use Rattle.k2.specs.PairSets.{Cells, IsSet, listed, union}
use Rattle.k2.specs.Trees.{tree_words, tree_unit, WellFormed}
use Rattle.k2.specs.TreeLaws.{tree_words_tell}
use Rattle.k2.specs.TreeSetLaws.{formed_set}
use Rattle.k2.specs.SizeLaws.{tree_unit_some}
use Rattle.bits.specs.BitSets.{none}
use Rattle.bits.specs.BitSetLaws.{bits_none}
use Rattle.rows.specs.Rows.{flat}
use Rattle.rows.specs.RowSets.{no_pairs, crossed_words, pairs_in}
use Rattle.rows.specs.RowLaws.{flat_none, none_set, none_tree, union_none, union_right, union_join, crossed_none, pairs-in}
use Rattle.packing.specs.declared.loading.Sense.{Sense}
use Rattle.packing.specs.Senses.{sensed}
use Rattle.packing.specs.SenseLaws.{sensed_union, sensed_none}
use Rattle.answers.specs.declared.Counted.{Counted}
use Rattle.tree.specs.declared.operations.Operand.{Operand}
use Rattle.tree.specs.declared.operations.Term.{Term}
use Rattle.tree.specs.declared.operations.Operation.{Operation}
use Rattle.tree.specs.declared.operations.Operation.TheVariants.{Union, Intersection, Difference, Product, Closure, Optional, Star}
use Rattle.tree.specs.Inner.{nothing, tree_alone, valued, LinksBelow, outcome, Apart, intersects, differs, multiplies, Roomy, Room, Lent, term_set, TreeAt}
use Rattle.tree.specs.Inner.{InRows}
use Rattle.tree.specs.InnerLaws.{valued_alone, valued_nothing}
use Rattle.tree.specs.Calls.{tree_of_two}
use Rattle.answers.specs.Answers.{FirstPart}
use Rattle.tree.proofs.CopyLaws.{both_absurd}

-- ---- rows
pub rows_none : bit_at (replicate 16384 0) ≡ flat no_pairs
rows_none = bits_none 16384 ∙ sym flat_none

-- what `load` adds to none
pub from_none : (a : Cells) (f : ℕ → ℕ) → f ≡ flat (union no_pairs a) → f ≡ flat a
from_none a f e = e ∙ ap flat (union_none a)

-- rows of a set show its pairs
pub set_shown : (n : ℕ) (a : Cells) (rows before after : List ℕ) {r : Counted} → n ≤ 1024 → IsSet n a → bit_at rows ≡ flat a
    → FirstPart (pairs_in n rows) before after r → FirstPart (listed n a) before after r
set_shown n a rows before after {r} nl A e s = subst (λ (xs : List ℕ). FirstPart xs before after r) (pairs-in n a nl A rows e) s

-- ---- operands
union_nothing : (x a : Cells) → a ≡ no_pairs → x ≡ union x a
union_nothing x a e = sym (ap (union x) e ∙ union_right x)

-- no letters
pub no_letters : (s : Sense) (ws : List ℕ) (f a : ℕ) (x : Cells) → f ≡ 0 → a ≡ 0 → x ≡ union x (sensed s (crossed_words ws f a))
no_letters s ws f a x e d = union_nothing x (sensed s (crossed_words ws f a)) (rw (e, d) (ap (sensed s) (crossed_none ws) ∙ sensed_none s))

-- a tree of no words is that of no pairs
pub no_tree : (s : Sense) (n k at : ℕ) (work : List ℕ) (a x : Cells) → IsSet n a → k ≡ 0 → take k (drop at work) ≡ tree_words n a → x ≡ union x (sensed s a)
no_tree s n k at work a x A e q =
    let z : a ≡ no_pairs = tree_words_tell n a no_pairs A (none_set n) (sym q ∙ ap (λ (j : ℕ). take j (drop at work)) e ∙ none_tree n) in
    union_nothing x (sensed s a) (ap (sensed s) z ∙ sensed_none s)

-- the tree and then the links
pub both_loaded : (ws : List ℕ) (o : Operand) (a x : Cells)
    → union (union x (sensed o.sense a)) (sensed o.sense (crossed_words ws o.forward o.against)) ≡ union x (valued ws o a)
both_loaded ws o a x =
    let c : Cells = crossed_words ws o.forward o.against in
    union_join x (sensed o.sense a) (sensed o.sense c) ∙ ap (union x) (sym (sensed_union o.sense a c))

-- ---- operations
-- 0 for those that look at both operands apart
abbrev pub joint : Operation → ℕ
joint Union = 1
joint Intersection = 0
joint Difference = 0
joint Product = 0
joint Closure = 1
joint Optional = 1
joint Star = 1

apart_joint : {k : Operation} → Apart k → joint k ≡ 0
apart_joint intersects = refl
apart_joint differs = refl
apart_joint multiplies = refl

pub not_apart : {A : Type 0} {k : Operation} (j : Operation) → joint j ≡ 1 → k ≡ j → Apart k → A
not_apart j e q a = absurd (omega (arith, e, ap joint q, apart_joint a))

-- ---- trees
pub tree_at : (n r : ℕ) (a : Cells) (ws : List ℕ) → (take r ws ≡ tree_words n a) × (r ≤ tree_unit n) → TreeAt n a ws r
tree_at n r a ws p = record { words = p.0; few = p.1 }

-- ---- terms with no record in use
none_used : (n x : ℕ) → n ≤ x → none x ≡ 0
unfolding none
none_used n x l = refl

module _ (t : Term) (n : ℕ) (ws work : List ℕ) where
  -- a local array of records in use
  pub none_lent : (a b : Cells) → Lent t n ws none work a b → Lent t n ws (bit_at (replicate 16 0)) work a b
  none_lent a b l = subst (λ (u : ℕ → ℕ). Lent t n ws u work a b) (sym (bits_none 16)) l

  pub none_tree_at : (a b : Cells) (after : List ℕ) (r : ℕ) → TreeAt n (term_set t n ws (bit_at (replicate 16 0)) a b) after r
      → TreeAt n (term_set t n ws none a b) after r
  none_tree_at a b after r at = subst (λ (u : ℕ → ℕ). TreeAt n (term_set t n ws u a b) after r) (bits_none 16) at

  -- two trees
  pub two_lent : (xs ys : List ℕ) → t.first.size ≡ length xs → t.second.size ≡ length ys
      → (take (length xs) work ≡ xs) × (take (length ys) (drop (length xs) work) ≡ ys) → (v : WellFormed n xs) (w : WellFormed n ys) → LinksBelow n ws
      → Lent t n ws none work v.set w.set
  two_lent xs ys e f p v w l = record {
    first = v.is_set;
    second = w.is_set;
    front = rw e (p.0 ∙ v.tree);
    behind = rw (e, f) (p.1 ∙ w.tree);
    links = l;
    used = none_used n;
  }

  -- nothing and an operand
  pub one_lent : (a : Cells) → t.first ≡ nothing → IsSet n a → take t.second.size work ≡ tree_words n a → LinksBelow n ws → Lent t n ws none work no_pairs a
  one_lent a e A q l = record {
    first = none_set n;
    second = A;
    front = ap (λ (o : Operand). take o.size work) e ∙ none_tree n;
    behind = ap (λ (o : Operand). take t.second.size (drop o.size work)) e ∙ q;
    links = l;
    used = none_used n;
  }

  pub two_set : (j k : ℕ) (p q : Sense) (xs ys : List ℕ) → t.first ≡ tree_alone j p → t.second ≡ tree_alone k q → (v : WellFormed n xs) (w : WellFormed n ys)
      → tree_words n (term_set t n ws none v.set w.set) ≡ tree_of_two (λ x y. outcome t.operation n none (sensed p x) (sensed q y)) n xs ys
  two_set j k p q xs ys e f v w =
      ap₂ (λ (x y : Cells). tree_words n (outcome t.operation n none x y))
      (ap (λ (o : Operand). valued ws o v.set) e ∙ valued_alone ws j p v.set ∙ ap (sensed p) (sym (formed_set v)))
      (ap (λ (o : Operand). valued ws o w.set) f ∙ valued_alone ws k q w.set ∙ ap (sensed q) (sym (formed_set w)))

  pub one_set : (a x : Cells) → t.first ≡ nothing → valued ws t.second a ≡ x
      → tree_words n (term_set t n ws none no_pairs a) ≡ tree_words n (outcome t.operation n none no_pairs x)
  one_set a x e f =
      ap₂ (λ (y z : Cells). tree_words n (outcome t.operation n none y z)) (ap (λ (o : Operand). valued ws o no_pairs) e ∙ valued_nothing ws) f

-- ---- room
pub pack_room : (n : ℕ) (t : Term) (k : ℕ) → Roomy n t k → tree_unit n + 1 ≤ k
pack_room n t k r = omega (arith, r.work, tree_unit_some n)

pub room_or : (n : ℕ) (t : Term) (k u r : ℕ) → Dec (Room n t k u r)
room_or n t k u r =
    by (dec_lt max_records n) (dec_lt (tree_unit n) t.first.size) (dec_lt (tree_unit n) t.second.size)
    (dec_lt k (2 * tree_unit n)) (ℕ_discrete u 16) (ℕ_discrete r 16384)
  where
    by : Dec (max_records < n) → Dec (tree_unit n < t.first.size)
        → Dec (tree_unit n < t.second.size) → Dec (k < 2 * tree_unit n) → Dec (u ≡ 16) → Dec (r ≡ 16384)
        → Dec (Room n t k u r)
    by (yes l) b c d e f = no (λ o. omega (arith, o.trees.size))
    by (no l) (yes b) c d e f = no (λ o. omega (arith, o.trees.first))
    by (no l) (no b) (yes c) d e f = no (λ o. omega (arith, o.trees.second))
    by (no l) (no b) (no c) (yes d) e f = no (λ o. omega (arith, o.trees.work))
    by (no l) (no b) (no c) (no d) (no e) f = no (λ o. e o.records)
    by (no l) (no b) (no c) (no d) (yes e) (no f) = no (λ o. f o.bits)
    by (no l) (no b) (no c) (no d) (yes e) (yes f) = yes (record {
      trees = record { size = omega arith; first = omega arith; second = omega arith; work = omega arith };
      records = e;
      bits = f;
    })

-- where it was not missing
pub told_room : {t : Term} {n : ℕ} {ws used work before after : List ℕ} {r : Bool} → InRows t n ws used work before after r → r ≡ true
    → Room n t (length work) (length used) (length before)
told_room {t} {n} {ws} {used} {work} {before} i e = by (room_or n t (length work) (length used) (length before))
  where
    by : Dec (Room n t (length work) (length used) (length before)) → Room n t (length work) (length used) (length before)
    by (yes o) = o
    by (no f) = absurd (both_absurd (i.left f).0 e)
