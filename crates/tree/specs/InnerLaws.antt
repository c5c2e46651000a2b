-- Laws of operands, and of what an operation makes of them. Assumes nothing.
use Rattle.std.specs.Prelude.{◌≡◌, List, ℕ, ◌≤◌, ◌<◌}
use Rattle.std.proofs.Common.{ap, ◌∙◌}
use Rattle.book.specs.Causes.{max_records}
use Rattle.k2.specs.PairSets.{Cells, IsSet, union, transpose, closure, diagonal}
use Rattle.k2.specs.PairSetLaws.{union_set, intersection_set, difference_set, product_set, closure_set, diagonal_set}
use Rattle.rows.specs.RowSets.{no_pairs, crossed_words}
use Rattle.rows.specs.RowLaws.{union_none, union_right, crossed_none, crossed_set}
use Rattle.packing.specs.declared.loading.Sense.{Sense}
use Rattle.packing.specs.Senses.{sensed}
use Rattle.packing.specs.SenseLaws.{sensed_set, sensed_opposite}
use Rattle.tree.specs.declared.operations.Operation.{Operation}
use Rattle.tree.specs.declared.operations.Operation.TheVariants.{Union, Intersection, Difference, Product, Closure, Optional, Star}
use Rattle.tree.specs.declared.operations.Operand.{Operand}
use Rattle.tree.specs.declared.operations.Term.{Term}
use Rattle.tree.specs.Inner.{nothing, tree_alone, flipped, valued, LinksBelow, outcome, Lent, term_set}

-- ---- operands
pub valued_flipped : (ws : List ℕ) (o : Operand) (a : Cells) → valued ws (flipped o) a ≡ transpose (valued ws o a)
valued_flipped ws o a = sensed_opposite o.sense (union a (crossed_words ws o.forward o.against))

pub valued_set : (n : ℕ) (ws : List ℕ) (o : Operand) (a : Cells) → n ≤ max_records → IsSet n a → LinksBelow n ws → IsSet n (valued ws o a)
valued_set n ws o a l A L =
    let c : Cells = crossed_words ws o.forward o.against in
    sensed_set o.sense n (union a c) (union_set n a c A (crossed_set n ws o.forward o.against l L))

-- with no links
pub valued_alone : (ws : List ℕ) (k : ℕ) (s : Sense) (a : Cells) → valued ws (tree_alone k s) a ≡ sensed s a
valued_alone ws k s a = ap (λ (c : Cells). sensed s (union a c)) (crossed_none ws) ∙ ap (sensed s) (union_right a)

pub valued_nothing : (ws : List ℕ) → valued ws nothing no_pairs ≡ no_pairs
valued_nothing ws = ap (union no_pairs) (crossed_none ws) ∙ union_none no_pairs

-- ---- operations
pub outcome_set : (k : Operation) (n : ℕ) (u : ℕ → ℕ) (a b : Cells) → ((x : ℕ) → u x < 2) → ((x : ℕ) → n ≤ x → u x ≡ 0) → IsSet n a → IsSet n b
    → IsSet n (outcome k n u a b)
outcome_set Union n u a b v z A B = union_set n a b A B
outcome_set Intersection n u a b v z A B = intersection_set n a b A B
outcome_set Difference n u a b v z A B = difference_set n a b A B
outcome_set Product n u a b v z A B = product_set n a b A B
outcome_set Closure n u a b v z A B = closure_set n n (union a b) (union_set n a b A B)
outcome_set Optional n u a b v z A B = union_set n (union a b) (diagonal u) (union_set n a b A B) (diagonal_set n u v z)
outcome_set Star n u a b v z A B =
    union_set n (closure n (union a b)) (diagonal u) (closure_set n n (union a b) (union_set n a b A B)) (diagonal_set n u v z)

pub term-set : (t : Term) (n : ℕ) (ws : List ℕ) (u : ℕ → ℕ) (work : List ℕ) (a b : Cells) → n ≤ max_records → ((x : ℕ) → u x < 2) → Lent t n ws u work a b
    → IsSet n (term_set t n ws u a b)
term-set t n ws u work a b l v L =
    outcome_set t.operation n u (valued ws t.first a) (valued ws t.second b) v L.used (valued_set n ws t.first a l L.first L.links)
    (valued_set n ws t.second b l L.second L.links)
