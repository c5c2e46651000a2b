-- What an operation on operands in the lent work promises. The operands' trees lie at the front of a part of it, one after the other, and the outcome is left
-- in rows, or as a tree at the front.
--   nothing               the operand that has no pair
--   tree_alone k s         a tree of k words, read with the sense s, and no links
--   flipped o             the operand o with each pair exchanged
--   valued ws o a         the set that the operand o stands for, whose tree is that of the set a: a and beside it the links of its letters, which are among the
--                         words ws, read with its sense
--   LinksBelow n ws       both ends of each link of the words ws are below n
--   outcome k n u a b     what the operation k makes of the sets a and b of pairs below n, u being the records in use: for Closure, Optional and Star of the
--                         union of both. Zero steps join each record in use to itself
--   Apart k               the operations that look at both operands apart, besides Union
--   Roomy n t k           the operands of the term t have at most D words each, and k words of work have room for two trees
--   Room n t work used rows
--                         so it is, with 16 words for the records in use, and 16,384 for rows
--   Lent t n ws u work a b
--                         what a term's outcome is said of: its operands' trees are those of sets a and b of pairs below n, and so are the links and the
--                         records in use
--   term_set t n ws u a b  the set that is its outcome then
--   TreeAt n a ws r       the first r words are the tree of a, and no more than D
--   InRows t n ws used work before after r
--                         what `outcome_rows` promises: with room, r is true and the rows are those of the outcome; without, r is false and they are as they
--                         were
--   Operated t n ws used rows before after r
--                         what `operate` promises: with room, the first r words of the work are the outcome's tree; without, r is 0 and the work is as it was
--   Loading n operand at work rows
--                        the operand of n records stands in work from `at` on, and rows take it
-- Assumes nothing: these are definitions.
use Rattle.std.specs.Prelude.{◌≡◌, Bool, true, false, List, map, ℕ, ◌*◌, ◌≤◌, ◌+◌, length, take, drop}
use Rattle.book.specs.Causes.{max_records}
use Rattle.k2.specs.Sizes.{rows_words}
use Rattle.k2.specs.Bits.{bit_at}
use Rattle.k2.specs.PairSets.{Cells, IsSet, PairsBelow, union, intersection, difference, product, closure, diagonal}
use Rattle.k2.specs.Trees.{tree_words, tree_unit}
use Rattle.rows.specs.Rows.{flat}
use Rattle.rows.specs.RowSets.{crossed_words}
use Rattle.links.specs.Parts.{link_pair}
use Rattle.packing.specs.declared.loading.Sense.{Sense}
use Rattle.packing.specs.declared.loading.Sense.TheVariants.{Plain}
use Rattle.packing.specs.Senses.{sensed, opposite}
use Rattle.tree.specs.declared.operations.Operation.{Operation}
use Rattle.tree.specs.declared.operations.Operation.TheVariants.{Union, Intersection, Difference, Product, Closure, Optional, Star}
use Rattle.tree.specs.declared.operations.Operand.{Operand}
use Rattle.tree.specs.declared.operations.Term.{Term}

abbrev pub nothing : Operand
nothing = record { size = 0; sense = Plain; forward = 0; against = 0 }

abbrev pub tree_alone : ℕ → Sense → Operand
tree_alone k s = record { size = k; sense = s; forward = 0; against = 0 }

abbrev pub flipped : Operand → Operand
flipped o = record { size = o.size; sense = opposite o.sense; forward = o.forward; against = o.against }

abbrev pub valued : List ℕ → Operand → Cells → Cells
valued ws o a = sensed o.sense (union a (crossed_words ws o.forward o.against))

abbrev pub LinksBelow : ℕ → List ℕ → Type 0
LinksBelow n ws = PairsBelow n (map link_pair ws)

abbrev pub outcome : Operation → ℕ → (ℕ → ℕ) → Cells → Cells → Cells
outcome Union n u a b = union a b
outcome Intersection n u a b = intersection a b
outcome Difference n u a b = difference a b
outcome Product n u a b = product n a b
outcome Closure n u a b = closure n (union a b)
outcome Optional n u a b = union (union a b) (diagonal u)
outcome Star n u a b = union (closure n (union a b)) (diagonal u)

pub data Apart : Operation → Type 0 where
  intersects : Apart Intersection
  differs : Apart Difference
  multiplies : Apart Product

pub record Roomy (n : ℕ) (t : Term) (k : ℕ) : Type 0 where
  pub size : n ≤ max_records
  pub first : t.first.size ≤ tree_unit n
  pub second : t.second.size ≤ tree_unit n
  pub work : 2 * tree_unit n ≤ k

pub record Room (n : ℕ) (t : Term) (work used rows : ℕ) : Type 0 where
  pub trees : Roomy n t work
  pub records : used ≡ 16
  pub bits : rows ≡ rows_words

pub record Lent (t : Term) (n : ℕ) (ws : List ℕ) (u : ℕ → ℕ) (work : List ℕ) (a b : Cells) : Type 0 where
  pub first : IsSet n a
  pub second : IsSet n b
  pub front : take t.first.size work ≡ tree_words n a
  pub behind : take t.second.size (drop t.first.size work) ≡ tree_words n b
  pub links : LinksBelow n ws
  pub used : (x : ℕ) → n ≤ x → u x ≡ 0

abbrev pub term_set : Term → ℕ → List ℕ → (ℕ → ℕ) → Cells → Cells → Cells
term_set t n ws u a b = outcome t.operation n u (valued ws t.first a) (valued ws t.second b)

pub record TreeAt (n : ℕ) (a : Cells) (ws : List ℕ) (r : ℕ) : Type 0 where
  pub words : take r ws ≡ tree_words n a
  pub few : r ≤ tree_unit n

pub record InRows (t : Term) (n : ℕ) (ws used work before after : List ℕ) (r : Bool) : Type 0 where
  pub done : Room n t (length work) (length used) (length before) → r ≡ true
  pub rows : Room n t (length work) (length used) (length before)
      → (a b : Cells) → Lent t n ws (bit_at used) work a b → bit_at after ≡ flat (term_set t n ws (bit_at used) a b)
  pub left : (Room n t (length work) (length used) (length before) → ⊥) → (r ≡ false) × (after ≡ before)

pub record Operated (t : Term) (n : ℕ) (ws used : List ℕ) (rows : ℕ) (before after : List ℕ) (r : ℕ) : Type 0 where
  pub most : r ≤ length before
  pub tree : Room n t (length before) (length used) rows
      → (a b : Cells) → Lent t n ws (bit_at used) before a b → TreeAt n (term_set t n ws (bit_at used) a b) after r
  pub left : (Room n t (length before) (length used) rows → ⊥) → (after ≡ before) × (r ≡ 0)

-- ---- what functions ask for
pub record Loading (n : ℕ) (operand : Operand) (at : ℕ) (work rows : List ℕ) : Type 0 where
  pub few : n ≤ max_records
  pub small : operand.size ≤ tree_unit n
  pub inside : at + operand.size ≤ length work
  pub rows_long : length rows ≡ rows_words
