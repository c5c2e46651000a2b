-- How a pair question is evaluated: the operands still waiting, whose trees lie one after another at the front of the lent work.
--   letters_operand forward against
--                     the operand of a symbol: the links of its letters, and no tree
--   operand_at os k    the operand at place k of the list os, nothing past its end
--   pushed o k at S   the stack S with the operand o as its last of k and one, whose trees end at `at`
--   turned S          S with the operand on top read with the other sense
--   taken_none o S, taken_one k S, taken_two k S
--                     what is taken off the stack S: nothing, the operand o being the term; the operand on top, or the two on top, with the operation k
--   Standing n ws work os k at st
--                     the first k operands of os, whose trees lie one after another at the front of work and end at `at`, stand for the sets st of pairs below
--                     n, the last one first; ws are the words of the links
--   Waiting g e c ws work S st
--                     the code c is left to run on the operands of S, which stand for the sets st
--   Totals d os k at  the trees of the first k operands of os have at most d words each, and together `at`
--   Placed d S        so it is of the operands of S, whatever they are
--   Room d c S        and the code c is left to run on as many
--   Holding k S       at least k operands wait, and the tree of the one on top lies before their end
--   Space n work used rows
--                        what is lent for a question about n records: work for 32 trees, the records in use, and rows
-- Assumes nothing: these are definitions.
use Rattle.std.specs.Prelude.{◌≡◌, List, [], ◌∷◌, ℕ, suc, ◌+◌, ◌-◌, ◌≤◌, ◌*◌, length, take, drop, get_or, set}
use Rattle.k2.specs.PairSets.{Cells, IsSet}
use Rattle.k2.specs.Trees.{tree_words, tree_unit}
use Rattle.paths.specs.Expressions.{Expr}
use Rattle.paths.specs.Chains.{Graph}
use Rattle.paths.specs.Relations.{cells}
use Rattle.packing.specs.declared.loading.Sense.TheVariants.{Plain}
use Rattle.reader.specs.Code.{run}
use Rattle.reader.specs.Running.{Runs}
use Rattle.query.specs.Evaluation.{relations, most_waiting, Height}
use Rattle.tree.specs.declared.operations.Operation.{Operation}
use Rattle.tree.specs.declared.operations.Operation.TheVariants.{Union}
use Rattle.tree.specs.declared.operations.Operand.{Operand}
use Rattle.tree.specs.Inner.{nothing, flipped, valued}
use Rattle.pairs.specs.declared.Stack.{Stack}
use Rattle.pairs.specs.declared.Taken.{Taken}
use Rattle.book.specs.Causes.{max_records}
use Rattle.k2.specs.Sizes.{rows_words}

abbrev pub letters_operand : ℕ → ℕ → Operand
letters_operand forward against = record { size = 0; sense = Plain; forward = forward; against = against }

abbrev pub operand_at : List Operand → ℕ → Operand
operand_at os k = get_or os k nothing

abbrev pub pushed : Operand → ℕ → ℕ → Stack → Stack
pushed o k at S = record { operands = set S.operands k o; count = k + 1; end = at }

abbrev pub turned : Stack → Stack
turned S = record { operands = set S.operands (S.count - 1) (flipped (operand_at S.operands (S.count - 1))); count = S.count; end = S.end }

-- the operand on top, and the one below it
abbrev pub on_top : Stack → Operand
on_top S = operand_at S.operands (S.count - 1)

abbrev pub below_top : Stack → Operand
below_top S = operand_at S.operands (S.count - 1 - 1)

abbrev pub taken_none : Operand → Stack → Taken
taken_none o S = record { term = record { operation = Union; first = nothing; second = o }; start = S.end; below = S.count }

abbrev pub taken_one : Operation → Stack → Taken
taken_one k S = record { term = record { operation = k; first = nothing; second = on_top S }; start = S.end - (on_top S).size; below = S.count - 1 }

abbrev pub taken_two : Operation → Stack → Taken
taken_two k S =
    record {
      term = record { operation = k; first = below_top S; second = on_top S };
      start = S.end - (on_top S).size - (below_top S).size;
      below = S.count - 1 - 1;
    }

pub data Standing (n : ℕ) (ws work : List ℕ) (os : List Operand) : ℕ → ℕ → List Cells → Type 0 where
  none_waits : Standing n ws work os 0 0 []
  one_waits : {k at : ℕ} {st : List Cells} (a : Cells) → Standing n ws work os k at st → IsSet n a
      → take (operand_at os k).size (drop at work) ≡ tree_words n a → (operand_at os k).size ≡ length (tree_words n a)
      → Standing n ws work os (suc k) (at + (operand_at os k).size) (valued ws (operand_at os k) a ∷ st)

pub record Waiting (g : Graph) (e : Expr) (c ws work : List ℕ) (S : Stack) (st : List Cells) : Type 0 where
  pub rest : run (relations g) c st ≡ cells g e ∷ []
  pub runs : Runs (relations g) most_waiting c st
  pub stand : Standing g.n ws work S.operands S.count S.end st

-- ---- the same of any contents: where the operands lie, whatever they are
pub data Totals (d : ℕ) (os : List Operand) : ℕ → ℕ → Type 0 where
  no_words : Totals d os 0 0
  more_words : {k at : ℕ} → Totals d os k at → (operand_at os k).size ≤ d → Totals d os (suc k) (at + (operand_at os k).size)

pub record Placed (d : ℕ) (S : Stack) : Type 0 where
  pub slots : length S.operands ≡ most_waiting
  pub totals : Totals d S.operands S.count S.end

pub record Room (d : ℕ) (c : List ℕ) (S : Stack) : Type 0 where
  pub height : Height c S.count
  pub placed : Placed d S

-- ---- what functions ask for
pub record Holding (k : ℕ) (S : Stack) : Type 0 where
  pub some : k ≤ S.count
  pub few : S.count ≤ 19
  pub slots : length S.operands ≡ 19
  pub top : (on_top S).size ≤ S.end

pub record Space (n : ℕ) (work used rows : List ℕ) : Type 0 where
  pub few : n ≤ max_records
  pub room : 32 * tree_unit n ≤ length work
  pub used_long : length used ≡ 16
  pub rows_long : length rows ≡ rows_words
