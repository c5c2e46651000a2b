-- Demand 2 over what the calls promise. Pairs below n are made into a tree, and the tree is listed: with space enough neither call refuses, and the list is the
-- set, ascending and each pair once. A well-formed tree is listed, and the list made into a tree: neither refuses, and the tree is the same.
--   answer_words r l       the words of the list l that are the answer r's; a refusal has none
--   Enough n a work work' out list
--                         space enough for the set a: n is 1 to 1,024, both calls are lent 32 D words of work, out is as long as the set's tree and list as
--                         long as its pairs
--   ListedMade n t a list' out' u v
--                         the answers u of `list` and v of `make` and what they wrote: the pairs of the set a, and its tree t
--   MadeListed n ps list' out' u v
--                         the same of the set of the pairs ps, and its pairs are those of ps, ascending and each once
--   MakeList, ListMake    so it is for all that may be lent, from what the calls promise (RoundTripLaws `make_list`, `list_make`)
-- Assumes nothing: these are definitions.
use Rattle.std.specs.Prelude.{◌≡◌, List, [], ◌∷◌, ℕ, ◌*◌, ◌≤◌, length, take}
use Rattle.book.specs.Basics.{In, Rises}
use Rattle.book.specs.Causes.{max_records}
use Rattle.k2.specs.PairSets.{Cells, listed, set_of, PairsBelow}
use Rattle.k2.specs.Trees.{tree_words, tree_unit, WellFormed}
use Rattle.k2.specs.TreeSets.{set_in}
use Rattle.answers.specs.declared.Counted.{Counted}
use Rattle.answers.specs.declared.Counted.TheVariants.{Count, Refused}
use Rattle.tree.specs.Calls.{Answered, Listed}

unfoldable pub answer_words : Counted → List ℕ → List ℕ
answer_words (Count k) l = take k l
answer_words (Refused k) l = []

pub record Enough (n : ℕ) (a : Cells) (work work' : ℕ) (out list : List ℕ) : Type 0 where
  pub some : 1 ≤ n
  pub few : n ≤ max_records
  pub first : 32 * tree_unit n ≤ work
  pub second : 32 * tree_unit n ≤ work'
  pub words : length (tree_words n a) ≤ length out
  pub pairs : length (listed n a) ≤ length list

pub record ListedMade (n : ℕ) (t : List ℕ) (a : Cells) (list' out' : List ℕ) (u v : Counted) : Type 0 where
  pub told : u ≡ Count (length (listed n a))
  pub made : v ≡ Count (length t)
  pub pairs : answer_words u list' ≡ listed n a
  pub tree : answer_words v out' ≡ t

pub record MadeListed (n : ℕ) (ps list' out' : List ℕ) (u v : Counted) : Type 0 where
  pub answers : ListedMade n (tree_words n (set_of ps)) (set_of ps) list' out' u v
  pub rises : Rises 0 (answer_words u list')
  pub same : (w : ℕ) → (In w (answer_words u list') → In w ps) × (In w ps → In w (answer_words u list'))

abbrev pub MakeList : Type 0
MakeList = (n work work' : ℕ) (ps out out' list list' : List ℕ) (v u : Counted) → PairsBelow n ps → Enough n (set_of ps) work work' out list
    → Answered n ps [] work (tree_words n (set_of ps)) out out' v
    → Listed n (answer_words v out' ∷ []) work' (listed n (set_in n (answer_words v out'))) list list' u → MadeListed n ps list' out' u v

abbrev pub ListMake : Type 0
ListMake = (n work work' : ℕ) (t out out' list list' : List ℕ) (u v : Counted) (F : WellFormed n t) → Enough n F.set work work' out list
    → Listed n (t ∷ []) work (listed n (set_in n t)) list list' u
    → Answered n (answer_words u list') [] work' (tree_words n (set_of (answer_words u list'))) out out' v → ListedMade n t F.set list' out' u v
