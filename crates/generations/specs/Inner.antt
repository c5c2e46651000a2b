-- What the inner functions promise.
--   Contains m ls   the number m, as a set of labels, has the labels ls: bit l of it is set where l is one of them
--   Arc cs x y      one of the links cs, whose words these are, leads from x to y
--   Ran cs k y      a run of k of these links ends at y
--   Top cs y m      the longest such run has m links
--   Leads cs x y    one or more of these links lead from x to y
--   entered         the depth of a record that is being looked at. Depths are 0 of a record not looked at yet, and 2 more than the length of its longest
--                   run of one that is done
--   Kept ds ds'     a depth that is not 0 stays
--   Right cs ds     the depths of the records that are done are right
--   done_bit ds, new_bit ds
--                   1 at the records that are done, and at those not looked at yet
--   Bounded ds      no depth is above the number of records that are done, and 1
--   Visited cs y ds ds' r
--                   y was looked at: its depth is r; no record is left entered that was not so before, unless y is; and if y is, some record leads to itself,
--                   provided that y led to every record that was entered
--   chosen ms ds y  of the records below y whose mark among ms is not that of a withdrawn one, the depths less 2, ascending by record
--   Smallest P n r  r is the smallest number below n that has P, or n if none has
--   Joined ws x, Closed n a x
--                   the rows ws join x to itself; the closure of the set a does
--   separator_at p   the byte before a letter at the place p of the text
--   loop_text ls     the text (a|c)+ of the labels ls, here of 0 and 2
--   generations_order
--                   the causes of a refusal in the order in which they are looked for
--   unless k o      the number k of a cause if there is one, else the outcome o
--   loop_outcome room ws
--                   the loop of so many words, or 13 where there is less room
--   Looped self m x work list list' r
--                   what the inner function promises that asks for the first loop of x over links whose label is in the set m: over any contents the same; for
--                   every book and labels with a first loop, that loop, or 13 where the list is too short for it
--   Visiting links index y depths
--                        the links with their index by the record reached, a record, and the depths so far
--   Numbering marks depths n list
--                        the depth of each of n records is known, and the list takes the numbers of those in use
-- Assumes nothing: these are definitions.
use Rattle.std.specs.Prelude.{◌≡◌, List, [], ◌∷◌, ◌++◌, ℕ, zero, suc, ◌+◌, ◌-◌, ◌*◌, ◌<◌, ◌≤◌, length, get_or, leb, eqb, ltb}
use Rattle.book.specs.Basics.{pick, bit, has, over}
use Rattle.k2.specs.Bits.{digit, bit_at, ones_below}
use Rattle.k2.specs.PairSets.{Cells, closure}
use Rattle.paths.specs.Grammar.{bar, open_group, close_group, plus_sign, letter_a}
use Rattle.register.specs.Marks.{has_mark, withdrawn_mark}
use Rattle.arcs.specs.Arcs.{arc_from, arc_to}
use Rattle.book.specs.Causes.{Cause, bad_label, short_work, short_list, first_number, max_links, max_records}
use Rattle.book.specs.Book.{Book}
use Rattle.answers.specs.Answers.{counted, Contained}
use Rattle.paths.specs.Chains.{asked, Step, step_words}
use Rattle.paths.specs.Questions.{chain_work}
use Rattle.register.specs.declared.Register.{Register}
use Rattle.register.specs.Representation.{Represents}
use Rattle.generations.specs.Generations.{FirstLoop, Outcome, refused, written, loop}
use Rattle.generations.specs.declared.GenerationsAnswer.{GenerationsAnswer}
use Rattle.generations.specs.Generating.{outcome_of, generations_counted}
use Rattle.arcs.specs.Index.{index_words, Indexed}

abbrev pub Contains : ℕ → List ℕ → Type 0
Contains m ls = (l : ℕ) → digit m l ≡ bit (has eqb l ls)

-- ---- links as arcs
abbrev pub Arc : List ℕ → ℕ → ℕ → Type 0
Arc cs x y = (j : ℕ) × (j < length cs) × (arc_from cs j ≡ x) × (arc_to cs j ≡ y)

pub data Ran (cs : List ℕ) : ℕ → ℕ → Type 0 where
  stop : {y : ℕ} → Ran cs 0 y
  on : {k x y : ℕ} → Arc cs x y → Ran cs k x → Ran cs (suc k) y

pub record Top (cs : List ℕ) (y m : ℕ) : Type 0 where
  pub run : Ran cs m y
  pub most : (k : ℕ) → Ran cs k y → k ≤ m

pub data Leads (cs : List ℕ) : ℕ → ℕ → Type 0 where
  once : {x y : ℕ} → Arc cs x y → Leads cs x y
  more : {x z y : ℕ} → Arc cs x z → Leads cs z y → Leads cs x y

-- ---- depths
abbrev pub entered : ℕ
entered = 1

abbrev pub Kept : List ℕ → List ℕ → Type 0
Kept ds ds' = (x : ℕ) → 0 < get_or ds x 0 → get_or ds' x 0 ≡ get_or ds x 0

abbrev pub Right : List ℕ → List ℕ → Type 0
Right cs ds = (x m : ℕ) → get_or ds x 0 ≡ suc (suc m) → Top cs x m

unfoldable pub done_bit : List ℕ → ℕ → ℕ
done_bit ds x = bit (leb 2 (get_or ds x 0))

unfoldable pub new_bit : List ℕ → ℕ → ℕ
new_bit ds x = bit (eqb (get_or ds x 0) 0)

unfoldable pub new_count : List ℕ → ℕ
new_count ds = ones_below (new_bit ds) 1024

unfoldable pub done_count : List ℕ → ℕ
done_count ds = ones_below (done_bit ds) 1024

abbrev pub Bounded : List ℕ → Type 0
Bounded ds = (x : ℕ) → get_or ds x 0 ≤ suc (done_count ds)

pub record Visited (cs : List ℕ) (y : ℕ) (ds ds' : List ℕ) (r : ℕ) : Type 0 where
  pub depth : r ≡ get_or ds' y 0
  pub seen : 0 < r
  pub kept : Kept ds ds'
  pub bounded : Bounded ds'
  pub none_left : entered < r → (x : ℕ) → get_or ds' x 0 ≡ entered → get_or ds x 0 ≡ entered
  pub right : Right cs ds → Right cs ds'
  pub leads : r ≡ entered → ((x : ℕ) → get_or ds x 0 ≡ entered → Leads cs y x) → (z : ℕ) × Leads cs z z

-- ---- what is written
unfoldable pub chosen : List ℕ → List ℕ → ℕ → List ℕ
chosen ms ds zero = []
chosen ms ds (suc y) = chosen ms ds y ++ pick (has_mark withdrawn_mark ms y) [] ((get_or ds y 0 - 2) ∷ [])

-- ---- the smallest record
pub record Smallest (P : ℕ → Type 0) (n r : ℕ) : Type 0 where
  pub most : r ≤ n
  pub below : (x : ℕ) → x < r → P x → ⊥
  pub holds : r < n → P r

abbrev pub Joined : List ℕ → ℕ → Type 0
Joined ws x = bit_at ws (x * 1024 + x) ≡ 1

abbrev pub Closed : ℕ → Cells → ℕ → Type 0
Closed n a x = closure n a x x ≡ 1

-- ---- the text of a loop
abbrev pub separator_at : ℕ → ℕ
separator_at zero = open_group
separator_at (suc p) = bar

-- each letter after a byte: a given one before the first, | before every other
unfoldable pub letters_after : ℕ → List ℕ → List ℕ
letters_after c [] = []
letters_after c (l ∷ ls) = c ∷ (letter_a + l) ∷ letters_after bar ls

unfoldable pub loop_text : List ℕ → List ℕ
loop_text ls = letters_after open_group ls ++ (close_group ∷ plus_sign ∷ [])

-- the order: 3, 12, 13
unfoldable pub generations_order : List Cause
generations_order = bad_label ∷ short_work ∷ short_list ∷ []

-- the number of a cause if there is one, else the answer
abbrev pub unless : ℕ → Outcome → Outcome
unless zero o = o
unless (suc k) o = refused (suc k)

abbrev pub loop_outcome : ℕ → List ℕ → Outcome
loop_outcome room ws = unless (first_number ((short_list, ltb room (length ws)) ∷ [])) (loop ws)

pub record Looped (self : Register) (m x work : ℕ) (list list' : List ℕ) (r : GenerationsAnswer) : Type 0 where
  pub contained : Contained (length list) (counted (generations_counted r)) list list' (generations_counted r)
  pub first : (b : Book) → Represents self b → chain_work b.n ≤ work → (ls : List ℕ) → Contains m ls → (ss : List Step) → FirstLoop (asked b) ls x ss
      → (outcome_of r list' ≡ loop_outcome (length list) (step_words ss)) × (list' ≡ over (written (outcome_of r list')) list)

-- ---- what functions ask for
pub record Visiting (links index : List ℕ) (y : ℕ) (depths : List ℕ) : Type 0 where
  pub few : length links ≤ max_links
  pub index_long : length index ≡ index_words
  pub inside : y < max_records
  pub depths_long : length depths ≡ max_records
  pub indexed : Indexed (arc_to links) (length links) index
  pub bounded : Bounded depths

pub record Numbering (marks depths : List ℕ) (n : ℕ) (list : List ℕ) : Type 0 where
  pub few : n ≤ max_records
  pub marks_long : length marks ≡ max_records
  pub depths_long : length depths ≡ max_records
  pub known : (y : ℕ) → y < n → 1 < get_or depths y 0
  pub fits : length (chosen marks depths n) ≤ length list
