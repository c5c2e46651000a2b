-- Generations: how long the longest run of links of some labels is that ends at each record, or the first loop of such links.
--   Run g ls k y         a run of k links whose labels are of ls, each crossed forward and beginning where the one before ends, ends at the record y
--   Longest g ls y m     the longest run that ends at y has m links
--   Over ls s            the step s crosses a link forward, and its label is one of ls
--   Loop g ls x ss       the steps ss are a chain from x back to x, of one or more steps, each over one of these links and forward
--   Returns g ls x       the record x can return to itself by such steps
--   FirstLoop g ls x ss  of the loops of x, ss is the first of the shortest
--   Numbered g ls y l    l has the length of the longest run to each record below y that is in use, ascending by record
--   Outcome              refused with a number; the numbers of the records in use; or the step words of a loop
--   GenerationsAre g ls o
--                        o is the answer: the numbers exactly if no record can return to itself, else the first loop of the smallest record that can
--   above ls             whether a label of ls is above 25
--   written o            the words of an outcome
--   argument_causes b ls work
--                        the causes of a refusal that do not hang on the answer, in their order: the work is that of a chain question
--   OutcomeIs b ls work room o
--                        o is the outcome with so many words of work and room for so many in the list: last, the answer may be longer than the list
-- Assumes nothing: these are definitions.
use Rattle.std.specs.Prelude.{◌≡◌, List, [], ◌∷◌, ◌++◌, Bool, true, false, ◌||◌, ℕ, suc, ◌≤◌, ◌<◌, length, leb, ltb, eqb}
use Rattle.book.specs.Basics.{has, All}
use Rattle.book.specs.Causes.{Cause, bad_label, short_work, short_list, number, first_number, labels}
use Rattle.book.specs.Book.{Book}
use Rattle.paths.specs.Chains.{Graph, asked, Step, Chain, step_words, NotAfter}
use Rattle.paths.specs.Questions.{chain_work}

pub data Run (g : Graph) (ls : List ℕ) : ℕ → ℕ → Type 0 where
  stop : {y : ℕ} → Run g ls 0 y
  on : {k x l y : ℕ} → has eqb l ls ≡ true → g.present (record { from = x; label = l; to = y }) ≡ true → Run g ls k x → Run g ls (suc k) y

pub record Longest (g : Graph) (ls : List ℕ) (y m : ℕ) : Type 0 where
  pub run : Run g ls m y
  pub most : (k : ℕ) → Run g ls k y → k ≤ m

pub record Over (ls : List ℕ) (s : Step) : Type 0 where
  pub forward : s.spelt.inverted ≡ false
  pub listed : has eqb s.spelt.label ls ≡ true

pub record Loop (g : Graph) (ls : List ℕ) (x : ℕ) (ss : List Step) : Type 0 where
  pub some : 0 < length ss
  pub steps : All (Over ls) ss
  pub chain : Chain g x ss x

abbrev pub Returns : Graph → List ℕ → ℕ → Type 0
Returns g ls x = (ss : List Step) × Loop g ls x ss

pub record FirstLoop (g : Graph) (ls : List ℕ) (x : ℕ) (ss : List Step) : Type 0 where
  pub loop : Loop g ls x ss
  pub least : (ts : List Step) → Loop g ls x ts → NotAfter (step_words ss) (step_words ts)

pub data Numbered (g : Graph) (ls : List ℕ) : ℕ → List ℕ → Type 0 where
  no_record : Numbered g ls 0 []
  not_in_use : {y : ℕ} {l : List ℕ} → g.in_use y ≡ false → Numbered g ls y l → Numbered g ls (suc y) l
  in_use : {y m : ℕ} {l : List ℕ} → g.in_use y ≡ true → Longest g ls y m → Numbered g ls y l → Numbered g ls (suc y) (l ++ (m ∷ []))

pub data Outcome : Type 0 where
  refused : ℕ → Outcome
  numbers : List ℕ → Outcome
  loop : List ℕ → Outcome

pub data GenerationsAre (g : Graph) (ls : List ℕ) : Outcome → Type 0 where
  no_loop : {l : List ℕ} → ((x : ℕ) → Returns g ls x → ⊥) → Numbered g ls g.n l → GenerationsAre g ls (numbers l)
  first_loop : {x : ℕ} {ss : List Step} → ((y : ℕ) → y < x → Returns g ls y → ⊥) → FirstLoop g ls x ss → GenerationsAre g ls (loop (step_words ss))

unfoldable pub above : List ℕ → Bool
above [] = false
above (l ∷ ls) = leb labels l || above ls

unfoldable pub written : Outcome → List ℕ
written (refused k) = []
written (numbers l) = l
written (loop ws) = ws

unfoldable pub argument_causes : Book → List ℕ → ℕ → List (Cause × Bool)
argument_causes b ls work = (bad_label, above ls) ∷ (short_work, ltb work (chain_work b.n)) ∷ []

pub data OutcomeIs (b : Book) (ls : List ℕ) (work room : ℕ) : Outcome → Type 0 where
  not_asked : {k : ℕ} → first_number (argument_causes b ls work) ≡ suc k → OutcomeIs b ls work room (refused (suc k))
  short : {o : Outcome} → first_number (argument_causes b ls work) ≡ 0 → GenerationsAre (asked b) ls o → room < length (written o)
      → OutcomeIs b ls work room (refused (number short_list))
  answered : {o : Outcome} → first_number (argument_causes b ls work) ≡ 0
      → GenerationsAre (asked b) ls o → length (written o) ≤ room → OutcomeIs b ls work room o
