-- How a pair question is evaluated by rows: the relations still waiting, which lie one after another at the front of the lent work, and so do their masks.
--   Lent n k cells masks  what k relations of n records and the work on them are lent: 32 relations' words, and the masks of k and one more
--   LentFor n c cells masks
--                         what the code c is lent: so much for as many relations as wait at once, which are no more than 19, and no more than it has numbers
--   outcome_of g y a b     the value of the item y on its operands in the graph g: a, or a and b, or none
--   Operates n w links marks y ws ws' ms ms'
--                         an operation on the relations at the front of ws and ms: for every book whose links and marks these are, it has left the value of
--                         the item y as the first
--   relation_at n ws ms k  the relation at place k of the work ws, its masks being in ms
--   lying n ws ms k       the relations at the first k places, the last one first
--   Goes n links marks y ws ws' ms ms' k k'
--                         one number of the code, which is the item y: k relations wait before it and k' after it; for every book whose links and marks these
--                         are, it has done to them what the item does
--   Reading c i q         what is read of the code c at place i: an item, and how many numbers it was read from; `^` right after letters is read with them, and
--                         exchanges their two sets
--   Going n links marks c ws ms k i
--                         the first i numbers of the code c have been run, and k relations wait
--   ValueFirst n links marks c ws ms
--                         the code c has been run: for every book whose links and marks these are, the first relation is its value
--   ValueListed n links marks c before after t
--                         some t pairs have been written to a list that held `before`, as many as it takes; for every book whose links and marks these are they
--                         are those of the value of the code c; over any contents there are no more of them than there are of records
--   Runnable n marks c    the code c is an expression's, and there is a mark of each of n records
--   Enough n work         so much work is enough for the value of a code: for the relations of more than 32 records, and for one relation of any
--   KnownOf r n links marks
--                         what was read of the register r: for every book that it represents, its links and marks
--   relation_in ws ms n    the relation of n records at the front of the words ws, with the masks ms
--   Column f y n r        r is the first place below n, from y on, at which f is 1; n if there is none
--   Held n words          so many words hold a relation of n records, and there may be so many records
--   RelatingIf known v work ws q, Relating r v work ws q
--                         the relation of a text of the verdict v, asked of what is known of a book, or of the register r, with so many words of work, left at
--                         the front of the words ws
--   RelatingOver n links marks v work ws q
--                         the same asked of the links and marks of n records
--   Members l f           the bits of f are the members of the list l
--   JoinsSome f l t       t says whether f is 1 at some member of the list l
--   Joining n cells masks x row
--                        a relation of n records with a mask for each, one of them, and a row of bits
--   Answering n links marks need
--                        what was read of a register of n records, and the work that a question needs by either engine
-- Assumes nothing: these are definitions.
use Rattle.std.specs.Prelude.{◌≡◌, Bool, true, false, List, [], ◌∷◌, ◌++◌, ℕ, zero, suc, ◌+◌, ◌-◌, ◌*◌, ◌<◌, ◌≤◌, length, take, drop, get_or}
use Rattle.answers.specs.declared.Counted.TheVariants.{Count}
use Rattle.book.specs.Basics.{In}
use Rattle.book.specs.Book.{Book}
use Rattle.book.specs.Causes.{max_records, max_links}
use Rattle.k2.specs.PairSets.{Cells, union, transpose, product, closure}
use Rattle.paths.specs.Expressions.{Expr}
use Rattle.paths.specs.Grammar.{Verdict}
use Rattle.paths.specs.Chains.{Graph, asked}
use Rattle.paths.specs.Relations.{crossed_by, zero_steps, cells, pairs}
use Rattle.paths.specs.Questions.{row_width, rows_work}
use Rattle.reader.specs.declared.items.Item.{Item}
use Rattle.reader.specs.declared.items.Item.TheVariants.{Letters, Inverse, Star, Plus, Optional, Alternative, Sequence}
use Rattle.reader.specs.Letters.{letters_in}
use Rattle.reader.specs.Code.{item_of, does, run}
use Rattle.reader.specs.Running.{operands}
use Rattle.bits.specs.BitSets.{Gap}
use Rattle.grid.specs.Grid.{first, second}
use Rattle.paths.specs.Questions.{Engine, work_for}
use Rattle.query.specs.Asking.{max_pairs}
use Rattle.query.specs.Leaving.{Leaves}
use Rattle.query.specs.Evaluation.{relations, most_waiting, Coded, Height, used_below, Lettered}
use Rattle.register.specs.Representation.{Represents}
use Rattle.register.specs.declared.Register.{Register}
use Rattle.rowpairs.specs.declared.running.Next.{Next}
use Rattle.rowpairs.specs.declared.Related.{Related}

pub record Lent (n k cells masks : ℕ) : Type 0 where
  pub small : n ≤ max_records
  pub words : rows_work n ≤ cells
  pub marks : k * n + n < masks

abbrev pub LentFor : (n : ℕ) → List ℕ → (cells masks : ℕ) → Type 0
LentFor n c cells masks = (k : ℕ) → k ≤ most_waiting → k ≤ length c → Lent n k cells masks

unfoldable pub outcome_of : Graph → Item → Cells → Cells → Cells
outcome_of g (Letters forward against) a b = crossed_by g (letters_in forward against)
outcome_of g Inverse a b = transpose a
outcome_of g Star a b = union (closure g.n a) (zero_steps g)
outcome_of g Plus a b = closure g.n a
outcome_of g Optional a b = union a (zero_steps g)
outcome_of g Alternative a b = union a b
outcome_of g Sequence a b = product g.n a b

-- what is known of the book: its links and its records in use
abbrev pub Known : Book → (n : ℕ) → (links marks : List ℕ) → Type 0
Known b n links marks = Lettered b n links (used_below n marks)

abbrev pub Operates : (n w : ℕ) → (links marks : List ℕ) → Item → (ws ws' ms ms' : List ℕ) → Type 0
Operates n w links marks y ws ws' ms ms' = (b : Book) → Known b n links marks → first n w ws' ms' ≡ outcome_of (asked b) y (first n w ws ms) (second n w ws ms)

unfoldable pub relation_at : (n : ℕ) → List ℕ → List ℕ → ℕ → Cells
relation_at n ws ms k = first n (row_width n) (drop (k * (n * row_width n)) ws) (drop (k * n) ms)

unfoldable pub lying : (n : ℕ) → List ℕ → List ℕ → ℕ → List Cells
lying n ws ms zero = []
lying n ws ms (suc k) = relation_at n ws ms k ∷ lying n ws ms k

pub record Goes (n : ℕ) (links marks : List ℕ) (y : Item) (ws ws' ms ms' : List ℕ) (k k' : ℕ) : Type 0 where
  pub count : k' ≡ suc (k - operands y)
  pub value : (b : Book) → Known b n links marks → does (relations (asked b)) y (lying n ws ms k) ≡ lying n ws' ms' k'

pub data Reading (c : List ℕ) (i : ℕ) : Next → Type 0 where
  one_number : {y : Item} → item_of (get_or c i 0) ≡ y → Reading c i (record { item = y; used = 1 })
  turned_letters : {forward against : ℕ} → item_of (get_or c i 0) ≡ Letters forward against → i + 1 < length c → item_of (get_or c (i + 1) 0) ≡ Inverse
      → Reading c i (record { item = Letters against forward; used = 2 })

pub record Going (n : ℕ) (links marks c ws ms : List ℕ) (k i : ℕ) : Type 0 where
  pub height : Height (drop i c) k
  pub few : k ≤ i
  pub rest : (b : Book) → Known b n links marks → (s : List ℕ) (e : Expr) → Coded s e c
      → run (relations (asked b)) (drop i c) (lying n ws ms k) ≡ cells (asked b) e ∷ []

pub record ValueFirst (n : ℕ) (links marks c ws ms : List ℕ) : Type 0 where
  pub value : (b : Book) → Known b n links marks → (s : List ℕ) (e : Expr) → Coded s e c → first n (row_width n) ws ms ≡ cells (asked b) e

pub record ValueListed (n : ℕ) (links marks c before after : List ℕ) (t : ℕ) : Type 0 where
  pub all : List ℕ
  pub total : t ≡ length all
  pub few : length all ≤ max_pairs
  pub written : after ≡ take (length before) all ++ drop (length all) before
  pub value : (b : Book) → Known b n links marks → (s : List ℕ) (e : Expr) → Coded s e c → all ≡ pairs (asked b) e

pub record Runnable (n : ℕ) (marks c : List ℕ) : Type 0 where
  pub small : n ≤ max_records
  pub marked : n ≤ length marks
  pub coded : (s : List ℕ) × (e : Expr) × Coded s e c

pub record Enough (n work : ℕ) : Type 0 where
  pub own : work < rows_work n → n ≤ 32
  pub front : n * row_width n ≤ work

abbrev pub KnownOf : Register → (n : ℕ) → (links marks : List ℕ) → Type 0
KnownOf r n links marks = (b : Book) → Represents r b → Known b n links marks

abbrev pub relation_in : (ws ms : List ℕ) → ℕ → Cells
relation_in ws ms n = first n (row_width n) ws ms

pub record Column (f : ℕ → ℕ) (y n r : ℕ) : Type 0 where
  pub high : r ≤ n
  pub low : r < n → y ≤ r
  pub gap : Gap f y r
  pub hit : r < n → f r ≡ 1

pub record Held (n words : ℕ) : Type 0 where
  pub small : n ≤ max_records
  pub front : n * row_width n ≤ words

pub record RelatingIf (known : Book → Type 0) (v : Verdict) (work : ℕ) (ws : List ℕ) (q : Related) : Type 0 where
  pub leaves : Leaves known v work (relation_in ws q.masks) q.answer
  pub held : (n : ℕ) → q.answer ≡ Count n → Held n (length ws)
  pub masks : length q.masks ≡ max_records

abbrev pub Relating : Register → Verdict → (work : ℕ) → List ℕ → Related → Type 0
Relating r v work ws q = RelatingIf (Represents r) v work ws q

pub record RelatingOver (n : ℕ) (links marks : List ℕ) (v : Verdict) (work : ℕ) (ws : List ℕ) (q : Related) : Type 0 where
  pub relating : RelatingIf (λ b. Known b n links marks) v work ws q
  pub size : (k : ℕ) → q.answer ≡ Count k → k ≡ n

pub record Members (l : List ℕ) (f : ℕ → ℕ) : Type 0 where
  pub bit : (y : ℕ) → f y < 2
  pub sound : (y : ℕ) → f y ≡ 1 → In y l
  pub whole : (y : ℕ) → In y l → f y ≡ 1

pub record JoinsSome (f : ℕ → ℕ) (l : List ℕ) (t : Bool) : Type 0 where
  pub found : t ≡ true → (y : ℕ) × In y l × (f y ≡ 1)
  pub none : t ≡ false → (y : ℕ) → In y l → f y ≡ 1 → ⊥

pub record Joining (n : ℕ) (cells masks : List ℕ) (x : ℕ) (row : List ℕ) : Type 0 where
  pub held : Held n (length cells)
  pub masked : n ≤ length masks
  pub inside : x < n
  pub row_long : 16 ≤ length row

pub record Answering (n : ℕ) (links marks : List ℕ) (need : ℕ) : Type 0 where
  pub few : n ≤ max_records
  pub marked : n ≤ length marks
  pub few_links : length links ≤ max_links
  pub needed : (d : Engine) × (need ≡ work_for d n)
