-- Steps, chains, what they spell, and which chain is the first.
--   Graph           what a question looks at: n, which records are in use, and which links are present
--   asked b         the graph of a book: the records 0 to n - 1 that are not withdrawn are in use, and the sheet's links are present
--   Step            the letter that the step spells, and the record reached
--   crossing a x y  the link that is crossed from x to y in spelling the letter a
--   step_word s      (label × 2 + sense) × 1,024 + record reached, sense 0 forward and 1 against
--   Chain g x ss y  the steps ss are a chain from x to y over links present
--   spell ss        the word that they spell
--   Answers g e x y ss
--                   they are a chain from x to y, records in use, that spells a word of e
--   Has g e x y     the pair (x, y) has a chain
--   Before v w      of two lists of numbers as long: the same, or v has the smaller number at the first difference
--   NotAfter v w    v is shorter, or as long and Before
--   First g e x y ss
--                   of the chains from x to y that spell a word of e, ss is the first of the shortest
--   Reply, ChainIs  the answer of a chain question: none if there is no chain of any length, else the step words of the first chain
-- Assumes nothing: these are definitions.
use Rattle.std.specs.Prelude.{◌≡◌, List, [], ◌∷◌, Bool, true, ℕ, ◌+◌, ◌*◌, ◌<◌, length}
use Rattle.book.specs.Basics.{pick, bit}
use Rattle.book.specs.Book.{Link, Book, present, used}
use Rattle.paths.specs.Expressions.{Letter, Expr}
use Rattle.paths.specs.Words.{Words}

pub record Graph : Type 0 where
  pub n : ℕ
  pub in_use : ℕ → Bool
  pub present : Link → Bool

unfoldable pub asked : Book → Graph
asked b = record { n = b.n; in_use = used b.n b.sheet; present = present b.sheet }

pub record Step : Type 0 where
  pub spelt : Letter
  pub reached : ℕ

abbrev pub crossing : Letter → ℕ → ℕ → Link
crossing a x y = pick a.inverted (record { from = y; label = a.label; to = x }) (record { from = x; label = a.label; to = y })

abbrev pub step_word : Step → ℕ
step_word s = (s.spelt.label * 2 + bit s.spelt.inverted) * 1024 + s.reached

pub data Chain (g : Graph) : ℕ → List Step → ℕ → Type 0 where
  stay : {x : ℕ} → Chain g x [] x
  cross : {x y : ℕ} {s : Step} {ss : List Step} → g.present (crossing s.spelt x s.reached) ≡ true → Chain g s.reached ss y → Chain g x (s ∷ ss) y

unfoldable pub spell : List Step → List Letter
spell [] = []
spell (s ∷ ss) = s.spelt ∷ spell ss

unfoldable pub step_words : List Step → List ℕ
step_words [] = []
step_words (s ∷ ss) = step_word s ∷ step_words ss

pub record Answers (g : Graph) (e : Expr) (x y : ℕ) (ss : List Step) : Type 0 where
  pub begins : g.in_use x ≡ true
  pub ends : g.in_use y ≡ true
  pub chain : Chain g x ss y
  pub spells : Words e (spell ss)

abbrev pub Has : Graph → Expr → ℕ → ℕ → Type 0
Has g e x y = (ss : List Step) × Answers g e x y ss

pub data Before : List ℕ → List ℕ → Type 0 where
  same : Before [] []
  smaller : {a b : ℕ} {v w : List ℕ} → a < b → Before (a ∷ v) (b ∷ w)
  alike : {a : ℕ} {v w : List ℕ} → Before v w → Before (a ∷ v) (a ∷ w)

pub data NotAfter (v w : List ℕ) : Type 0 where
  shorter : length v < length w → NotAfter v w
  as_long : length v ≡ length w → Before v w → NotAfter v w

pub record First (g : Graph) (e : Expr) (x y : ℕ) (ss : List Step) : Type 0 where
  pub answers : Answers g e x y ss
  pub least : (ts : List Step) → Answers g e x y ts → NotAfter (step_words ss) (step_words ts)

pub data Reply : Type 0 where
  none : Reply
  chain : List ℕ → Reply

pub data ChainIs (g : Graph) (e : Expr) (x y : ℕ) : Reply → Type 0 where
  no_chain : ((ss : List Step) → Answers g e x y ss → ⊥) → ChainIs g e x y none
  first_chain : (ss : List Step) → First g e x y ss → ChainIs g e x y (chain (step_words ss))
