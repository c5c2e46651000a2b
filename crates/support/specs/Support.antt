-- Sole support: which records would lose every chain to the anchors if one core did.
--   without core g       the graph g with every link that touches the core gone; the core itself stays in use
--   Held g e anchors x   the record x has a chain to some anchor that spells a word of e
--   Falls g e core anchors x
--                        x is not the core, has a chain to some anchor, and has none to any once the links that touch the core are gone
--   FallenAre g e core anchors l
--                        the list l is the answer: its numbers ascend, and they are the records that fall
--   some t l             whether some member of the list l passes the test t
--   chosen t n           the numbers below n that pass the test t, ascending
--   reaches c anchors x  whether the set of pairs c joins x to some anchor, computed
--   falls, fallen        whether a record falls, computed; that list, computed
--   orderly m l          whether the numbers of l ascend, each once, the first at least m, computed
--   fallen_of b v core anchors
--                        the answer asked of the book b, if the text is an expression
--   support_causes, support_outcome b core v anchors work room
--                        the causes against the question, in their order, and its outcome with a text of the verdict v, so many words of work and room for so
--                        many in the list: the records that fall, all of them. The work is that of a pair question and of a chain question, 32 × D + 64 × n
--   Supports r core text anchors work before after a
--                        asked of the register r, with so many words of work and a list that held `before`
-- Assumes nothing: these are definitions.
use Rattle.std.specs.Prelude.{◌≡◌, List, [], ◌∷◌, ◌++◌, Bool, true, false, not, ◌||◌, ◌&&◌, ℕ, zero, suc, ◌+◌, length, leb, ltb, eqb}
use Rattle.book.specs.Basics.{pick, In, Rises}
use Rattle.book.specs.Causes.{Cause, no_record, unordered_anchors, short_work, short_list, first_number}
use Rattle.book.specs.Book.{Book}
use Rattle.k2.specs.PairSets.{Cells}
use Rattle.paths.specs.Expressions.{Expr}
use Rattle.paths.specs.Grammar.{Verdict, accepted, long, outside, large, verdict_cause}
use Rattle.paths.specs.Verdicts.{verdict}
use Rattle.paths.specs.Chains.{Graph, asked, Has}
use Rattle.paths.specs.Relations.{cells}
use Rattle.answers.specs.declared.Counted.{Counted}
use Rattle.paths.specs.Questions.{Outcome, paired, unless, pairs_work, chain_work}
use Rattle.register.specs.Parting.{touches}
use Rattle.register.specs.declared.Register.{Register}
use Rattle.query.specs.Asking.{Asks}

-- ---- what falls
unfoldable pub without : ℕ → Graph → Graph
without core g = record { n = g.n; in_use = g.in_use; present = λ k. g.present k && not (touches core k) }

abbrev pub Held : Graph → Expr → List ℕ → ℕ → Type 0
Held g e anchors x = (a : ℕ) × In a anchors × Has g e x a

pub record Falls (g : Graph) (e : Expr) (core : ℕ) (anchors : List ℕ) (x : ℕ) : Type 0 where
  pub other : x ≡ core → ⊥
  pub held : Held g e anchors x
  pub lost : Held (without core g) e anchors x → ⊥

pub record FallenAre (g : Graph) (e : Expr) (core : ℕ) (anchors l : List ℕ) : Type 0 where
  pub ascending : Rises 0 l
  pub same : (x : ℕ) → (In x l → Falls g e core anchors x) × (Falls g e core anchors x → In x l)

-- ---- the same, computed
unfoldable pub some : (ℕ → Bool) → List ℕ → Bool
some t [] = false
some t (x ∷ l) = t x || some t l

unfoldable pub chosen : (ℕ → Bool) → ℕ → List ℕ
chosen t zero = []
chosen t (suc n) = chosen t n ++ pick (t n) (n ∷ []) []

unfoldable pub reaches : Cells → List ℕ → ℕ → Bool
reaches c anchors x = some (λ a. eqb (c x a) 1) anchors

unfoldable pub falls : Graph → Expr → ℕ → List ℕ → ℕ → Bool
falls g e core anchors x = not (eqb x core) && (reaches (cells g e) anchors x && not (reaches (cells (without core g) e) anchors x))

unfoldable pub fallen : Graph → Expr → ℕ → List ℕ → List ℕ
fallen g e core anchors = chosen (falls g e core anchors) g.n

-- ---- the question
unfoldable pub orderly : ℕ → List ℕ → Bool
orderly m [] = true
orderly m (x ∷ l) = leb m x && orderly (suc x) l

unfoldable pub fallen_of : Book → Verdict → ℕ → List ℕ → List ℕ
fallen_of b (accepted e) core anchors = fallen (asked b) e core anchors
fallen_of b long core anchors = []
fallen_of b outside core anchors = []
fallen_of b large core anchors = []

unfoldable pub support_causes : Book → ℕ → Verdict → List ℕ → ℕ → ℕ → List (Cause × Bool)
support_causes b core v anchors work room =
    (no_record, leb b.n core || some (leb b.n) anchors) ∷
    (unordered_anchors, not (orderly 0 anchors)) ∷
    (verdict_cause v ++ (
    (short_work, ltb work (pairs_work b.n + chain_work b.n)) ∷
    (short_list, ltb room (length (fallen_of b v core anchors))) ∷ []))

unfoldable pub support_outcome : Book → ℕ → Verdict → List ℕ → ℕ → ℕ → Outcome
support_outcome b core v anchors work room =
    unless (first_number (support_causes b core v anchors work room)) (paired (length (fallen_of b v core anchors)) (fallen_of b v core anchors))

-- ---- the promise
abbrev pub Supports : Register → ℕ → List ℕ → List ℕ → ℕ → List ℕ → List ℕ → Counted → Type 0
Supports r core text anchors work before = Asks (length before) r (λ b. support_outcome b core (verdict text) anchors work (length before)) before
