-- Demand 3, undivided: what is claimed of every history, and of the questions asked after it. It speaks of the plain book, of chains and of words.
--   Question K A         a question as it was put: what it is about (of a pair question its engine, of a chain question its records), its text, how many words
--                        of work were lent, the list as it was and as it is then, and the answer
--   Transcript P C       a history and the questions after it: n, the calls, the number told to each, the list that each closing up was lent, at the end the
--                        number of records, and the two questions asked then
--   Shown                what else was read at the end: the words of the links, the mark of each record (register `Marks`) and the total of each label
--   book_after t          the plain book after the calls of t, from a fresh one
--   PairsSay b e q       the question q is answered by the number of all pairs with a chain, and the list has the smallest of them, ascending, each once, as
--                        many as it takes: every pair in it is smaller than every other (paths/PairLaws `first_part`)
--   PairsClaim b q       so is every accepted pair question answered, whose text is an expression and whose work is enough; and pairs that are handed out,
--                        whatever was lent, are those of the text's expression
--   ChainSays b e q      of an accepted chain question: where there is a chain there is a first of all chains, none shorter and none as short before it, and it
--                        is handed out with the number of its steps, if the list takes it; where there is none of any length, that is said
--   ChainClaim b q       so for every accepted chain question, whose text is an expression, whose records exist and whose work is enough; and a chain that is
--                        handed out, whatever was lent, is the first one of the text's expression, in the list's first words, and past them what they were
--                        (`handed`); and where none is said, whatever was lent, there is none of any length (`silent`)
--   Demand t s           answers, the lists that closings up gave, n, links, locks, withdrawn records, totals and both questions are those of the plain book
-- Assumes nothing: these are definitions.
use Rattle.std.specs.Prelude.{◌≡◌, List, ℕ, ◌≤◌, ◌<◌, length, take, get_or}
use Rattle.book.specs.Basics.{In}
use Rattle.book.specs.Causes.{labels}
use Rattle.book.specs.Book.{Book, Call, total, fresh, answers, after, givens}
use Rattle.answers.specs.declared.Counted.{Counted}
use Rattle.answers.specs.declared.Counted.TheVariants.{Count}
use Rattle.paths.specs.Expressions.{Expr}
use Rattle.paths.specs.Grammar.{accepted, Judged}
use Rattle.paths.specs.Chains.{asked, Step, step_words, Answers, First}
use Rattle.paths.specs.Relations.{PairsAre}
use Rattle.paths.specs.Questions.{Engine, work_for, chain_work, over}
use Rattle.register.specs.History.{Lent, Gives}
use Rattle.links.specs.Links.{Linked}
use Rattle.register.specs.Marks.{free_mark, mark_of}
use Rattle.chains.specs.declared.ChainAnswer.{ChainAnswer}
use Rattle.chains.specs.declared.ChainAnswer.TheVariants.{Chain, NoChain}
use Rattle.engine.specs.declared.Ends.{Ends}

-- ---- what was lent, and what came back
pub record Question (K A : Type 0) : Type 0 where
  pub about : K
  pub text : List ℕ
  pub work : ℕ
  pub list : Lent
  pub answer : A

pub record Transcript (P C : Type 0) : Type 0 where
  pub n : ℕ
  pub calls : List Call
  pub told : List ℕ
  pub lists : List Lent
  pub size : ℕ
  pub pairs : Question Engine P
  pub chain : Question Ends C

pub record Shown : Type 0 where
  pub links : List ℕ
  pub marks : List ℕ
  pub totals : List ℕ

abbrev pub book_after : {P C : Type 0} → Transcript P C → Book
book_after t = after (fresh t.n) t.calls

-- ---- pair questions
abbrev pub PairsSay : Book → Expr → Question Engine Counted → Type 0
PairsSay b e q =
    (l : List ℕ) × PairsAre (asked b) e l × (q.answer ≡ Count (length l)) × (q.list.after ≡ over (take (length q.list.before) l) q.list.before)
    × ((w v : ℕ) → In w (take (length q.list.before) l) → In v l → (In v (take (length q.list.before) l) → ⊥) → w < v)

pub record PairsClaim (b : Book) (q : Question Engine Counted) : Type 0 where
  pub says : (e : Expr) → Judged q.text (accepted e) → work_for q.about b.n ≤ q.work → PairsSay b e q
  pub handed : (k : ℕ) → q.answer ≡ Count k → (e : Expr) × Judged q.text (accepted e) × PairsSay b e q

-- ---- chain questions
pub record ChainSays (b : Book) (e : Expr) (q : Question Ends ChainAnswer) : Type 0 where
  pub first : (ts : List Step) → Answers (asked b) e q.about.from q.about.to ts
      → (ss : List Step) × First (asked b) e q.about.from q.about.to ss × (length ss ≤ length q.list.before
      → (q.answer ≡ Chain (length ss)) × (q.list.after ≡ over (step_words ss) q.list.before))
  pub none : ((ss : List Step) → Answers (asked b) e q.about.from q.about.to ss → ⊥) → (q.answer ≡ NoChain) × (q.list.after ≡ q.list.before)

pub record ChainClaim (b : Book) (q : Question Ends ChainAnswer) : Type 0 where
  pub says : (e : Expr) → Judged q.text (accepted e) → q.about.from < b.n → q.about.to < b.n → chain_work b.n ≤ q.work → ChainSays b e q
  pub handed : (k : ℕ) → q.answer ≡ Chain k → (e : Expr) × Judged q.text (accepted e)
      × ((ss : List Step) × First (asked b) e q.about.from q.about.to ss × (k ≡ length ss) × (q.list.after ≡ over (step_words ss) q.list.before))
  pub silent : q.answer ≡ NoChain → (e : Expr) × Judged q.text (accepted e)
      × ((ss : List Step) → Answers (asked b) e q.about.from q.about.to ss → ⊥) × (q.list.after ≡ q.list.before)

-- ---- the whole
pub record Demand (t : Transcript Counted ChainAnswer) (s : Shown) : Type 0 where
  pub answers : t.told ≡ answers (fresh t.n) t.calls
  pub givens : Gives (givens (fresh t.n) t.calls) t.lists
  pub size : t.size ≡ (book_after t).n
  pub links : Linked s.links (book_after t).sheet
  pub marks : (x : ℕ) → get_or s.marks x free_mark ≡ mark_of (book_after t).sheet x
  pub totals : (l : ℕ) → l < labels → get_or s.totals l 0 ≡ total (book_after t).sheet l
  pub pairs : PairsClaim (book_after t) t.pairs
  pub chain : ChainClaim (book_after t) t.chain
