-- Demand 3 of the exported calls, undivided: what is claimed of every history that a caller makes over words that it keeps, and of what it reads and asks then.
-- It speaks of the plain book, of chains, of lists of words and of the numbers told.
--   Dealings             what a caller was lent and told beside a transcript (engine/Demand `Transcript`) with numbers for answers: the words before they began
--                        fresh, and at the end; then a list lent for the links, and their count; a record (`named`), and whether it was told to be locked and
--                        to be withdrawn; a label, and its total
--   heard q a            the question q with the answer a in its place
--   Kept t i             what the exported calls promise of these dealings: asking for a fresh register told 0, and each call meets its contract
--   ExportedDemand t i   numbers told, the lists that closings up gave, the words past a register's, n, links, locks, withdrawn records, totals and both
--                        questions are those of the plain book. The list lent for the links took the first words of them, as many as it takes, past them it
--                        is as it was, and the count is how many they are in all. The number told to a question tells an answer of which the claim holds
--                        (engine/Demand `PairsClaim`, `ChainClaim`), that of a chain question one that its list takes
-- Assumes nothing: these are definitions.
use Rattle.std.specs.Prelude.{◌≡◌, List, ℕ, ◌≤◌, length, take, drop}
use Rattle.book.specs.Basics.{bit, over}
use Rattle.book.specs.Book.{is_locked, is_withdrawn, fresh, answers, givens}
use Rattle.answers.specs.Answers.{counted}
use Rattle.paths.specs.Verdicts.{verdict}
use Rattle.register.specs.History.{Lent, Gives}
use Rattle.links.specs.Links.{Linked}
use Rattle.register.specs.Questions.{total_answer}
use Rattle.register.specs.Words.{state_words}
use Rattle.query.specs.Asking.{AsksFor}
use Rattle.chains.specs.Replies.{chain_counted, Replies}
use Rattle.engine.specs.Demand.{Question, Transcript, book_after, PairsClaim, ChainClaim}
use Rattle.host.specs.Host.{told_counted, told_chain, Told, Asked, Lists, Sizes, TellsLock, TellsWithdrawn, TellsTotal}
use Rattle.host.specs.Histories.{WordsMade}

-- ---- what was lent, and what came back
pub record Dealings : Type 0 where
  pub state : Lent
  pub links : Lent
  pub count : ℕ
  pub named : ℕ
  pub locked : ℕ
  pub withdrawn : ℕ
  pub label : ℕ
  pub total : ℕ

-- ---- a question told by a number
abbrev pub heard : {K A B : Type 0} → Question K A → B → Question K B
heard q a = record { about = q.about; text = q.text; work = q.work; list = q.list; answer = a }

-- ---- what the calls promise
pub record Kept (t : Transcript ℕ ℕ) (i : Dealings) : Type 0 where
  pub made : WordsMade t.n t.calls i.state.before i.state.after t.told t.lists
  pub size : Sizes i.state.after t.size
  pub links : Asked i.state.after (Lists i.links.before i.links.after) told_counted i.links.before i.links.after i.count
  pub locked : TellsLock i.state.after i.named i.locked
  pub withdrawn : TellsWithdrawn i.state.after i.named i.withdrawn
  pub total : TellsTotal i.state.after i.label i.total
  pub pairs : Asked i.state.after
      (λ r. AsksFor t.pairs.about r (verdict t.pairs.text) t.pairs.work t.pairs.list.before t.pairs.list.after)
      told_counted t.pairs.list.before t.pairs.list.after t.pairs.answer
  pub chain : Asked i.state.after
      (λ r. Replies r t.chain.about.from t.chain.about.to t.chain.text t.chain.work t.chain.list.before t.chain.list.after)
      told_chain t.chain.list.before t.chain.list.after t.chain.answer

-- ---- the whole
pub record ExportedDemand (t : Transcript ℕ ℕ) (i : Dealings) : Type 0 where
  pub answers : t.told ≡ answers (fresh t.n) t.calls
  pub givens : Gives (givens (fresh t.n) t.calls) t.lists
  pub around : drop state_words i.state.after ≡ drop state_words i.state.before
  pub size : t.size ≡ (book_after t).n
  pub links : (ws : List ℕ) × Linked ws (book_after t).sheet × (i.count ≡ length ws)
      × (i.links.after ≡ over (take (length i.links.before) ws) i.links.before)
  pub locked : i.locked ≡ bit (is_locked (book_after t).sheet i.named)
  pub withdrawn : i.withdrawn ≡ bit (is_withdrawn (book_after t).sheet i.named)
  pub total : i.total ≡ told_counted (total_answer (book_after t).sheet i.label)
  pub pairs : Told (λ a. PairsClaim (book_after t) (heard t.pairs a)) told_counted t.pairs.answer
  pub chain : Told (λ a. (counted (chain_counted a) ≤ length t.chain.list.before) × ChainClaim (book_after t) (heard t.chain a))
      told_chain t.chain.answer
