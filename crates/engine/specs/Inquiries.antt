-- What `inquire` promises: a history and the questions after it, made by one function; and what any calls gave, of which demand 3 is a theorem.
--   Gave r t s      the register r at the end of a history gave, read and asked, what the transcript t and s say (DemandLaws `demand_3`)
--   Unasked k heard lists p c r
--                   the history was refused with the number k, and no question asked: both are told that number, every list is as it was, and no record, no
--                   link, no lock, no withdrawn record and no total but 0 is shown
--   Inquired n words heard lists p c r
--                   the history was made: each word's number stands in the list `heard`, whose words past them are as they were; the list of each closing
--                   up in its 1,024 words of `lists`; both questions are answered as the plain book answers them, refusals too; and demand 3, of the
--                   calls among the words
--   Inquires n words heard lists p c r
--                   refused if n is outside 1 to 1,024 (1), or `heard` is shorter than the answers or `lists` has fewer than 1,024 words for each closing
--                   up (12), else made
-- Assumes nothing: these are definitions.
use Rattle.std.specs.Prelude.{◌≡◌, List, [], ◌++◌, ℕ, ◌<◌, length, take, drop, get_or}
use Rattle.book.specs.Causes.{labels}
use Rattle.book.specs.Book.{fresh, after, givens}
use Rattle.answers.specs.declared.Counted.{Counted}
use Rattle.answers.specs.declared.Counted.TheVariants.{Refused}
use Rattle.paths.specs.Verdicts.{verdict}
use Rattle.paths.specs.Questions.{Engine, pairs_answer, Tells}
use Rattle.register.specs.Calls.{answer_of}
use Rattle.register.specs.History.{Lent, word_answers, calls_of, told_calls, closings, laid, parts, replay_number}
use Rattle.register.specs.Marks.{free_mark}
use Rattle.register.specs.Questions.{Sized, Listing, MarkList, TotalList}
use Rattle.register.specs.declared.Register.{Register}
use Rattle.register.specs.declared.Links.{Links}
use Rattle.query.specs.Asking.{AsksFor}
use Rattle.chains.specs.Replies.{BookReplies, Replies}
use Rattle.chains.specs.declared.ChainAnswer.{ChainAnswer}
use Rattle.chains.specs.declared.ChainAnswer.TheVariants.{Refused as Unanswered}
use Rattle.engine.specs.Demand.{Question, Transcript, Shown, Demand}
use Rattle.engine.specs.declared.Ends.{Ends}
use Rattle.engine.specs.declared.Inquiry.{Inquiry}

pub record Gave (r : Register) (t : Transcript Counted ChainAnswer) (s : Shown) : Type 0 where
  pub size : Sized r t.size
  pub links : (ls : Links) × Listing r ls × (s.links ≡ take ls.count ls.words)
  pub marks : MarkList r s.marks
  pub totals : TotalList r s.totals
  pub pairs : AsksFor t.pairs.about r (verdict t.pairs.text) t.pairs.work t.pairs.list.before t.pairs.list.after t.pairs.answer
  pub chain : Replies r t.chain.about.from t.chain.about.to t.chain.text t.chain.work
      t.chain.list.before t.chain.list.after t.chain.answer

pub record Unasked (k : ℕ) (heard lists : Lent) (p : Question Engine Counted) (c : Question Ends ChainAnswer) (r : Inquiry) : Type 0 where
  pub pairs : p.answer ≡ Refused k
  pub chain : c.answer ≡ Unanswered k
  pub told : heard.after ≡ heard.before
  pub given : lists.after ≡ lists.before
  pub list : p.list.after ≡ p.list.before
  pub steps : c.list.after ≡ c.list.before
  pub size : r.size ≡ 0
  pub links : take r.links.count r.links.words ≡ []
  pub marks : (x : ℕ) → get_or r.marks x free_mark ≡ free_mark
  pub totals : (l : ℕ) → l < labels → get_or r.totals l 0 ≡ 0

pub record Inquired (n : ℕ) (words : List ℕ) (heard lists : Lent) (p : Question Engine Counted) (c : Question Ends ChainAnswer) (r : Inquiry) : Type 0 where
  pub told : heard.after ≡ word_answers (fresh n) words ++ drop (length words) heard.before
  pub given : lists.after ≡ laid (givens (fresh n) (calls_of words)) lists.before
  pub pairs : Tells (pairs_answer p.about (after (fresh n) (calls_of words)) (verdict p.text) p.work (length p.list.before))
      p.list.before p.list.after p.answer
  pub chain : BookReplies (after (fresh n) (calls_of words)) c.about.from c.about.to c.text c.work c.list.before c.list.after c.answer
  pub demand : Demand
      (record {
        n = n;
        calls = calls_of words;
        told = told_calls words heard.after;
        lists = parts (closings (calls_of words)) lists;
        size = r.size;
        pairs = p;
        chain = c;
      })
      (record { links = take r.links.count r.links.words; marks = r.marks; totals = r.totals })

pub record Inquires (n : ℕ) (words : List ℕ) (heard lists : Lent) (p : Question Engine Counted) (c : Question Ends ChainAnswer) (r : Inquiry) : Type 0 where
  pub answer : r.answer ≡ answer_of (replay_number n words heard.before lists.before)
  pub refused : (replay_number n words heard.before lists.before ≡ 0 → ⊥)
      → Unasked (replay_number n words heard.before lists.before) heard lists p c r
  pub made : replay_number n words heard.before lists.before ≡ 0 → Inquired n words heard lists p c r
