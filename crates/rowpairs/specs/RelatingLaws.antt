-- Laws of a relation that was left where it was made, and of what is known of a book.
--   known_read        what is read of a register is known of every book that it represents
--   known_without     what is known of a book without the links that touch a record: the words that do not touch it
--   relating_refused  a refusal has the number of the first cause against the pair question
--   relating_made     with an answer there is no cause
-- Assumes nothing.
use Rattle.std.specs.Prelude.{◌≡◌, refl, List, ℕ, zero, suc, length, take}
use Rattle.std.proofs.Common.{arith}
use Rattle.book.specs.Book.{Book}
use Rattle.book.specs.Causes.{first_number}
use Rattle.answers.specs.Answers.{answered}
use Rattle.answers.specs.declared.Counted.{Counted}
use Rattle.answers.specs.declared.Counted.TheVariants.{Count, Refused}
use Rattle.paths.specs.Grammar.{Verdict}
use Rattle.paths.specs.Questions.{by_trees, pairs_causes}
use Rattle.paths.specs.Chains.{asked}
use Rattle.register.specs.Representation.{Represents}
use Rattle.register.specs.Questions.{Sized, Listing, MarkList}
use Rattle.register.specs.Reads.{read_of}
use Rattle.register.specs.Parting.{filter, without_links, without_record}
use Rattle.register.specs.Apart.{apart_word}
use Rattle.register.specs.PartingLaws.{fit_without, linked_without}
use Rattle.register.specs.declared.Register.{Register}
use Rattle.register.specs.declared.Links.{Links}
use Rattle.query.proofs.LetterLaws.{read_known}
use Rattle.rowpairs.specs.declared.Related.{Related}
use Rattle.rowpairs.specs.Evaluation.{Known, RelatingIf}

pub known_read : {r : Register} {n : ℕ} {ms : List ℕ} {ls : Links} → Sized r n → MarkList r ms → Listing r ls → (b : Book) → Represents r b
    → Known b (length (take n ms)) (take ls.count ls.words) (take n ms)
known_read Z M L b R = read_known (read_of Z M L) b R

pub known_without : (x n : ℕ) (links marks : List ℕ) (b : Book) → Known b n links marks → Known (without_record x b) n (filter (apart_word x) links) marks
unfolding without_record without_links asked
known_without x n links marks b K = record {
  size = K.size;
  small = K.small;
  fit = fit_without x K.small K.fit;
  linked = linked_without x K.small K.fit links K.linked;
  in_use = K.in_use;
}

answered_refused : (j m : ℕ) {k : ℕ} {a : Counted} → a ≡ answered j m → a ≡ Refused k → k ≡ j
unfolding answered
answered_refused zero m T e = absurd (let z : ◌≡◌ {A = ℕ} 0 1 = cc in omega arith)
answered_refused (suc j) m T e = cc

answered_count : (j m : ℕ) {k : ℕ} {a : Counted} → a ≡ answered j m → a ≡ Count k → 0 ≡ j
unfolding answered
answered_count zero m T e = refl
answered_count (suc j) m T e = absurd (let z : ◌≡◌ {A = ℕ} 0 1 = cc in omega arith)

module _ {known : Book → Type 0} {v : Verdict} {work : ℕ} {ws : List ℕ} {q : Related} (A : RelatingIf known v work ws q) {k : ℕ} (b : Book) (R : known b) where
  pub relating_refused : q.answer ≡ Refused k → k ≡ first_number (pairs_causes by_trees b v work)
  relating_refused e = answered_refused _ b.n (A.leaves.book b R).answer e

  pub relating_made : q.answer ≡ Count k → 0 ≡ first_number (pairs_causes by_trees b v work)
  relating_made e = answered_count _ b.n (A.leaves.book b R).answer e
