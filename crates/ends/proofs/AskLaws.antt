-- From the register, the reader and the search to the book's answer.
--   ends_none      a withdrawn record has none
--   ends_seen      the records seen in a final state are the ends
--   answer_record, answer_text
--                  the book's answer, by the first cause: 2, the text's number
--   refuses_record, refuses_text
--                  a refusal keeps the promise, by each cause
--   asks_ends      so does the answer
-- Assumes nothing.
use mathlib.Core.Path.{◌≡◌, refl, sym, ap, ◌∙◌}
use mathlib.Core.List.{List, []}
use mathlib.Core.Bool.{Bool, true, false≢true}
use Prim.Native.Nat.{ℕ, ◌≤◌, ◌<◌}
use native.Mathlib.Omega.{arith}
use lib.ListN.{length, drop}
use borrow.Author.Tests.{le-leb, lt-leb}
use Rattle.book.specs.Basics.{ended}
use Rattle.book.specs.Causes.{no_record, number, Caused, first_number, max_records}
use Rattle.book.specs.Book.{Book, is_withdrawn}
use Rattle.book.proofs.ListLaws.{in_none}
use Rattle.paths.specs.Expressions.{Expr}
use Rattle.paths.specs.Grammar.{Verdict, accepted, long, outside, large, verdict_cause}
use Rattle.paths.specs.Verdicts.{verdict}
use Rattle.paths.specs.Chains.{Graph, asked}
use Rattle.paths.specs.Inside.{Inside}
use Rattle.paths.specs.Relations.{cells}
use Rattle.paths.proofs.RelationLaws.{cells_has}
use Rattle.paths.proofs.PairLaws.{withdrawn_out, verdict_caused}
use Rattle.answers.specs.Answers.{counted}
use Rattle.answers.specs.AnswerLaws.{contained_refused, contained_count}
use Rattle.answers.specs.Listing.{Shown}
use Rattle.answers.specs.ListingLaws.{shown_over, shown_past}
use Rattle.answers.specs.declared.Counted.TheVariants.{Count, Refused}
use Rattle.paths.specs.Questions.{refused, count_of, list_after}
use Rattle.register.specs.declared.Register.{Register}
use Rattle.register.specs.Representation.{Represents}
use Rattle.tables.specs.Builds.{in_sense}
use Rattle.arcs.specs.SpanLaws.{inside}
use Rattle.search.specs.Reaching.{Ended}
use Rattle.rows.specs.Rows.{places}
use Rattle.ends.specs.Ends.{ends, joined_by, ends_causes, ends_answer}
use Rattle.ends.proofs.EndsLaws.{places_same, ends_only, joined_as}
use Rattle.ends.proofs.MadeLaws.{answer_ends}
use Rattle.ends.specs.Asking.{AsksJoined}
use Rattle.ends.specs.Listing.{meets}

-- ---- the ends
pub ends_none : (against : Bool) {self : Register} {b : Book} → Represents self b → (e : Expr) (x : ℕ) → is_withdrawn b.sheet x ≡ true
    → [] ≡ joined_by against (asked b) e x
ends_none against {b = b} R e x w =
    ends_only (asked b) (inside R) (in_sense against e) x [] (record {
      ascending = ended;
      sound = λ y i. absurd (in_none i refl);
      whole = λ y h. absurd (false≢true (sym (withdrawn_out b x w) ∙ h.1.begins));
    })
    ∙ joined_as against (asked b) e x

seen_ends : (g : Graph) → Inside g → (e : Expr) {x f n : ℕ} {seen : List ℕ} → g.n ≡ n → Ended g e x f seen → places (meets seen f) n ≡ ends g e x
unfolding ends meets
seen_ends g I e {x} {f} {n} {seen} size E =
    places_same (meets seen f) (λ y. cells g e x y) n (λ y h o. (cells_has g I e x y).1 (E.sound y o)) (λ y h o. E.whole y ((cells_has g I e x y).0 o))
    ∙ ap (places (λ y. cells g e x y)) (sym size)

pub ends_seen : (against : Bool) (g : Graph) → Inside g → (e : Expr) {x f n : ℕ} {seen : List ℕ} → g.n ≡ n → Ended g (in_sense against e) x f seen
    → places (meets seen f) n ≡ joined_by against g e x
ends_seen against g I e {x} size E = seen_ends g I (in_sense against e) size E ∙ joined_as against g e x

-- ---- the book's answer, by the first cause
module _ (against : Bool) (b : Book) (x room : ℕ) where
  pub answer_record : (v : Verdict) → b.n ≤ x → ends_answer against b x v room ≡ refused 2
  unfolding ends_answer ends_causes first_number number
  answer_record v h = rw (le-leb b.n x h)

  pub answer_text : x < b.n → (v : Verdict) (k : ℕ) → first_number (verdict_cause v) ≡ k → 0 < k → ends_answer against b x v room ≡ refused k
  unfolding ends_answer ends_causes first_number number verdict_cause
  answer_text hx (accepted e) k q h = absurd (omega arith)
  answer_text hx long k q h = rw (lt-leb b.n x hx) (ap refused q)
  answer_text hx outside k q h = rw (lt-leb b.n x hx) (ap refused q)
  answer_text hx large k q h = rw (lt-leb b.n x hx) (ap refused q)

-- ---- the promise
module _ (against : Bool) {self : Register} (x : ℕ) (text : List ℕ) {before : List ℕ} where
  refuses : (k : ℕ) → Caused k → ((b : Book) → Represents self b → ends_answer against b x (verdict text) (length before) ≡ refused k)
      → AsksJoined against self x text before before (Refused k)
  unfolding counted count_of list_after
  refuses k c h = record {
    contained = contained_refused max_records 0 before before k c refl;
    book = λ b R. (let e = h b R in record { answer = rw e refl; list = rw e refl });
  }

  module _ {n : ℕ} (size : (b : Book) → Represents self b → n ≡ b.n) where
    pub refuses_record : n ≤ x → AsksJoined against self x text before before (Refused 2)
    unfolding number
    refuses_record h =
        refuses 2 (no_record, refl) (λ b R. (let s = size b R in answer_record against b x (length before) (verdict text) (omega arith)))

    module _ (hx : x < n) where
      pub refuses_text : (k : ℕ) → first_number (verdict_cause (verdict text)) ≡ k → 0 < k → AsksJoined against self x text before before (Refused k)
      refuses_text k e h =
          refuses k (verdict_caused (verdict text) k e h) (λ b R. (let s = size b R in
          answer_text against b x (length before) (omega arith) (verdict text) k e h))

      module _ (e : Expr) (a : verdict text ≡ accepted e) where
        pub asks_ends : {after l : List ℕ} {r : ℕ} → r ≡ length l → r ≤ max_records → Shown l before after
            → ((b : Book) → Represents self b → l ≡ joined_by against (asked b) e x) → AsksJoined against self x text before after (Count r)
        unfolding counted count_of list_after
        asks_ends {after} {l} {r} q m S h = rw q (record {
          contained = contained_count max_records (length l) before after (length l) (rw q at m) (ap (drop (length l)) S ∙ shown_past l before);
          book = λ b R.
              (let s = size b R in
              let i = h b R in
              let o = answer_ends against b x (length before) (omega arith) (verdict text) e a in
              record { answer = rw (o, sym i) refl; list = rw (o, sym i) (S ∙ shown_over l before) });
        })
