-- Laws of the two calls: which outcome it is, by the verdict, the lent lengths and what the bytes hold.
--   print_little, print_asked, print_short, print_filled
--                        12; the pages handed over whole: 13, or the pages
--   print_refused        refused as the pair question is
--   print_in_order, read_in_order
--                        the causes stand in their order
--   Content, Holds, words_in c, is_nothing c, read_causes v c room, read_outcome v c room, ReadsAs
--                        what reading promises, as one outcome of the verdict and of what the bytes hold, a list of pairs or nothing that is one
--   read-refused, read_broken, read_short, read_filled
--                        the verdict's number, 14, 13, or the pairs
--   reads_by, reads_as   the two ways to say it are the same
--   read_order            the order of reading
-- Assumes nothing.
use Rattle.std.proofs.Math.Path.{◌≡◌, refl, ap}
use Rattle.std.proofs.Common.{sym, subst, ◌∙◌, arith}
use Rattle.std.proofs.Math.Bool.{Bool}
use Rattle.std.specs.Prelude.{true, false, List, [], ◌∷◌, ◌++◌, ℕ, suc, ◌*◌, ◌≤◌, ◌<◌, length}
use Rattle.std.proofs.Math.Decide.{dec_lt}
use borrow.Author.Tests.{lt-ltb, le-ltb}
use Rattle.std.proofs.Math.Dec.{ltb}
use Rattle.book.specs.Basics.{pick}
use Rattle.book.specs.Causes.{Cause, no_expression, too_many_bytes, too_large, broken_frame, short_work, short_list, number, first_number}
use Rattle.book.specs.CauseOrders.{question_order, InOrder, none_left, same_cause, passed_over}
use Rattle.book.specs.Book.{Book}
use Rattle.k2.specs.Trees.{tree_unit}
use Rattle.paths.specs.Expressions.{Expr}
use Rattle.paths.specs.Grammar.{Verdict, accepted, long, outside, large, verdict_cause}
use Rattle.paths.specs.Chains.{asked}
use Rattle.paths.specs.Relations.{pairs}
use Rattle.paths.specs.Verdicts.{verdict}
use Rattle.answers.specs.declared.Counted.{Counted}
use Rattle.paths.specs.Questions.{Outcome, by_trees, refused, unless, pairs_of, pairs_causes, Tells}
use Rattle.reader.specs.Reads.{read_answer}
use Rattle.reader.specs.declared.Answer.TheVariants.{Refused as Faulty}
use Rattle.pages.specs.Pages.{pages, IsPages}
use Rattle.pages.specs.PageCalls.{filled, print_causes, print_outcome, ReadsPages, faulty_text, not_pages, given_pages}

-- ---- printing
module _ (b : Book) (text : List ℕ) (work room : ℕ) where
  module _ (e : Expr) (v : verdict text ≡ accepted e) where
    pub print_little : work < 32 * tree_unit b.n → print_outcome b text work room ≡ refused 12
    unfolding print_outcome print_causes pairs_causes verdict_cause first_number number
    print_little h = rw (v, lt-ltb work (32 * tree_unit b.n) h)

    module _ (h : 32 * tree_unit b.n ≤ work) where
      pub print_asked : print_outcome b text work room
          ≡ unless (first_number ((short_list, ltb room (length (pages text (pairs (asked b) e)))) ∷ [])) (filled (pages text (pairs (asked b) e)))
      unfolding print_outcome print_causes pairs_causes verdict_cause first_number number pairs_of
      print_asked = rw (v, le-ltb work (32 * tree_unit b.n) h)

      pub print_short : room < length (pages text (pairs (asked b) e)) → print_outcome b text work room ≡ refused 13
      unfolding first_number number
      print_short l = print_asked ∙ rw (lt-ltb room (length (pages text (pairs (asked b) e))) l)

      pub print_filled : length (pages text (pairs (asked b) e)) ≤ room → print_outcome b text work room ≡ filled (pages text (pairs (asked b) e))
      unfolding first_number number
      print_filled l = print_asked ∙ rw (le-ltb room (length (pages text (pairs (asked b) e))) l)

  -- printing is refused as the pair question is
  pub print_refused : (k : ℕ) (v : Verdict) → verdict text ≡ v
      → k ≡ first_number (pairs_causes by_trees b v work) → 0 < k → print_outcome b text work room ≡ refused k
  unfolding print_outcome print_causes pairs_causes verdict_cause first_number number
  print_refused k long v q h = rw v (ap refused (sym q))
  print_refused k outside v q h = rw v (ap refused (sym q))
  print_refused k large v q h = rw v (ap refused (sym q))
  print_refused k (accepted e) v q h = go (dec_lt work (32 * tree_unit b.n))
    where
      go : Dec (work < 32 * tree_unit b.n) → print_outcome b text work room ≡ refused k
      go (yes l) =
          let z : ◌≡◌ {A = ℕ} (pick (ltb work (32 * tree_unit b.n)) 12 0) 12 = rw (lt-ltb work (32 * tree_unit b.n) l) refl in
          print_little e v l ∙ ap refused (sym (q ∙ z))
      go (no l) =
          absurd (let z : ◌≡◌ {A = ℕ} (pick (ltb work (32 * tree_unit b.n)) 12 0) 0 = rw (le-ltb work (32 * tree_unit b.n) (omega arith)) refl in
          omega (arith, q, z, h))

  pub print_in_order : InOrder (print_causes b text work room) question_order
  unfolding print_causes pairs_causes question_order verdict_cause
  print_in_order = go (verdict text)
    where
      t : Bool
      t = ltb room (length (pages text (pairs_of b (verdict text))))

      go : (v : Verdict) → InOrder ((verdict_cause v ++ ((short_work, ltb work (32 * tree_unit b.n)) ∷ [])) ++ ((short_list, t) ∷ [])) question_order
      go (accepted e) = passed_over (passed_over (passed_over (passed_over (same_cause (same_cause none_left)))))
      go long = passed_over (same_cause (passed_over (passed_over (same_cause (same_cause none_left)))))
      go outside = passed_over (passed_over (same_cause (passed_over (same_cause (same_cause none_left)))))
      go large = passed_over (passed_over (passed_over (same_cause (same_cause (same_cause none_left)))))

-- ---- reading, as the outcome of what the bytes hold
pub data Content : Type 0 where
  listing : List ℕ → Content
  nothing : Content

pub data Holds (text bytes : List ℕ) : Content → Type 0 where
  are_pages : {l : List ℕ} → IsPages text bytes l → Holds text bytes (listing l)
  no_pages : ((l : List ℕ) → IsPages text bytes l → ⊥) → Holds text bytes nothing

unfoldable pub words_in : Content → List ℕ
words_in (listing l) = l
words_in nothing = []

unfoldable pub is_nothing : Content → Bool
is_nothing (listing l) = false
is_nothing nothing = true

unfoldable pub read_causes : Verdict → Content → ℕ → List (Cause × Bool)
read_causes v c room = verdict_cause v ++ ((broken_frame, is_nothing c) ∷ (short_list, ltb room (length (words_in c))) ∷ [])

unfoldable pub read_outcome : Verdict → Content → ℕ → Outcome
read_outcome v c room = unless (first_number (read_causes v c room)) (filled (words_in c))

pub record ReadsAs (text bytes before after : List ℕ) (a : Counted) : Type 0 where
  pub content : Content
  pub holds : (e : Expr) → verdict text ≡ accepted e → Holds text bytes content
  pub tells : Tells (read_outcome (verdict text) content (length before)) before after a

pub read-refused : (v : Verdict) (k : ℕ) (c : Content) (room : ℕ) → read_answer v ≡ Faulty k → read_outcome v c room ≡ refused k
unfolding read_outcome read_causes verdict_cause first_number number read_answer
read-refused (accepted e) k c room q = absurd (let z : ◌≡◌ {A = ℕ} 0 1 = cc in omega arith)
read-refused long k c room q = let z : 10 ≡ k = cc in ap refused z
read-refused outside k c room q = let z : 9 ≡ k = cc in ap refused z
read-refused large k c room q = let z : 10 ≡ k = cc in ap refused z

pub read_broken : (e : Expr) (room : ℕ) → read_outcome (accepted e) nothing room ≡ refused 14
unfolding read_outcome read_causes verdict_cause is_nothing words_in first_number number
read_broken e room = refl

pub read_short : (e : Expr) (l : List ℕ) (room : ℕ) → room < length l → read_outcome (accepted e) (listing l) room ≡ refused 13
unfolding read_outcome read_causes verdict_cause is_nothing words_in first_number number
read_short e l room h = rw (lt-ltb room (length l) h)

pub read_filled : (e : Expr) (l : List ℕ) (room : ℕ) → length l ≤ room → read_outcome (accepted e) (listing l) room ≡ filled l
unfolding read_outcome read_causes verdict_cause is_nothing words_in first_number number
read_filled e l room h = rw (le-ltb room (length l) h)

-- the two ways to say it are the same
told_as : {before after : List ℕ} {a : Counted} {o p : Outcome} → o ≡ p → Tells o before after a → Tells p before after a
told_as {before} {after} {a} e T = subst (λ (o : Outcome). Tells o before after a) e T

module _ {text bytes before after : List ℕ} {a : Counted} where
  pub reads_by : ReadsAs text bytes before after a → ReadsPages text bytes before after a
  unfolding read_outcome read_causes verdict_cause is_nothing words_in first_number number
  reads_by R = go (verdict text) refl
    where
      by : (e : Expr) → verdict text ≡ accepted e → (c : Content) → Holds text bytes c
          → Tells (read_outcome (accepted e) c (length before)) before after a → ReadsPages text bytes before after a
      by e q (listing l) (are_pages P) T = given_pages l (ap (λ (v : Verdict). first_number (verdict_cause v)) q) P T
      by e q nothing (no_pages n) T = not_pages (ap (λ (v : Verdict). first_number (verdict_cause v)) q) n T

      go : (v : Verdict) → verdict text ≡ v → ReadsPages text bytes before after a
      go (accepted e) q =
          by e q R.content (R.holds e q) (told_as (ap (λ (v : Verdict). read_outcome v R.content (length before)) q) R.tells)
      go long q = faulty_text {k = 9} (ap (λ (v : Verdict). first_number (verdict_cause v)) q)
          (told_as (ap (λ (v : Verdict). read_outcome v R.content (length before)) q) R.tells)
      go outside q = faulty_text {k = 8} (ap (λ (v : Verdict). first_number (verdict_cause v)) q)
          (told_as (ap (λ (v : Verdict). read_outcome v R.content (length before)) q) R.tells)
      go large q = faulty_text {k = 9} (ap (λ (v : Verdict). first_number (verdict_cause v)) q)
          (told_as (ap (λ (v : Verdict). read_outcome v R.content (length before)) q) R.tells)

text_fault : (v : Verdict) (k room : ℕ) → first_number (verdict_cause v) ≡ suc k → refused (suc k) ≡ read_outcome v nothing room
unfolding read_outcome read_causes verdict_cause first_number number
text_fault (accepted e) k room z = absurd (omega arith)
text_fault long k room z = ap refused (sym z)
text_fault outside k room z = ap refused (sym z)
text_fault large k room z = ap refused (sym z)

text_right : (v : Verdict) (c : Content) (room : ℕ) → first_number (verdict_cause v) ≡ 0
    → first_number ((broken_frame, is_nothing c) ∷ (short_list, ltb room (length (words_in c))) ∷ []) ≡ first_number (read_causes v c room)
unfolding read_causes verdict_cause first_number number
text_right (accepted e) c room z = refl
text_right long c room z = absurd (omega arith)
text_right outside c room z = absurd (omega arith)
text_right large c room z = absurd (omega arith)

no_fault : (v : Verdict) (e : Expr) (k : ℕ) → v ≡ accepted e → first_number (verdict_cause v) ≡ suc k → ⊥
unfolding verdict_cause first_number
no_fault v e k q z = let y : ◌≡◌ {A = ℕ} 0 (suc k) = sym (ap (λ (v : Verdict). first_number (verdict_cause v)) q) ∙ z in omega arith

pub reads_as : {text bytes before after : List ℕ} {a : Counted} → ReadsPages text bytes before after a → ReadsAs text bytes before after a
unfolding read_outcome is_nothing words_in first_number number
reads_as {text} {before = before} (faulty_text {k} z T) = record {
  content = nothing;
  holds = λ e q. absurd (no_fault (verdict text) e k q z);
  tells = told_as (text_fault (verdict text) k (length before) z) T;
}
reads_as {text} {before = before} (not_pages z n T) = record {
  content = nothing;
  holds = λ e q. no_pages n;
  tells = told_as (ap (λ (k : ℕ). unless k (filled [])) (text_right (verdict text) nothing (length before) z)) T;
}
reads_as {text} {before = before} (given_pages l z P T) = record {
  content = listing l;
  holds = λ e q. are_pages P;
  tells = told_as (ap (λ (k : ℕ). unless k (filled l)) (text_right (verdict text) (listing l) (length before) z)) T;
}

-- the order of reading: 10 for bytes, 9, 10 for letters and depth, 14, 13
unfoldable pub read_order : List Cause
read_order = too_many_bytes ∷ no_expression ∷ too_large ∷ broken_frame ∷ short_list ∷ []

pub read_in_order : (v : Verdict) (c : Content) (room : ℕ) → InOrder (read_causes v c room) read_order
unfolding read_causes read_order verdict_cause
read_in_order (accepted e) c room = passed_over (passed_over (passed_over (same_cause (same_cause none_left))))
read_in_order long c room = same_cause (passed_over (passed_over (same_cause (same_cause none_left))))
read_in_order outside c room = passed_over (same_cause (passed_over (same_cause (same_cause none_left))))
read_in_order large c room = passed_over (passed_over (same_cause (same_cause (same_cause none_left))))
