-- What the exported questions for the ends and the starts of a record say of the plain book.
--   ends_made, starts_made
--                   asked of words that exported calls made, with expression and record accepted: the number is how many ends or starts there are, and the
--                   list has as many of them as it takes, the smallest
-- Assumes nothing.
use Rattle.std.specs.Prelude.{◌≡◌, List, ℕ, ◌<◌, length, take}
use Rattle.std.proofs.Common.{ap, ◌∙◌}
use Rattle.book.specs.Basics.{over}
use Rattle.book.specs.Book.{Call, fresh, after}
use Rattle.paths.specs.Expressions.{Expr}
use Rattle.paths.specs.Grammar.{accepted}
use Rattle.paths.specs.Verdicts.{verdict}
use Rattle.paths.specs.Chains.{asked}
use Rattle.register.specs.History.{Lent}
use Rattle.arcs.specs.SpanLaws.{inside}
use Rattle.ends.specs.Ends.{EndsAre, StartsAre}
use Rattle.ends.specs.Asking.{AsksEnds, AsksStarts}
use Rattle.ends.proofs.MadeLaws.{book_ends as ends-of-book, book_starts as starts-of-book}
use Rattle.host.specs.Host.{KeepsBook, Freshens, told_counted, Asked}
use Rattle.host.specs.Histories.{Calls}
use Rattle.host.proofs.HostLaws.{calls_book, asked_book}

-- of a fresh register's words and any calls
module _ {n : ℕ} {space ws : List ℕ} {opened : ℕ} (F : Freshens n space ws opened) (ok : opened ≡ 0) {cs : List Call} {vs ks : List ℕ} {ls : List Lent}
    (C : Calls cs ws vs ks ls) (x : ℕ) (text before after' : List ℕ) (k : ℕ) (e : Expr) (v : verdict text ≡ accepted e) (hx : x < (after (fresh n) cs).n) where
  kept : KeepsBook vs (after (fresh n) cs)
  kept = (calls_book C (fresh n) (F.made ok)).2

  pub ends_made : Asked vs (λ r. AsksEnds r x text before after') told_counted before after' k
      → (l : List ℕ) × EndsAre (asked (after (fresh n) cs)) e x l × (k ≡ length l) × (after' ≡ over (take (length before) l) before)
  ends_made q =
      let t = asked_book q (after (fresh n) cs) kept in
      let z = ends-of-book (after (fresh n) cs) (inside kept.2) hx v t.1 in
      (z.0, z.1, t.2 ∙ ap told_counted z.2, z.3)

  pub starts_made : Asked vs (λ r. AsksStarts r x text before after') told_counted before after' k
      → (l : List ℕ) × StartsAre (asked (after (fresh n) cs)) e x l × (k ≡ length l) × (after' ≡ over (take (length before) l) before)
  starts_made q =
      let t = asked_book q (after (fresh n) cs) kept in
      let z = starts-of-book (after (fresh n) cs) (inside kept.2) hx v t.1 in
      (z.0, z.1, t.2 ∙ ap told_counted z.2, z.3)
