-- What the calls of the printed page say of one another.
--   exported_round  what the exported printer wrote, the exported reader gives back as the book's pairs
-- Assumes nothing.
use Rattle.std.specs.Prelude.{◌≡◌, List, ℕ, ◌*◌, ◌≤◌, ◌<◌, length, take}
use Rattle.std.proofs.Common.{sym, ap, subst, ◌∙◌}
use Rattle.book.specs.Book.{Book}
use Rattle.paths.specs.Questions.{pairs_of, over}
use Rattle.paths.specs.Verdicts.{verdict}
use Rattle.answers.specs.declared.Counted.TheVariants.{Count}
use Rattle.pages.specs.PageCalls.{Prints, ReadsPages}
use Rattle.pages.specs.RoundTripLaws.{print_read}
use Rattle.host.specs.Host.{KeepsBook, past_counts, told_counted, Told, Asked}
use Rattle.host.proofs.HostLaws.{count_told}

module _ {ws before after : List ℕ} {k : ℕ} (text : List ℕ) (work : ℕ) (b : Book) (h : KeepsBook ws b)
    (q : Asked ws (λ r. Prints r text work before after) told_counted before after k) where
  pub exported_round : {list list' : List ℕ} {j : ℕ} → k < 2 * past_counts → Told (ReadsPages text (take k after) list list') told_counted j
      → length (pairs_of b (verdict text)) ≤ length list → (j ≡ length (pairs_of b (verdict text))) × (list' ≡ over (pairs_of b (verdict text)) list)
  exported_round {list} {list'} {j} l r room =
      let t = q.answers h.0 h.1 in
      let P : Prints h.0 text work before after (Count k) = subst (Prints h.0 text work before after) (count_told t.0 k (sym t.2) l) t.1 in
      let d = print_read work h.2 P r.1 room in
      (r.2 ∙ ap told_counted d.0, d.1)
