-- `of_code` tests its work, reads the register's links and marks and runs the code into rows, whose pairs it counts and lists. Assumes nothing.
use native.Mathlib.Omega.{arith}
use mathlib.Core.Path.{refl, sym, subst}
use mathlib.Core.List.{List}
use Prim.Native.Nat.{ℕ, ◌≤◌, ◌<◌}
use lib.ListN.{length, take}
use Rattle.book.specs.Book.{Book}
use Rattle.k2.specs.Bits.{bit_at}
use Rattle.paths.specs.Questions.{by_trees}
use Rattle.register.specs.Representation.{Represents}
use Rattle.rows.specs.RowSets.{pairs_in}
use Rattle.query.specs.Evaluation.{Lettered}
use Rattle.query.proofs.AskingLaws.{asks_short, asks_pairs}
use Rattle.query.proofs.LetterLaws.{read_lettered}
use Rattle.pairs.proofs.AnswerLaws.{pairs_few, pairs_rows}
use Rattle.pairs.proofs.of_code.Goals as goal

pub returns-then-work-pairs_work : goal.returns-then-work-pairs_work
returns-then-work-pairs_work c =
    λ s e q. asks_short by_trees c.args.register _ _ e refl c.size-n.result c.size-n.ensures.size
    (subst (λ (i : ℕ). length c.args.work.now < i) c.pairs_work.ensures c.if-work-pairs_work.true)

pub returns : goal.returns
returns c =
    let n = c.size-n in
    let a = c.args in
    let m = c.run in
    let k = c.links-links in
    let rows : List ℕ = m.new.rows in
    let lettered : (b : Book) → Represents a.register b → Lettered b n.result (take k.result.count k.result.words) (bit_at c.in_use-used.result) =
    λ b R. subst (λ (u : ℕ → ℕ). Lettered b n.result (take k.result.count k.result.words) u)
    (sym c.in_use-used.ensures) (read_lettered c.marks-marks.ensures b R n.ensures k.ensures) in
    λ s e q. asks_pairs by_trees a.register _ _ e refl n.result n.ensures.size
    (subst (λ (i : ℕ). i ≤ length a.work.now) c.pairs_work.ensures (omega (arith, c.if-work-pairs_work.false)))
    (pairs_in n.result rows) _ _ c.count_pairs-total.ensures (pairs_few n.result rows n.ensures.small)
    c.write_pairs.ensures
    (λ b R. let L = lettered b R in pairs_rows b n.result _ _ e rows L (m.ensures b L s e q))
