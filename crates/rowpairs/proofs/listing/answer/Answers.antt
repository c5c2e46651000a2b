-- A refused text gives its number, too little work 12; else the code of the text is run, and its pairs are listed. The engine is told by the work that it
-- needs. Assumes nothing.
use Rattle.std.proofs.Common.{arith, ◌≤◌, ◌<◌, ◌∙◌, sym, ℕ, length, length-take-le, subst}
use Rattle.query.proofs.EvaluationLaws.{read_coded}
use Rattle.rowpairs.proofs.AnswerLaws.{enough_work}
use Rattle.query.proofs.AskingLaws.{asks_faulty, asks_short, asks_pairs}
use Rattle.rowpairs.proofs.listing.answer.Goals as goal

pub returns-then-work-need : goal.returns-then-work-need
returns-then-work-need c =
    λ d e r R.
    let q = read_coded c.read-reading.ensures c.in-Accepted.is in
    asks_short d r _ _ q.0 q.1 c.args.n (λ b S. (R b S).size) (subst (λ (i : ℕ). length c.args.work.now < i) e c.if-work-need.true)

pub slice_bounds-code-end : goal.slice_bounds-code-end
slice_bounds-code-end c = let q = read_coded c.read-reading.ensures c.in-Accepted.is in omega (arith, q.3)

pub slice_bounds-list_value-end : goal.slice_bounds-list_value-end
slice_bounds-list_value-end c =
    let q = read_coded c.read-reading.ensures c.in-Accepted.is in
    let k : c.in-Accepted.len ≤ length c.read-reading.result.code = omega (arith, q.3) in
    omega (arith, length-take-le c.in-Accepted.len c.read-reading.result.code k)

pub list_value-requires : goal.list_value-requires
list_value-requires c =
    let P = c.requires in
    let q = read_coded c.read-reading.ensures c.in-Accepted.is in (
      record { small = P.few; marked = P.marked; coded = (c.args.text.now, q.0, q.2) },
      enough_work P.needed.0 _ _ (omega (arith, c.if-work-need.false, P.needed.1)),
      P.few_links,
    )

pub returns-in-Refused : goal.returns-in-Refused
returns-in-Refused c = λ d e r R. asks_faulty d r _ _ _ _ (sym c.read-reading.ensures.answered ∙ c.in-Refused.is)

pub returns-else-work-need : goal.returns-else-work-need
returns-else-work-need c =
    λ d e r R.
    let q = read_coded c.read-reading.ensures c.in-Accepted.is in
    let v = c.list_value.ensures in
    asks_pairs d r _ _ q.0 q.1 c.args.n (λ b S. (R b S).size) (omega (arith, c.if-work-need.false, e))
    v.all _ _ v.total v.few v.written (λ b S. v.value b (R b S) _ q.0 q.2)
