-- A refused text gives its number, too little work 12; else the code of the text is run, and its value is left. Assumes nothing.
use Rattle.std.proofs.Common.{arith, ◌≡◌, ◌≤◌, ◌<◌, ◌∙◌, sym, ℕ, length, length-take-le, subst}
use Rattle.query.proofs.EvaluationLaws.{read_coded}
use Rattle.rowpairs.proofs.AnswerLaws.{enough_work}
use Rattle.paths.specs.Questions.{by_trees, pairs_work}
use Rattle.query.proofs.AskingLaws.{leaves_faulty, leaves_short, leaves_made}
use Rattle.rowpairs.specs.Evaluation.{Held}
use Rattle.rowpairs.proofs.leaving.leave.Goals as goal

pub returns-then-work-pairs_work : goal.returns-then-work-pairs_work
returns-then-work-pairs_work c =
    let q = read_coded c.read-reading.ensures c.in-Accepted.is in (
      leaves_short _ _ _ _ q.0 q.1 c.args.n (λ b R. R.size)
          (subst (λ (i : ℕ). length c.args.work.now < i) c.pairs_work.ensures c.if-work-pairs_work.true),
      λ k e. absurd (let z : ◌≡◌ {A = ℕ} 0 1 = cc in omega arith),
    )

pub slice_bounds-code-end : goal.slice_bounds-code-end
slice_bounds-code-end c = let q = read_coded c.read-reading.ensures c.in-Accepted.is in omega (arith, q.3)

pub slice_bounds-leave_value-end : goal.slice_bounds-leave_value-end
slice_bounds-leave_value-end c =
    let q = read_coded c.read-reading.ensures c.in-Accepted.is in
    let k : c.in-Accepted.len ≤ length c.read-reading.result.code = omega (arith, q.3) in
    omega (arith, length-take-le c.in-Accepted.len c.read-reading.result.code k)

pub leave_value-requires : goal.leave_value-requires
leave_value-requires c =
    let P = c.requires in
    let q = read_coded c.read-reading.ensures c.in-Accepted.is in
    let enough : pairs_work c.args.n ≤ length c.args.work.now =
    subst (λ (i : ℕ). i ≤ length c.args.work.now) c.pairs_work.ensures (omega (arith, c.if-work-pairs_work.false)) in (
      record { small = P.0; marked = P.1; coded = (c.args.text.now, q.0, q.2) },
      enough_work by_trees _ _ enough,
      P.2,
    )

pub returns-in-Refused : goal.returns-in-Refused
returns-in-Refused c = (
  leaves_faulty _ _ _ _ _ (sym c.read-reading.ensures.answered ∙ c.in-Refused.is),
  λ k e. absurd (let z : ◌≡◌ {A = ℕ} 0 1 = cc in omega arith),
)

pub returns-else-work-pairs_work : goal.returns-else-work-pairs_work
returns-else-work-pairs_work c =
    let q = read_coded c.read-reading.ensures c.in-Accepted.is in
    let enough : pairs_work c.args.n ≤ length c.args.work.now =
    subst (λ (i : ℕ). i ≤ length c.args.work.now) c.pairs_work.ensures (omega (arith, c.if-work-pairs_work.false)) in
    let n = c.args.n in (
      leaves_made _ _ _ _ q.0 q.1 n (λ b R. R.size) enough
          (λ b R. c.leave_value.ensures.value b R _ q.0 q.2),
      λ k e.
          let z : n ≡ k = cc in (
            sym z,
            subst (λ (i : ℕ). Held i (length c.args.work.now)) z
                (record { small = c.requires.0; front = (enough_work by_trees _ _ enough).front }),
          ),
    )
