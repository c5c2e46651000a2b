-- The causes in their order, then the front of the work filled. Assumes nothing.
use Rattle.std.proofs.Common.{arith, ◌≡◌, ◌≤◌, ◌*◌, ◌∙◌, ap, ℕ, length, length-take-le, drop}
use Rattle.offsets.specs.Inner.{sooner}
use Rattle.offsets.proofs.PlanLaws.{base_in, plan_short, plan_made}
use Rattle.offsets.proofs.begin.Goals as goal

-- the number of the base and that of the ties, the sooner of the two
first-is : (found : ℕ) {own first base : ℕ} → own ≡ base → first ≡ sooner own found → first ≡ sooner base found
first-is found e f = f ∙ ap (λ (k : ℕ). sooner k found) e

pub returns-then-work-k : goal.returns-then-work-k
returns-then-work-k c = (
  _,
  (
    c.open_number-refused.ensures,
    plan_short (record { refused = c.open_number-refused.result; n = c.args.n; marks = c.args.state.now }) c.args.base c.args.found c.args.count c.args.work.now
        c.if-refused-ne0.false _ (first-is c.args.found c.base_number-own.ensures c.sooner-first.ensures) c.if-first-ne0.false c.if-work-k.true,
  ),
)

pub fill-requires : goal.fill-requires
fill-requires c =
    let h : c.args.n * 3 ≤ length c.args.work.now = omega (arith, c.if-work-k.false) in (
      length-take-le (c.args.n * 3) c.args.work.now h,
      (
        omega arith,
        base_in (record {
          refused = c.open_number-refused.result;
          n = c.args.n;
          marks =
              c.args.state.now;
        }) c.args.base c.args.found c.args.count c.args.work.now
            c.if-refused-ne0.false _ (first-is c.args.found c.base_number-own.ensures c.sooner-first.ensures) c.if-first-ne0.false,
      ),
    )

pub returns : goal.returns
returns c = (
  _,
  (
    c.open_number-refused.ensures,
    plan_made (record { refused = c.open_number-refused.result; n = c.args.n; marks = c.args.state.now }) c.args.base c.args.found c.args.count c.args.work.now
        c.if-refused-ne0.false _ (first-is c.args.found c.base_number-own.ensures c.sooner-first.ensures) c.if-first-ne0.false
        c.if-work-k.false c.fill.new.d (drop (c.args.n * 3) c.args.work.now) c.fill.ensures,
  ),
)
