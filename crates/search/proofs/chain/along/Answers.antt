-- What the two passes leave is the answer (AnswerLaws).
use Rattle.std.proofs.Common.{refl, ℕ}
use Rattle.std.proofs.Math.ListN.{length-replicate}
use Rattle.k2.specs.BitLaws.{zeros_at}
use Rattle.search.specs.Steps.{written, none, too_long}
use Rattle.search.proofs.AnswerLaws.{answered_none, reached, answered_short, answered_first}
use Rattle.search.proofs.chain.along.Goals as goal

pub backward-number-requires : goal.backward-number-requires
backward-number-requires c =
    let p = c.requires in (
      p.few,
      record {
        tables = record { rows_long = p.predecessors_long; enter_long = p.tables.enter_long };
        between = p.between;
        seen_long = length-replicate {A = ℕ} 1024 0;
        none_seen = zeros_at 1024;
      },
    )

pub returns-then-number-eq0 : goal.returns-then-number-eq0
returns-then-number-eq0 c = (none refl, λ g e S ux uy. answered_none g e (c.backward-number.ensures g _ _ S) c.if-number-eq0.true)

pub returns-then-out-steps : goal.returns-then-out-steps
returns-then-out-steps c =
    let x = c.requires.between.from_below in
    (too_long refl, λ g e S ux uy. answered_short g e _ (reached g e (c.backward-number.ensures g _ _ S) c.if-number-eq0.false) x ux uy c.if-out-steps.true)

pub returns : goal.returns
returns c =
    let f = c.forward.ensures in (
      written c.if-out-steps.false f.rest,
      λ g e S ux uy. answered_first g e _ (reached g e (c.backward-number.ensures g _ _ S) c.if-number-eq0.false) c.requires.between.from_below ux uy S f,
    )
