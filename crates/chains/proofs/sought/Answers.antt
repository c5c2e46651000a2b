-- From or to a withdrawn record there is no chain; else the tables are those of the expression's automaton, and the search's promise is over any such tables
-- and links.
use Rattle.std.proofs.Common.{refl}
use Rattle.paths.specs.Chains.{asked}
use Rattle.arcs.specs.SpanLaws.{inside, asked_size, spans, used, out_of_use}
use Rattle.search.specs.Steps.{none}
use Rattle.chains.proofs.ReplyLaws.{withdrawn_from, withdrawn_to}
use Rattle.chains.proofs.sought.Goals as goal

pub returns-then-marks-from-eq-WITHDRAWN_MARK : goal.returns-then-marks-from-eq-WITHDRAWN_MARK
returns-then-marks-from-eq-WITHDRAWN_MARK c =
    let a = c.args in
    let p = c.requires in
    (none refl, λ text e L q self b R T. withdrawn_from b e _ _ a.list.now (out_of_use R T a.from p.from_in c.if-marks-from-eq-WITHDRAWN_MARK.true))

pub returns-then-marks-to-eq-WITHDRAWN_MARK : goal.returns-then-marks-to-eq-WITHDRAWN_MARK
returns-then-marks-to-eq-WITHDRAWN_MARK c =
    let a = c.args in
    let p = c.requires in
    (none refl, λ text e L q self b R T. withdrawn_to b e _ _ a.list.now (out_of_use R T a.to p.to_in c.if-marks-to-eq-WITHDRAWN_MARK.true))

pub returns : goal.returns
returns c =
    let a = c.args in
    let p = c.requires in
    let f = c.first_chain.ensures in (
      f.0,
      λ text e L q self b R T.
          f.1 (asked b) e (asked_size R T) (inside R) (spans R T p.few) (c.tables_of-tables.ensures text e L q)
          (used R T a.from p.from_in c.if-marks-from-eq-WITHDRAWN_MARK.false)
          (used R T a.to p.to_in c.if-marks-to-eq-WITHDRAWN_MARK.false),
    )
