-- A withdrawn record has no ends (`ends_none`); else the tables are those of the expression's automaton, and the records listed are those seen in a final
-- state (`ends_seen`).
use Rattle.std.proofs.Common.{◌≡◌, refl, [], length, arith, rules}
use Rattle.rows.specs.RowLaws.{length-places}
use Rattle.paths.specs.Chains.{asked}
use Rattle.arcs.specs.SpanLaws.{inside, asked_size, spans, used, out_of_use}
use Rattle.tables.specs.Builds.{in_sense}
use Rattle.rows.specs.Rows.{places}
use Rattle.ends.specs.Listing.{meets}
use Rattle.answers.specs.ListingLaws.{shown_none}
use Rattle.ends.proofs.AskLaws.{ends_none, ends_seen}
use Rattle.ends.proofs.sought.Goals as goal

pub returns-then-marks-x-eq-WITHDRAWN_MARK : goal.returns-then-marks-x-eq-WITHDRAWN_MARK
returns-then-marks-x-eq-WITHDRAWN_MARK c =
    let a = c.args in
    let p = c.requires in (
      [],
      refl,
      omega arith,
      shown_none _,
      λ text e L q self b R T. ends_none a.against R e a.x (out_of_use R T a.x p.inside c.if-marks-x-eq-WITHDRAWN_MARK.true),
    )

pub returns : goal.returns
returns c =
    let a = c.args in
    let p = c.requires in
    let T = c.tables_of-tables in
    let S = c.reached-seen in
    let f = c.list.ensures in
    let long : length T.result.pred ≡ 64 = search rules in (
      places (meets S.result T.result.accepting) (length a.marks.now),
      f.0,
      omega (arith, f.0, length-places (meets S.result T.result.accepting) (length a.marks.now), p.few),
      f.1,
      λ text e L q self b R N.
          ends_seen a.against (asked b) (inside R) e (asked_size R N)
          (S.ensures (asked b) (in_sense a.against e) T.result.pred T.result.accepting (asked_size R N) (inside R)
          (spans R N p.few) long (T.ensures text e L q) (used R N a.x p.inside c.if-marks-x-eq-WITHDRAWN_MARK.false)),
    )
