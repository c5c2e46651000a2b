-- Refused as the relation is, with 12 for too few rows, or spread and counted. Assumes nothing.
use Rattle.std.proofs.Common.{arith, ◌≡◌, ◌≤◌, ◌∙◌, length, length-take-le}
use Rattle.rowpairs.proofs.StepLaws.{list_space}
use Rattle.rowpairs.proofs.RelationLaws.{rows_refused, rows_few, rows_made}
use Rattle.rowpairs.proofs.leaving.relation.Goals as goal

pub returns-then-rows-lt-ROW_WORDS : goal.returns-then-rows-lt-ROW_WORDS
returns-then-rows-lt-ROW_WORDS c = rows_few c.relate-related.ensures _ c.in-Count.is c.if-rows-lt-ROW_WORDS.true

pub row_width-requires : goal.row_width-requires
row_width-requires c = (c.relate-related.ensures.held _ c.in-Count.is).small

pub spread-requires : goal.spread-requires
spread-requires c =
    let h = c.relate-related.ensures.held _ c.in-Count.is in
    let m = c.relate-related.ensures.masks in (
      list_space c.in-Count.n _ _ _ c.row_width.ensures h (omega (arith, h.small, m)),
      length-take-le 16384 c.args.rows.now (omega (arith, c.if-rows-lt-ROW_WORDS.false)),
    )

pub returns-in-Refused : goal.returns-in-Refused
returns-in-Refused c = rows_refused c.relate-related.ensures _ c.in-Refused.is

pub returns-else-rows-lt-ROW_WORDS : goal.returns-else-rows-lt-ROW_WORDS
returns-else-rows-lt-ROW_WORDS c =
    let rows = c.args.rows.now in
    let h = c.relate-related.ensures.held _ c.in-Count.is in
    let wide : 16384 ≤ length rows = omega (arith, c.if-rows-lt-ROW_WORDS.false) in
    let k : length c.spread.new.rows ≡ 16384 = c.spread.auto.rows ∙ length-take-le 16384 rows wide in
    rows_made c.relate-related.ensures rows c.in-Count.is _ _ c.spread.new.rows c.row_width.ensures h.small wide k c.spread.ensures c.count_pairs.ensures
