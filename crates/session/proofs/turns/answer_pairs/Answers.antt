-- `session::answer_pairs` asks the engine on rows for up to 32 records, that on trees above. Assumes nothing.
use native.Mathlib.Omega.{arith}
use mathlib.Core.Path.{refl}
use borrow.Author.Tests.{le-leb, lt-leb}
use Rattle.paths.specs.Questions.{by_trees, by_rows}
use Rattle.session.specs.Program.{engine_for}
use Rattle.session.specs.Listing.{engine_answers}
use Rattle.session.proofs.turns.answer_pairs.Goals as goal

pub returns-then-size-le-ROW_RECORDS : goal.returns-then-size-le-ROW_RECORDS
unfolding engine_for
returns-then-size-le-ROW_RECORDS c =
    engine_answers by_rows c.size.ensures (rw (le-leb _ _ c.if-size-le-ROW_RECORDS.true) refl) c.pairs_by_rows.ensures

pub returns : goal.returns
unfolding engine_for
returns c =
    engine_answers by_trees c.size.ensures (rw (lt-leb c.size.result 32 (omega (arith, c.if-size-le-ROW_RECORDS.false))) refl)
    c.pairs.ensures
