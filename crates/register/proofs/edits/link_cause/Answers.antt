-- `register::edits::link_cause` meets its contract: each answer by the tests that led to it. Assumes nothing.
use borrow.Author.Tests.{le-leb, lt-leb, eq-eqb, ne_eqb}
use Rattle.book.specs.Causes.{number, first_number}
use Rattle.register.specs.Inner.{link_causes}
use Rattle.register.proofs.edits.link_cause.Goals as goal

pub returns-then-n-from : goal.returns-then-n-from
unfolding link_causes first_number number
returns-then-n-from c = rw (le-leb _ _ c.if-n-from.true)

pub returns-then-n-to : goal.returns-then-n-to
unfolding link_causes first_number number
returns-then-n-to c = rw (lt-leb _ _ c.if-n-from.false, le-leb _ _ c.if-n-to.true)

pub returns-then-marks-from-eq-WITHDRAWN_MARK : goal.returns-then-marks-from-eq-WITHDRAWN_MARK
unfolding link_causes first_number number
returns-then-marks-from-eq-WITHDRAWN_MARK c = rw (lt-leb _ _ c.if-n-from.false, lt-leb _ _ c.if-n-to.false, eq-eqb _ _ c.if-marks-from-eq-WITHDRAWN_MARK.true)

pub returns-then-marks-to-eq-WITHDRAWN_MARK : goal.returns-then-marks-to-eq-WITHDRAWN_MARK
unfolding link_causes first_number number
returns-then-marks-to-eq-WITHDRAWN_MARK c =
    rw (
      lt-leb _ _ c.if-n-from.false,
      lt-leb _ _ c.if-n-to.false,
      ne_eqb _ _ c.if-marks-from-eq-WITHDRAWN_MARK.false,
      eq-eqb _ _ c.if-marks-to-eq-WITHDRAWN_MARK.true,
    )

pub returns-then-label-ge-LABELS : goal.returns-then-label-ge-LABELS
unfolding link_causes first_number number
returns-then-label-ge-LABELS c =
    rw (
      lt-leb _ _ c.if-n-from.false,
      lt-leb _ _ c.if-n-to.false,
      ne_eqb _ _ c.if-marks-from-eq-WITHDRAWN_MARK.false,
      ne_eqb _ _ c.if-marks-to-eq-WITHDRAWN_MARK.false,
      le-leb _ _ c.if-label-ge-LABELS.true,
    )

pub returns-then-marks-from-eq-LOCK_MARK : goal.returns-then-marks-from-eq-LOCK_MARK
unfolding link_causes first_number number
returns-then-marks-from-eq-LOCK_MARK c =
    rw (
      lt-leb _ _ c.if-n-from.false,
      lt-leb _ _ c.if-n-to.false,
      ne_eqb _ _ c.if-marks-from-eq-WITHDRAWN_MARK.false,
      ne_eqb _ _ c.if-marks-to-eq-WITHDRAWN_MARK.false,
      lt-leb _ _ c.if-label-ge-LABELS.false,
      eq-eqb _ _ c.if-marks-from-eq-LOCK_MARK.true,
    )

pub returns-then-marks-to-eq-LOCK_MARK : goal.returns-then-marks-to-eq-LOCK_MARK
unfolding link_causes first_number number
returns-then-marks-to-eq-LOCK_MARK c =
    rw (
      lt-leb _ _ c.if-n-from.false,
      lt-leb _ _ c.if-n-to.false,
      ne_eqb _ _ c.if-marks-from-eq-WITHDRAWN_MARK.false,
      ne_eqb _ _ c.if-marks-to-eq-WITHDRAWN_MARK.false,
      lt-leb _ _ c.if-label-ge-LABELS.false,
      ne_eqb _ _ c.if-marks-from-eq-LOCK_MARK.false,
      eq-eqb _ _ c.if-marks-to-eq-LOCK_MARK.true,
    )

pub returns : goal.returns
unfolding link_causes first_number number
returns c = rw (
  lt-leb _ _ c.if-n-from.false,
  lt-leb _ _ c.if-n-to.false,
  ne_eqb _ _ c.if-marks-from-eq-WITHDRAWN_MARK.false,
  ne_eqb _ _ c.if-marks-to-eq-WITHDRAWN_MARK.false,
  lt-leb _ _ c.if-label-ge-LABELS.false,
  ne_eqb _ _ c.if-marks-from-eq-LOCK_MARK.false,
  ne_eqb _ _ c.if-marks-to-eq-LOCK_MARK.false,
)
