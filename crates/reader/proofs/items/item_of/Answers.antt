-- Its tests are those of the definition.
use Rattle.std.proofs.Common.{eq-eqb, ne_eqb, lt-ltb, le-ltb}
use Rattle.reader.specs.Code.{item_of}
use Rattle.reader.proofs.items.item_of.Goals as goal

pub returns-then-number-eq-INVERSE : goal.returns-then-number-eq-INVERSE
unfolding item_of
returns-then-number-eq-INVERSE c = rw (eq-eqb _ _ c.if-number-eq-INVERSE.true)

pub returns-then-number-eq-STAR : goal.returns-then-number-eq-STAR
unfolding item_of
returns-then-number-eq-STAR c = rw (ne_eqb _ _ c.if-number-eq-INVERSE.false, eq-eqb _ _ c.if-number-eq-STAR.true)

pub returns-then-number-eq-PLUS : goal.returns-then-number-eq-PLUS
unfolding item_of
returns-then-number-eq-PLUS c = rw (ne_eqb _ _ c.if-number-eq-INVERSE.false, ne_eqb _ _ c.if-number-eq-STAR.false, eq-eqb _ _ c.if-number-eq-PLUS.true)

pub returns-then-number-eq-OPTIONAL : goal.returns-then-number-eq-OPTIONAL
unfolding item_of
returns-then-number-eq-OPTIONAL c =
    rw (
      ne_eqb _ _ c.if-number-eq-INVERSE.false,
      ne_eqb _ _ c.if-number-eq-STAR.false,
      ne_eqb _ _ c.if-number-eq-PLUS.false,
      eq-eqb _ _ c.if-number-eq-OPTIONAL.true,
    )

pub returns-then-number-eq-ALTERNATIVE : goal.returns-then-number-eq-ALTERNATIVE
unfolding item_of
returns-then-number-eq-ALTERNATIVE c =
    rw (
      ne_eqb _ _ c.if-number-eq-INVERSE.false,
      ne_eqb _ _ c.if-number-eq-STAR.false,
      ne_eqb _ _ c.if-number-eq-PLUS.false,
      ne_eqb _ _ c.if-number-eq-OPTIONAL.false,
      eq-eqb _ _ c.if-number-eq-ALTERNATIVE.true,
    )

pub returns-then-number-lt-FIRST_LETTERS : goal.returns-then-number-lt-FIRST_LETTERS
unfolding item_of
returns-then-number-lt-FIRST_LETTERS c =
    rw (
      ne_eqb _ _ c.if-number-eq-INVERSE.false,
      ne_eqb _ _ c.if-number-eq-STAR.false,
      ne_eqb _ _ c.if-number-eq-PLUS.false,
      ne_eqb _ _ c.if-number-eq-OPTIONAL.false,
      ne_eqb _ _ c.if-number-eq-ALTERNATIVE.false,
      lt-ltb _ _ c.if-number-lt-FIRST_LETTERS.true,
    )

pub returns : goal.returns
unfolding item_of
returns c = rw (
  ne_eqb _ _ c.if-number-eq-INVERSE.false,
  ne_eqb _ _ c.if-number-eq-STAR.false,
  ne_eqb _ _ c.if-number-eq-PLUS.false,
  ne_eqb _ _ c.if-number-eq-OPTIONAL.false,
  ne_eqb _ _ c.if-number-eq-ALTERNATIVE.false,
  le-ltb _ _ c.if-number-lt-FIRST_LETTERS.false,
)
