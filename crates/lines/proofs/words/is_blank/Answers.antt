-- test by test. Assumes nothing.
use borrow.Author.Tests.{eq-eqb, ne_eqb}
use Rattle.lines.specs.Typed.{blank}
use Rattle.lines.proofs.words.is_blank.Goals as goal

pub returns-then-c-eq32 : goal.returns-then-c-eq32
unfolding blank
returns-then-c-eq32 c = rw (eq-eqb c.args.c 32 c.if-c-eq32.true)

pub returns-then-c-eq9 : goal.returns-then-c-eq9
unfolding blank
returns-then-c-eq9 c = rw (ne_eqb c.args.c 32 c.if-c-eq32.false, eq-eqb c.args.c 9 c.if-c-eq9.true)

pub returns : goal.returns
unfolding blank
returns c = rw (ne_eqb c.args.c 32 c.if-c-eq32.false, ne_eqb c.args.c 9 c.if-c-eq9.false)
