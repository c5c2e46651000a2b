-- A number that is none gives the other, else the lesser. Assumes nothing.
use Rattle.offsets.proofs.NumberLaws.{sooner_none, sooner_alone, sooner_second, sooner_first}
use Rattle.offsets.proofs.sooner.Goals as goal

pub returns-then-a-eq0 : goal.returns-then-a-eq0
returns-then-a-eq0 c = sooner_none c.args.a c.args.b c.if-a-eq0.true

pub returns-then-b-eq0 : goal.returns-then-b-eq0
returns-then-b-eq0 c = sooner_alone c.args.a c.args.b c.if-a-eq0.false c.if-b-eq0.true

pub returns-then-b-a : goal.returns-then-b-a
returns-then-b-a c = sooner_second c.args.a c.args.b c.if-a-eq0.false c.if-b-eq0.false c.if-b-a.true

pub returns : goal.returns
returns c = sooner_first c.args.a c.args.b c.if-a-eq0.false c.if-b-eq0.false c.if-b-a.false
