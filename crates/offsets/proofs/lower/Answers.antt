-- At each way out, the law of `proofs/LowerLaws.antt` for it. Assumes nothing.
use Rattle.std.proofs.Common.{arith}
use Rattle.offsets.proofs.LowerLaws.{no_from, no_to, too_low, too_high, stored, stayed}
use Rattle.offsets.proofs.lower.Goals as goal

pub returns-then-from-d : goal.returns-then-from-d
returns-then-from-d c = no_from c.args.from c.args.to c.args.w c.args.d.now c.args.was c.if-from-d.true

pub returns-then-to-d : goal.returns-then-to-d
returns-then-to-d c = no_to c.args.from c.args.to c.args.w c.args.d.now c.args.was c.if-from-d.false c.if-to-d.true

pub returns-then-a-lt-LOW : goal.returns-then-a-lt-LOW
returns-then-a-lt-LOW c = too_low c.args.from c.args.to c.args.w c.args.d.now c.args.was c.if-from-d.false c.if-to-d.false (omega arith) c.if-a-lt-LOW.true

pub returns-then-a-ge-FAR : goal.returns-then-a-ge-FAR
returns-then-a-ge-FAR c = too_high c.args.from c.args.to c.args.w c.args.d.now c.args.was c.if-from-d.false c.if-to-d.false (omega arith) c.if-a-ge-FAR.true

pub returns-then-v-b : goal.returns-then-v-b
returns-then-v-b c =
    stored c.args.from c.args.to c.args.w c.args.d.now c.args.was c.if-from-d.false c.if-to-d.false
    (omega arith) c.if-a-lt-LOW.false c.if-a-ge-FAR.false c.requires (omega arith) c.if-v-b.true

pub returns : goal.returns
returns c = stayed c.args.from c.args.to c.args.w c.args.d.now c.args.was c.if-from-d.false c.if-to-d.false
    (omega arith) c.if-a-lt-LOW.false c.if-a-ge-FAR.false c.requires (omega arith) c.if-v-b.false
