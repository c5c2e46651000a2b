-- The bits are the first records, one more in each turn (`members_more`). Assumes nothing.
use Rattle.std.proofs.Common.{arith, ◌∙◌, refl}
use Rattle.book.proofs.ListLaws.{at_in}
use Rattle.k2.specs.Bits.{bit_at}
use Rattle.bits.specs.BitSetLaws.{bits_none}
use Rattle.rowpairs.proofs.MemberLaws.{members_none, members_more}
use Rattle.rowpairs.proofs.leaving.record_row.Goals as goal

pub loop-i-init : goal.loop-i-init
loop-i-init c = record { inside = omega arith; row_long = refl; members = members_none _ (bits_none 16) }

pub set_bit-requires : goal.set_bit-requires
set_bit-requires c =
    omega (arith, c.loop-i.invariant.row_long, c.requires _ (at_in c.args.records.now c.loop-i.i 0 (omega arith)))

pub loop-i-preserved : goal.loop-i-preserved
loop-i-preserved c = record {
  inside = omega arith;
  row_long = c.set_bit.auto.words ∙ c.loop-i.invariant.row_long;
  members = members_more c.args.records.now c.loop-i.i (bit_at c.loop-i.row) _ (omega arith) c.set_bit.ensures c.loop-i.invariant.members;
}
