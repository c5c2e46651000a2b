-- `four` reads four bits, and inverted exchanges the second and the third (`four_plain`, `four_inverted`). Assumes nothing.
use Rattle.k2.specs.BitLaws.{bit_lt}
use Rattle.k2.specs.Bits.{bit_at}
use Rattle.packing.proofs.LoadLaws.{four_plain, four_inverted}
use Rattle.packing.proofs.loading.Reading.four.Goals as goal

pub returns-in-Plain : goal.returns-in-Plain
returns-in-Plain g c =
    let ws = c.args.self.now.tree.now in
    rw c.in-Plain.is (four_plain (bit_at ws) (bit_lt ws) c.args.b c.four-v.result c.four-v.ensures)

pub returns-in-Inverted : goal.returns-in-Inverted
returns-in-Inverted g c =
    let ws = c.args.self.now.tree.now in
    rw c.in-Inverted.is (four_inverted (bit_at ws) (bit_lt ws) c.args.b c.four-v.result c.four-v.ensures)
