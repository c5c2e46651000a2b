-- What the register's size, marks and links promise is handed on (`read_of`). Assumes nothing.
use Rattle.std.proofs.Common.{arith, ◌≡◌, ◌-◌}
use Rattle.register.specs.Reads.{read_of}
use Rattle.rowpairs.proofs.listing.pairs_by_rows.Goals as goal

pub returns : goal.returns
returns c =
    let n : c.size-n.result - 0 ≡ c.size-n.result = omega arith in
    let k : c.links-links.result.count - 0 ≡ c.links-links.result.count = omega arith in
    c.pairs_over.ensures _ (rw (n, k) (read_of c.size-n.ensures c.marks-marks.ensures c.links-links.ensures))
