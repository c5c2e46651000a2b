-- What the register's size, marks and links promise is handed on (`read_of`).
use Rattle.std.proofs.Common.{◌≡◌, ◌-◌, arith}
use Rattle.register.specs.Reads.{read_of}
use Rattle.ends.proofs.list_joined.Goals as goal

pub returns : goal.returns
returns c =
    let Z = c.size-n in
    let L = c.links-links in
    let n : Z.result - 0 ≡ Z.result = omega arith in
    let k : L.result.count - 0 ≡ L.result.count = omega arith in
    c.joined_over.ensures _ (rw (n, k) (read_of Z.ensures c.marks-marks.ensures L.ensures))
