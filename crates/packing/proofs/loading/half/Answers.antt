-- `half` is a power of two (`half_law`). Assumes nothing.
use Rattle.std.proofs.Common.{◌≡◌, ◌-◌, ◌*◌, ◌%◌, ◌^◌, arith}
use Rattle.std.proofs.lemmas.Nat.{one_shl}
use Rattle.packing.proofs.LoadLaws.{half_law}
use Rattle.packing.proofs.loading.half.Goals as goal

pub returns : goal.returns
returns c =
    let h = c.args.h in
    let e : (1 * 2 ^ (h - 1)) % 2 ^ 32 ≡ 2 ^ (h - 1) = one_shl (h - 1) 32 (omega arith) in
    let l = half_law h c.requires.0 in
    (e, rw e l.0, rw e l.1)
