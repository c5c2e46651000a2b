-- `put_cell`: from, then to. Assumes nothing.
use Prim.Native.Nat.{◌/◌}
use native.Mathlib.Omega.{arith}
use Rattle.answers.specs.WrittenLaws.{wrote_then}
use Rattle.pages.specs.Pages.{pair_cell}
use Rattle.pages.specs.LineLaws.{length_record}
use Rattle.pages.proofs.printing.put_cell.Goals as goal

pub put_record-requires : goal.put_record-requires
put_record-requires c =
    let p = c.put_record-next in
    (omega arith, omega (arith, p.ensures.place, p.auto.out, length_record (c.args.w / 1024) (omega (arith, c.requires.0)), c.requires.1))

pub returns : goal.returns
unfolding pair_cell
returns c = wrote_then c.put_record-next.ensures c.put_record.ensures
