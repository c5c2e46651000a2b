-- `put_record`: the number, and a blank. Assumes nothing.
use native.Mathlib.Omega.{arith}
use Rattle.answers.specs.WrittenLaws.{wrote_then}
use Rattle.pages.specs.Pages.{record_cell}
use Rattle.pages.specs.LineLaws.{record_figures, length_right}
use Rattle.pages.proofs.printing.put_record.Goals as goal

pub put_right-next-requires : goal.put_right-next-requires
put_right-next-requires c = (record_figures c.args.x c.requires.0, omega (arith, c.requires.1))

pub put_byte-requires : goal.put_byte-requires
put_byte-requires c =
    let p = c.put_right-next in
    omega (arith, p.ensures.place, p.auto.out, length_right 5 c.args.x (record_figures c.args.x c.requires.0), c.requires.1)

pub returns : goal.returns
unfolding record_cell
returns c = wrote_then c.put_right-next.ensures c.put_byte.ensures
