-- `put_head_line`: the bytes of the text that are shown, blanks, the page's number and the line feed (`wrote_head`). Assumes nothing.
use mathlib.Core.Path.{◌≡◌}
use Prim.Native.Nat.{◌+◌, ◌-◌}
use native.Mathlib.Omega.{arith}
use lib.ListN.{length, take, length-replicate}
use lib.Seq.{length-take-le}
use Rattle.report.specs.Report.{space}
use Rattle.pages.specs.LineLaws.{page_figures, length_right}
use Rattle.pages.proofs.WritingLaws.{wrote_head}
use Rattle.pages.proofs.printing.put_head_line.Goals as goal

pub put_right-end-requires : goal.put_right-end-requires
put_right-end-requires c =
    let n = c.shown_bytes-shown in
    let l : length (take n.result c.args.text.now) ≡ n.result = length-take-le n.result c.args.text.now (omega (arith, n.ensures)) in
    let p = c.put_text-end in
    let q = c.put_blanks-end in (
      page_figures c.args.page c.requires.0,
      omega (arith, l, n.ensures, p.ensures.place, p.auto.out, q.ensures.place, q.auto.out, length-replicate (60 - n.result) space, c.requires.1),
    )

pub put_byte-requires : goal.put_byte-requires
put_byte-requires c =
    let n = c.shown_bytes-shown in
    let l : length (take n.result c.args.text.now) ≡ n.result = length-take-le n.result c.args.text.now (omega (arith, n.ensures)) in
    let p = c.put_text-end in
    let q = c.put_blanks-end in
    let r = c.put_right-end in
    omega (
      arith,
      l,
      n.ensures,
      p.ensures.place,
      p.auto.out,
      q.ensures.place,
      q.auto.out,
      length-replicate (60 - n.result) space,
      r.ensures.place,
      r.auto.out,
      length_right 12 (c.args.page + 1) (page_figures c.args.page c.requires.0),
      c.requires.1,
    )

pub returns : goal.returns
returns c =
    wrote_head c.args.text.now c.shown_bytes-shown.result c.args.page c.shown_bytes-shown.ensures c.put_text-end.ensures c.put_blanks-end.ensures
    c.put_right-end.ensures c.put_byte.ensures
