-- `is_pair_line`: the line is laid beside the pages (`wrote_line`), and compared. Assumes nothing.
use mathlib.Core.Path.{◌≡◌, sym, ◌∙◌}
use native.Mathlib.Omega.{arith}
use lib.ListN.{take}
use lib.Seq.{length-take-le}
use Rattle.pages.specs.Pages.{pair_line}
use Rattle.pages.specs.LineLaws.{length_pair_line}
use Rattle.pages.proofs.WritingLaws.{small_take, wrote_whole}
use Rattle.pages.proofs.reading.is_pair_line.Goals as goal

pub returns : goal.returns
returns c =
    let a = c.args in
    let p = c.requires in
    let q = c.put_pair_line in
    let e : q.new.out ≡ pair_line (take a.count a.words.now) =
    wrote_whole q.auto.out (length_pair_line (take a.count a.words.now)
    (small_take a.words.now a.count p.there p.small)
    (omega (arith, p.few, length-take-le a.count a.words.now p.there))) q.ensures in
    let r = c.same_line.ensures in
    (λ t. r.0 t ∙ e, λ t. r.1 (t ∙ sym e))
