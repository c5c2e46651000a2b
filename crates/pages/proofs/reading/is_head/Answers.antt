-- `is_head`: the line is laid beside the pages (`wrote_line`), and compared. Assumes nothing.
use mathlib.Core.Path.{◌≡◌, sym, ◌∙◌}
use Rattle.pages.specs.Pages.{head_line}
use Rattle.pages.specs.LineLaws.{length_head_line}
use Rattle.pages.proofs.WritingLaws.{wrote_whole}
use Rattle.pages.proofs.reading.is_head.Goals as goal

pub returns : goal.returns
returns c =
    let a = c.args in
    let q = c.put_head_line in
    let e : q.new.out ≡ head_line a.text.now a.page =
    wrote_whole q.auto.out (length_head_line a.text.now a.page c.requires.0) q.ensures in
    let r = c.same_line.ensures in
    (λ t. r.0 t ∙ e, λ t. r.1 (t ∙ sym e))
