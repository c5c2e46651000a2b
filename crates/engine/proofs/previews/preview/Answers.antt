-- A refused edit by `preview_refused`, an accepted one by `preview_asked`. Assumes nothing.
use Rattle.std.proofs.Common.{◌≡◌, arith}
use Rattle.engine.specs.PreviewLaws.{preview_refused, preview_asked}
use Rattle.engine.proofs.previews.preview.Goals as goal

pub returns-then-number-ne0 : goal.returns-then-number-ne0
returns-then-number-ne0 c =
    let refused : c.number_of-number.result ≡ 0 → ⊥ = λ z. omega arith in
    preview_refused c.apply-outcome.ensures _ _ _ _ c.number_of-number.ensures refused

pub returns : goal.returns
returns c =
    let accepted : c.number_of-number.result ≡ 0 = omega arith in
    preview_asked c.apply-outcome.ensures _ _ _ _ c.number_of-number.ensures accepted c.pairs.ensures
