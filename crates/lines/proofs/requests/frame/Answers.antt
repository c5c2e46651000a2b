-- a line by its length, then by its first byte that is no blank (`typed_long`, `typed_short`, `begun_none`,
-- `begun_comment`, `begun_request`). Assumes nothing.
use mathlib.Core.Path.{◌≡◌, sym, ap, ◌∙◌}
use native.Mathlib.Omega.{arith}
use Rattle.answers.specs.WrittenLaws.{wrote_as, wrote_none}
use Rattle.session.specs.Program.{shape_of}
use Rattle.lines.specs.Typed.{word, rest, argued, begun, typed}
use Rattle.lines.specs.TypedLaws.{requested}
use Rattle.lines.specs.Encoding.{sent}
use Rattle.lines.specs.SaidLaws.{typed_long, typed_short, begun_none, begun_comment, begun_request}
use Rattle.lines.proofs.requests.frame.Goals as goal

pub returns-then-line-gt-MOST_LINE : goal.returns-then-line-gt-MOST_LINE
returns-then-line-gt-MOST_LINE c = wrote_as (ap sent (sym (typed_long c.args.line.now c.if-line-gt-MOST_LINE.true))) c.broken.ensures

pub returns-then-s-eq0 : goal.returns-then-s-eq0
unfolding sent
returns-then-s-eq0 c =
    let line = c.args.line.now in
    let t = c.skip-s.result.now in
    let from-word : typed line ≡ begun t = typed_short line c.if-line-gt-MOST_LINE.false ∙ ap begun (sym c.skip-s.ensures) in
    wrote_as (ap sent (sym (from-word ∙ begun_none t c.if-s-eq0.true))) (wrote_none 0 c.args.out.now (omega arith))

pub returns-then-s-eq35 : goal.returns-then-s-eq35
unfolding sent
returns-then-s-eq35 c =
    let line = c.args.line.now in
    let t = c.skip-s.result.now in
    let from-word : typed line ≡ begun t = typed_short line c.if-line-gt-MOST_LINE.false ∙ ap begun (sym c.skip-s.ensures) in
    wrote_as (ap sent (sym (from-word ∙ begun_comment t c.if-s-eq35.true))) (wrote_none 0 c.args.out.now (omega arith))

pub returns : goal.returns
returns c =
    let line = c.args.line.now in
    let t = c.skip-s.result.now in
    let from-word : typed line ≡ begun t = typed_short line c.if-line-gt-MOST_LINE.false ∙ ap begun (sym c.skip-s.ensures) in
    let q = c.kind_of.result in
    let r = c.rest.result.now in
    let parts : requested (word t) (rest t) ≡ argued (shape_of q) q r = rw (c.kind_of.ensures, c.word.ensures, c.rest.ensures) in
    wrote_as (ap sent (sym (from-word ∙ begun_request t c.if-s-eq0.false c.if-s-eq35.false ∙ parts))) c.request.ensures
