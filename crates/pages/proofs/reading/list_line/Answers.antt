-- `list_line`: a head has no pairs, a pair line those of its cells. Assumes nothing.
use mathlib.Core.Path.{◌≡◌, ap, sym, ◌∙◌}
use native.Mathlib.Omega.{arith}
use lib.ListN.{length, take}
use Rattle.answers.specs.WrittenLaws.{wrote_none, wrote_as}
use Rattle.pages.specs.Lines.{words_at}
use Rattle.pages.specs.ReadLaws.{words_head, words_pairs}
use Rattle.pages.proofs.reading.list_line.Goals as goal

pub returns-then-i-eq0 : goal.returns-then-i-eq0
returns-then-i-eq0 c =
    wrote_as (sym (words_head c.args.pages.now c.args.i c.if-i-eq0.true)) (wrote_none c.args.at c.args.list.now (omega (arith, c.requires.1)))

pub copy_u32-requires : goal.copy_u32-requires
copy_u32-requires c =
    let q = c.cells_at-count in
    let e : take q.result q.new.words ≡ words_at c.args.pages.now c.args.i =
    q.ensures.1 ∙ sym (words_pairs c.args.pages.now c.args.i (omega (arith, c.if-i-eq0.false))) in
    omega (arith, c.requires.1, ap length e)

pub returns : goal.returns
returns c =
    let q = c.cells_at-count in
    let e : take q.result q.new.words ≡ words_at c.args.pages.now c.args.i =
    q.ensures.1 ∙ sym (words_pairs c.args.pages.now c.args.i (omega (arith, c.if-i-eq0.false))) in
    wrote_as e c.copy_u32.ensures
