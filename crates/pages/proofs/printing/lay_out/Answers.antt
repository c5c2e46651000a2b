-- `lay_out`: as many lines as the relation's pairs take, if there is room. Assumes nothing.
use mathlib.Core.List.{List}
use mathlib.Core.Path.{◌≡◌, refl, ap, sym, ◌∙◌}
use Prim.Native.Nat.{ℕ, ◌*◌, ◌≤◌}
use native.Mathlib.Omega.{arith}
use lib.ListN.{length}
use Rattle.pages.specs.Pages.{pages}
use Rattle.pages.specs.Lines.{held, pairs_held, lines_of}
use Rattle.pages.specs.LineLaws.{lines_most}
use Rattle.answers.specs.AnswerLaws.{whole_refused, whole_given}
use Rattle.pages.proofs.LayoutLaws.{all_few, all_length, count_held}
use Rattle.pages.proofs.printing.lay_out.Goals as goal

-- so many lines, and as many bytes as the pages have
long : (text cells masks : List ℕ) (n count lines : ℕ) → n ≤ 1024 → count ≡ length (pairs_held (held cells masks n)) → lines ≡ lines_of count
    → (lines ≡ lines_of (length (pairs_held (held cells masks n))))
    × (lines_of (length (pairs_held (held cells masks n))) ≤ 177726)
    × (length (pages text (pairs_held (held cells masks n))) ≡ 73 * lines)
long text cells masks n count lines h k z =
    let f = held cells masks n in
    let e : lines ≡ lines_of (length (pairs_held f)) = z ∙ ap lines_of k in
    (e, lines_most (length (pairs_held f)) (all_few f), all_length f text ∙ ap (λ (m : ℕ). 73 * m) (sym e))

pub lines_of-lines-requires : goal.lines_of-lines-requires
lines_of-lines-requires c =
    omega (
      arith,
      c.count_pairs.ensures ∙ count_held c.args.cells.now c.args.masks.now c.args.n c.requires.0.small,
      all_few (held c.args.cells.now c.args.masks.now c.args.n),
    )

pub overflow_mul-lines : goal.overflow_mul-lines
overflow_mul-lines c =
    let l = long c.args.text.now c.args.cells.now c.args.masks.now c.args.n _ _ c.requires.0.small
    (c.count_pairs.ensures ∙ count_held c.args.cells.now c.args.masks.now c.args.n c.requires.0.small) c.lines_of-lines.ensures in
    omega (arith, l.0, l.1)

pub returns-then-out-lines : goal.returns-then-out-lines
returns-then-out-lines c =
    let l = long c.args.text.now c.args.cells.now c.args.masks.now c.args.n _ _ c.requires.0.small
    (c.count_pairs.ensures ∙ count_held c.args.cells.now c.args.masks.now c.args.n c.requires.0.small) c.lines_of-lines.ensures in
    whole_refused _ _ _ (omega (arith, l.2, c.if-out-lines.true)) refl

pub put_pages-requires : goal.put_pages-requires
put_pages-requires c =
    let l = long c.args.text.now c.args.cells.now c.args.masks.now c.args.n _ _ c.requires.0.small
    (c.count_pairs.ensures ∙ count_held c.args.cells.now c.args.masks.now c.args.n c.requires.0.small) c.lines_of-lines.ensures in
    record { all = l.0; fits = omega (arith, c.if-out-lines.false); few = c.requires.0.small; masked = c.requires.1 }

pub returns : goal.returns
returns c =
    let l = long c.args.text.now c.args.cells.now c.args.masks.now c.args.n _ _ c.requires.0.small
    (c.count_pairs.ensures ∙ count_held c.args.cells.now c.args.masks.now c.args.n c.requires.0.small) c.lines_of-lines.ensures in
    whole_given (pages c.args.text.now (pairs_held (held c.args.cells.now c.args.masks.now c.args.n))) _ _ _ (sym l.2)
    (omega (arith, l.2, c.if-out-lines.false)) c.put_pages.ensures
