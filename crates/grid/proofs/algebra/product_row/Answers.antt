-- `product_row` goes over the columns of row x, word by word. The loops' invariants: the rows of the middle records before the next word, or before the next
-- column of the word, are gathered (`Gathered`). Assumes nothing.
use Rattle.std.proofs.Common.{◌≡◌, ℕ, ◌+◌, ◌*◌, ◌≤◌, ◌<◌, min, sym, ◌∙◌, arith}
use Rattle.grid.specs.Grid.{first_rows}
use Rattle.grid.specs.Steps.{low, cut_row}
use Rattle.grid.proofs.OnesLaws.{begun, went}
use Rattle.grid.proofs.RelationLaws.{rows_apart, row_at}
use Rattle.grid.proofs.ColumnLaws.{uncut_one, gap_words, word_digit, word_gap}
use Rattle.grid.proofs.ProductLaws.{gathered_none, gathered_gap, gathered_more, gathered_all}
use Rattle.grid.proofs.algebra.product_row.Goals as goal
use Rattle.grid.proofs.algebra.product_row.Goals.{In-Some-k}

pub loop-c-init : goal.loop-c-init
loop-c-init c =
    let a = c.args in
    let ws = a.cells.now in
    let ms = a.masks.now in
    let nl : a.n ≤ a.w * 64 = omega arith in
    let xl : a.x < a.n = omega arith in
    let B = begun c.into_iter-c-iterator.ensures.into_iter_gives c.of-c-items.ensures in
    let none = gathered_none a.n a.w a.x ws ms nl xl in
    (B.0, gathered_gap a.n a.w a.x ws ms nl xl 0 _ _ none _ (omega arith) (gap_words a.n a.w a.x ws ms 0 _ B.1.gap))

pub loop-k-init : goal.loop-k-init
loop-k-init c =
    let a = c.args in
    let ws = a.cells.now in
    let ms = a.masks.now in
    let l = c.loop-c in
    let k = c.in-Some.c in
    let nl : a.n ≤ a.w * 64 = omega arith in
    let xl : a.x < a.n = omega arith in
    let S = went c.next.new.self l.invariant.0 c.in-Some.ensures.steps in
    let B = begun c.into_iter-k-iterator.ensures.into_iter_gives c.of-k-items.ensures in
    let e : low l.c-iterator.left * 64 ≡ k * 64 + 0 = omega (arith, S.here) in
    let same = l.invariant.1.below (a.x * a.w + k) (omega (arith, S.inside, rows_apart a.x a.n a.w xl)) in (
      B.0,
      gathered_gap a.n a.w a.x ws ms nl xl (k * 64 + 0) _ _ (rw e at l.invariant.1) _ (omega arith)
          (word_gap a.n a.w a.x ws ms k c.cut-word.result _ S.is_one same c.cut-word.ensures 0 _ (λ j h i. B.1.gap j h (omega arith)) (omega arith)),
    )

pub loop-c-preserved : goal.loop-c-preserved
loop-c-preserved c =
    let a = c.args in
    let ws = a.cells.now in
    let ms = a.masks.now in
    let k = c.in-Some.c in
    let S = went c.next.new.self c.loop-c.invariant.0 c.in-Some.ensures.steps in
    let i = c.loop-k.invariant in
    let h = rw i.0.end_is at c.in-None-k.ensures.steps.1 in
    let e : k * 64 + min (low c.loop-k.k-iterator.left) 64 ≡ (k + 1) * 64 = omega arith in (
      S.left,
      gathered_gap a.n a.w a.x ws ms (omega arith) (omega arith) ((k + 1) * 64) _ _ (rw e at i.1) _ (omega (arith, S.next.low))
          (gap_words a.n a.w a.x ws ms (k + 1) _ S.next.gap),
    )

-- the place found is that of a column of row x
column : (c : In-Some-k) → cut_row c.args.n (first_rows c.args.w c.args.cells.now c.args.masks.now c.args.x) (c.in-Some.c * 64 + c.in-Some-k.k) ≡ 1
column c =
    let a = c.args in
    let xl : a.x < a.n = omega arith in
    let S = went c.next.new.self c.loop-c.invariant.0 c.in-Some.ensures.steps in
    let T = went c.next-in-loop-k.new.self c.loop-k.invariant.0 c.in-Some-k.ensures.steps in
    let same = c.loop-c.invariant.1.below (a.x * a.w + c.in-Some.c) (omega (arith, S.inside, rows_apart a.x a.n a.w xl)) in
    sym (word_digit a.n a.w a.x a.cells.now a.masks.now c.in-Some.c c.cut-word.result _ S.is_one same c.cut-word.ensures c.in-Some-k.k T.inside) ∙ T.is_one

pub merge-requires : goal.merge-requires
merge-requires c =
    let a = c.args in
    let l = c.loop-k in
    let z : ℕ = c.in-Some.c * 64 + c.in-Some-k.k in
    let cells = l.auto.cells ∙ c.loop-c.auto.cells in
    let masks = l.auto.masks ∙ c.loop-c.auto.masks in
    let u = uncut_one a.n _ z (column (goal.at.merge-requires c).In-Some-k) in
    (row_at (a.n + a.n) c.requires.0 cells masks (omega arith), row_at (a.n + z) c.requires.0 cells masks (omega (arith, u.0)))

pub loop-k-preserved : goal.loop-k-preserved
loop-k-preserved c =
    let a = c.args in
    let ws = a.cells.now in
    let ms = a.masks.now in
    let k = c.in-Some.c in
    let j = c.in-Some-k.k in
    let nl : a.n ≤ a.w * 64 = omega arith in
    let xl : a.x < a.n = omega arith in
    let S = went c.next.new.self c.loop-c.invariant.0 c.in-Some.ensures.steps in
    let i = c.loop-k.invariant in
    let T = went c.next-in-loop-k.new.self i.0 c.in-Some-k.ensures.steps in
    let same = c.loop-c.invariant.1.below (a.x * a.w + k) (omega (arith, S.inside, rows_apart a.x a.n a.w xl)) in
    let one = column (goal.at.loop-k-preserved c).In-Some-k in
    let u = uncut_one a.n _ (k * 64 + j) one in
    let e : k * 64 + min (low c.loop-k.k-iterator.left) 64 ≡ k * 64 + j = omega (arith, T.here, T.inside) in
    let f : k * 64 + j + 1 ≡ k * 64 + (j + 1) = omega arith in
    let p : (a.n + a.n) * a.w ≡ a.n * a.w + a.n * a.w = omega arith in
    let N = rw p at (c.merge.ensures (λ q. absurd (omega (arith, u.0)))) in
    let G = gathered_more a.n a.w a.x ws ms nl xl (k * 64 + j) _ _ (rw e at i.1) _ _ one N in (
      T.left,
      gathered_gap a.n a.w a.x ws ms nl xl (k * 64 + (j + 1)) _ _ (rw f at G) _ (omega (arith, T.inside, T.next.low))
          (word_gap a.n a.w a.x ws ms k c.cut-word.result _ S.is_one same c.cut-word.ensures (j + 1) _ (λ y h b. T.next.gap y h (omega arith)) (omega arith)),
    )

pub returns : goal.returns
returns c =
    let a = c.args in
    let i = c.loop-c.invariant in
    let h = rw i.0.end_is at c.in-None.ensures.steps.1 in
    gathered_all a.n a.w a.x a.cells.now a.masks.now (omega arith) (omega arith) _ _ _ (omega arith) i.1
