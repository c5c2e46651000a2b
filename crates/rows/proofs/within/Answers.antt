-- `within` looks for a bit past column n in each row below n, and then in the rows from n on. The loop's invariant: there is none in the rows
-- below i. The measure is the rows left. It rests on `rows_of` and `rows_in`. Assumes nothing.
use mathlib.Core.Path.{◌≡◌}
use mathlib.Core.List.{List}
use Prim.Native.Nat.{ℕ, ◌≤◌, ◌<◌, ◌+◌, ◌*◌}
use native.Mathlib.Decide.{dec_lt}
use native.Mathlib.Omega.{arith}
use borrow.Author.Tests.{eqb-true, eq-eqb}
use borrow.Author.Count.{below_more}
use lib.ListN.{length}
use Rattle.k2.specs.Bits.{bit_at}
use Rattle.bits.specs.BitSets.{Gap, Next}
use Rattle.rows.specs.RowSets.{RowsOf}
use Rattle.rows.proofs.PutLaws.{rows_of, rows_in}
use Rattle.rows.proofs.within.Goals as goal

pub returns-then-next-end : goal.returns-then-next-end
returns-then-next-end c =
    let a = c.args in
    let l = c.loop-i in
    let r = c.next.result in
    let x = c.next.ensures in
    let nl : a.n ≤ 1024 = omega arith in
    let long : length a.rows.now ≡ 16384 = omega arith in (
      λ e. let z : ◌≡◌ {A = ℕ} 0 1 = cc in absurd (omega arith),
      λ o.
          let w = rows_in a.n a.rows.now nl long o r (x.hit c.if-next-end.true) in
          absurd (omega (arith, w.1, x.low, c.if-next-end.true)),
    )

pub loop-i-preserved : goal.loop-i-preserved
loop-i-preserved c =
    let l = c.loop-i in
    let a = c.args in
    let x = c.next.ensures in
    below_more (λ (j : ℕ). Gap (bit_at a.rows.now) (j * 1024 + a.n) (j * 1024 + 1024))
    l.i l.invariant (λ k p q. x.gap k p (omega (arith, c.if-next-end.false)))

-- no bit is found exactly if there is none
last : (n r : ℕ) (ws : List ℕ) → n ≤ 1024 → length ws ≡ 16384 → Next (bit_at ws) (n * 1024) 1048576 r → RowsOf n ws → r ≡ 1048576
last n r ws nl long x o = go (dec_lt r 1048576)
  where
    go : Dec (r < 1048576) → r ≡ 1048576
    go (yes h) = let w = rows_in n ws nl long o r (x.hit h) in absurd (omega (arith, w.0, x.low))
    go (no h) = omega (arith, x.high)

pub returns : goal.returns
returns c =
    let l = c.loop-i in
    let a = c.args in
    let x = c.next-2.ensures in
    let nl : a.n ≤ 1024 = omega arith in
    let long : length a.rows.now ≡ 16384 = omega arith in (
      λ e.
          let r : c.next-2.result ≡ 1048576 = eqb-true _ _ e in
          rows_of a.n a.rows.now nl long (λ i h. l.invariant i (omega arith)) (λ k p q. x.gap k p (omega arith)),
      λ o. eq-eqb _ _ (last a.n c.next-2.result a.rows.now nl long x o),
    )
