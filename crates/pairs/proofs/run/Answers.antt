-- `run` runs all numbers but the last, and leaves the value of the last in rows. Assumes nothing.
use native.Mathlib.Omega.{arith}
use mathlib.Core.Path.{◌≡◌, sym, ◌∙◌}
use Prim.Native.Nat.{◌≤◌}
use lib.ListN.{length}
use Rattle.pairs.proofs.RunLaws.{coded_some, going_ready, going_ends}
use Rattle.pairs.proofs.run.Goals as goal

pub overflow_sub-code : goal.overflow_sub-code
overflow_sub-code c =
    let a = c.args in
    let h : 1 ≤ length a.code.now = coded_some a.n a.links.now a.used.now _ c.requires.1.2 in
    h

pub bounds-code-code : goal.bounds-code-code
bounds-code-code c =
    let a = c.args in
    let h : 1 ≤ length a.code.now = coded_some a.n a.links.now a.used.now _ c.requires.1.2 in
    omega (arith, h)

pub last-requires : goal.last-requires
last-requires c =
    let a = c.args in
    let h : 1 ≤ length a.code.now = coded_some a.n a.links.now a.used.now _ c.requires.1.2 in
    let P = c.requires in
    let E = c.evaluate-stack in
    let w : length E.new.work ≡ length a.work.now = E.auto.work in
    let r : length E.new.rows ≡ length a.rows.now = E.auto.rows in
    let q = going_ready a.n a.links.now a.used.now _ _ (omega arith) E.ensures (sym c.item_of-item.ensures) in
    (record { few = P.0.few; room = omega (arith, P.0.room); used_long = P.0.used_long; rows_long = r ∙ P.0.rows_long }, q.0, q.1)

pub returns : goal.returns
returns c =
    let a = c.args in
    let h : 1 ≤ length a.code.now = coded_some a.n a.links.now a.used.now _ c.requires.1.2 in
    going_ends a.n a.links.now a.used.now _ h (sym c.item_of-item.ensures)
    c.evaluate-stack.ensures c.last.ensures
