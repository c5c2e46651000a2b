-- The part from its operands on is lent to the operation (`goes_part`). Assumes nothing.
use Rattle.std.proofs.Common.{arith, ◌≤◌, ◌-◌, sym, ℕ, length, suc, subst}
use Rattle.rowpairs.specs.Evaluation.{Lent}
use Rattle.rowpairs.proofs.StepLaws.{goes_part}
use Rattle.rowpairs.proofs.running.step.Goals as goal

pub returns : goal.returns
returns c =
    let a = c.args in
    let e = c.operands_of.ensures in
    let r = c.requires.1 in
    let early : a.count - c.operands_of.result ≤ 18 = omega (arith, e, r.room, r.found) in
    let lent : Lent a.n (suc (a.count - c.operands_of.result)) (length a.cells.now) (length a.masks.now) =
    subst (λ (i : ℕ). Lent a.n (suc (a.count - i)) (length a.cells.now) (length a.masks.now)) (sym e) c.requires.0 in
    goes_part a.n a.links.now a.marks.now a.item a.cells.now c.operate.new.cells a.masks.now c.operate.new.masks
    a.count _ _ c.row_width-w.ensures (omega (arith, e, r.found)) lent early c.operate.ensures
