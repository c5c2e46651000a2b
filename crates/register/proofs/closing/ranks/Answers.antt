-- `register::closing::ranks` meets its contract. The loop's invariant: the ranks of all numbers up to i stand. The measure is the marks left. Assumes nothing.
use mathlib.Core.Path.{◌≡◌, refl, sym, ap, ◌∙◌}
use Prim.Native.Nat.{suc}
use native.Mathlib.Omega.{arith}
use lib.ListN.{length-set, replicate}
use Rattle.book.specs.Book.{rank}
use Rattle.book.proofs.RankLaws.{rank_le}
use Rattle.register.specs.Closing.{in_use, new_of}
use Rattle.register.proofs.ClosingLaws.{ranked_more, rank_in_use, rank_withdrawn}
use Rattle.register.proofs.closing.ranks.Goals as goal
use Rattle.register.proofs.closing.ranks.Goals.{then-marks-i-ne-WITHDRAWN_MARK, else-marks-i-ne-WITHDRAWN_MARK}

pub loop-i-init : goal.loop-i-init
unfolding rank
loop-i-init c = record {
  inside = omega arith;
  long = refl;
  stand = λ x h. let e : x ≡ 0 = omega arith in ap (new_of (replicate 1025 0)) e ∙ ap (rank (in_use c.args.marks.now)) (sym e);
}

pub overflow_add-next : goal.overflow_add-next
overflow_add-next c =
    omega (arith, c.requires, c.loop-i.invariant.stand c.loop-i.i (omega arith), rank_le (in_use c.args.marks.now) c.loop-i.i)

pub loop-i-preserved : goal.loop-i-preserved
loop-i-preserved c =
    let l = c.loop-i in
    let ms = c.args.marks.now in
    let e : new_of l.ranks l.i ≡ rank (in_use ms) l.i = l.invariant.stand l.i (omega arith) in
    let n : c.if-marks-i-ne-WITHDRAWN_MARK.next ≡ rank (in_use ms) (suc l.i) =
    elim c.if-marks-i-ne-WITHDRAWN_MARK.branch [
      | then-marks-i-ne-WITHDRAWN_MARK w ↦ w.next-is ∙ omega (arith, e, rank_in_use ms l.i w.if-marks-i-ne-WITHDRAWN_MARK.true)
      | else-marks-i-ne-WITHDRAWN_MARK w ↦ w.next-is ∙ e ∙ sym (rank_withdrawn ms l.i w.if-marks-i-ne-WITHDRAWN_MARK.false)
    ] in
    record {
      inside = omega arith;
      long = simp length-set l.invariant.long;
      stand = ranked_more ms l.ranks l.i c.if-marks-i-ne-WITHDRAWN_MARK.next (omega (arith, l.invariant.long, c.requires)) n l.invariant.stand;
    }

pub returns : goal.returns
returns c = let l = c.loop-i in λ x h. l.invariant.stand x (omega (arith, c.requires))
