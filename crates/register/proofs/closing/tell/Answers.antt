-- `register::closing::tell` meets its contract. The loop's invariant: the numbers of the first i records stand, and then what stood there. The measure is the
-- records left. Assumes nothing.
use mathlib.Core.Path.{◌≡◌, refl, sym, ap, ◌∙◌}
use mathlib.Core.List.{◌++◌}
use mathlib.Core.Bool.{Bool, not}
use Prim.Native.Nat.{ℕ}
use native.Mathlib.Omega.{arith}
use lib.ListN.{drop, get_or}
use borrow.Author.Tests.{eq-eqb, ne_eqb}
use Rattle.book.specs.Basics.{pick}
use Rattle.book.specs.Book.{rank, no_number, new_numbers}
use Rattle.book.proofs.RankLaws.{rank_le}
use Rattle.register.specs.Marks.{withdrawn_mark}
use Rattle.register.specs.Closing.{in_use}
use Rattle.register.proofs.ClosingLaws.{told_more, told_all}
use Rattle.register.proofs.closing.tell.Goals as goal
use Rattle.register.proofs.closing.tell.Goals.{then-marks-i-ne-WITHDRAWN_MARK, else-marks-i-ne-WITHDRAWN_MARK}

pub loop-i-init : goal.loop-i-init
unfolding new_numbers
loop-i-init c = record { inside = omega arith; stand = refl }

pub overflow_cast-number : goal.overflow_cast-number
overflow_cast-number c =
    let a = c.args in
    let i = c.loop-i.i in
    let p = c.requires in
    omega (arith, p.1 i (omega (arith, p.3)), rank_le (in_use a.marks.now) i, p.3)

pub loop-i-preserved : goal.loop-i-preserved
loop-i-preserved c =
    let l = c.loop-i in
    let a = c.args in
    let p = c.requires in
    let ms = a.marks.now in
    let n : c.if-marks-i-ne-WITHDRAWN_MARK.number ≡ pick (in_use ms l.i) (rank (in_use ms) l.i) no_number =
    elim c.if-marks-i-ne-WITHDRAWN_MARK.branch [
      | then-marks-i-ne-WITHDRAWN_MARK w ↦ w.number-is ∙ p.1 l.i (omega (arith, p.3))
          ∙ ap (λ (t : Bool). pick (not t) (rank (in_use ms) l.i) no_number) (sym (ne_eqb (get_or ms l.i 0) withdrawn_mark w.if-marks-i-ne-WITHDRAWN_MARK.true))
      | else-marks-i-ne-WITHDRAWN_MARK w ↦ w.number-is
          ∙ ap (λ (t : Bool). pick (not t) (rank (in_use ms) l.i) no_number)
          (sym (eq-eqb (get_or ms l.i 0) withdrawn_mark w.if-marks-i-ne-WITHDRAWN_MARK.false))
    ] in
    record {
      inside = omega arith;
      stand = told_more ms a.numbers.now l.numbers l.i c.if-marks-i-ne-WITHDRAWN_MARK.number l.invariant.stand (omega (arith, p.4)) n;
    }

pub returns : goal.returns
returns c =
    let l = c.loop-i in
    let a = c.args in
    let e : l.i ≡ a.n = omega arith in
    l.invariant.stand ∙ ap (λ (k : ℕ). new_numbers (in_use a.marks.now) k ++ drop k a.numbers.now) e ∙ told_all a.marks.now a.numbers.now a.n
