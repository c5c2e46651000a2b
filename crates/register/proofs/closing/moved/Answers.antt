-- `register::closing::moved` meets its contract. The loop's invariant: the locks of the first i records stand at their new numbers. The measure is the records
-- left. Assumes nothing.
use mathlib.Core.Path.{◌≡◌, refl, sym, ap, subst, ◌∙◌}
use Prim.Native.Nat.{ℕ, ◌+◌, ◌<◌}
use native.Mathlib.Omega.{arith}
use lib.ListN.{length, get_or, replicate, length-set, get_or-replicate, get_or-eq_default}
use native.Mathlib.Decide.{dec_lt}
use Rattle.register.specs.Marks.{free_mark}
use Rattle.register.specs.Closing.{Moved}
use Rattle.register.proofs.ClosingLaws.{moved_none, moved_other, moved_lock}
use Rattle.register.proofs.closing.moved.Goals as goal
use Rattle.register.proofs.closing.moved.Goals.{then-marks-i-eq-LOCK_MARK, else-marks-i-eq-LOCK_MARK}

-- a fresh array has no lock
none : (y : ℕ) → get_or (replicate 1024 0) y free_mark ≡ free_mark
none y = go (dec_lt y 1024)
  where
    go : Dec (y < 1024) → get_or (replicate 1024 0) y free_mark ≡ free_mark
    go (yes h) = get_or-replicate 1024 y 0 0 h
    go (no h) = get_or-eq_default (replicate 1024 0) 0 {n = y} (omega arith)

pub loop-i-init : goal.loop-i-init
loop-i-init c = record { inside = omega arith; long = refl; stand = moved_none c.args.marks.now c.args.ranks.now (replicate 1024 0) none }

pub loop-i-preserved : goal.loop-i-preserved
loop-i-preserved c =
    let l = c.loop-i in
    let a = c.args in
    let p = c.requires in
    elim c.if-marks-i-eq-LOCK_MARK.branch [
      | then-marks-i-eq-LOCK_MARK w ↦ record {
        inside = omega arith;
        long = ap length w.moved-is ∙ simp length-set l.invariant.long;
        stand = subst (Moved a.marks.now a.ranks.now (l.i + 1)) (sym w.moved-is)
            (moved_lock a.marks.now a.ranks.now l.moved l.i l.invariant.stand
            w.if-marks-i-eq-LOCK_MARK.true (omega (arith, l.invariant.long, p.2.below l.i (omega (arith, p.1)))));
      }
      | else-marks-i-eq-LOCK_MARK w ↦ record {
        inside = omega arith;
        long = ap length w.moved-is ∙ l.invariant.long;
        stand = subst (Moved a.marks.now a.ranks.now (l.i + 1)) (sym w.moved-is)
            (moved_other a.marks.now a.ranks.now l.moved l.i l.invariant.stand w.if-marks-i-eq-LOCK_MARK.false);
      }
    ]

pub returns : goal.returns
returns c =
    let l = c.loop-i in
    let a = c.args in
    let e : l.i ≡ a.n = omega arith in
    subst (λ (k : ℕ). Moved a.marks.now a.ranks.now k l.moved) e l.invariant.stand
