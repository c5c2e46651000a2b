-- The tables keep their lengths, and what is still to be run leaves the expression's part alone. The measure is what is left of the code.
use Rattle.std.proofs.Common.{◌≡◌, List, ℕ, ◌≤◌, length, drop}
use Rattle.paths.specs.Expressions.{Expr}
use Rattle.paths.specs.Verdicts.{InLimits}
use Rattle.reader.specs.Code.{code, value}
use Rattle.tables.specs.Builds.{parts, build, Next}
use Rattle.tables.proofs.built.Given as goal

abbrev pub invariant-loop-i : goal.invariant-loop-i
invariant-loop-i l =
    record {
      inside : l.i ≤ length l.numbers;
      follow_long : length l.follow ≡ 64;
      pred_long : length l.pred ≡ 64;
      enter_long : length l.enter ≡ 64;
      next_of : (text : List ℕ) (e : Expr) → InLimits text e → l.numbers ≡ code e
          → Next (build l.follow l.pred l.enter l.s) (drop l.i l.numbers) (value parts e);
    }
