-- `register::words::has_mark` looks at the mark of words that are a register's. Assumes nothing.
use mathlib.Core.Path.{ap, ◌∙◌}
use Prim.Native.Nat.{ℕ}
use lib.Dec.{eqb}
use Rattle.register.specs.WordLaws.{keeps_mark, of_kept}
use Rattle.register.proofs.KeepLaws.{of_others}
use Rattle.register.proofs.words.has_mark.Goals as goal

pub returns-then-not-is_register : goal.returns-then-not-is_register
returns-then-not-is_register c = of_others c.is_register.ensures c.if-not-is_register.true

pub returns : goal.returns
returns c =
    let k = (c.is_register.ensures.sure c.if-not-is_register.false).1 in
    of_kept k (ap (λ (m : ℕ). eqb m c.args.mark) (c.mark_in.ensures ∙ keeps_mark k _))
