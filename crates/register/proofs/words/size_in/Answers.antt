-- `register::words::size_in` reads n of words that are a register's. Assumes nothing.
use native.Mathlib.Omega.{arith}
use Rattle.register.specs.WordLaws.{keeps_number, keeps_sized, of_kept}
use Rattle.register.proofs.KeepLaws.{of_others}
use Rattle.register.proofs.words.size_in.Goals as goal

pub returns-then-not-is_register : goal.returns-then-not-is_register
returns-then-not-is_register c = (omega arith, of_others c.is_register.ensures c.if-not-is_register.true)

pub overflow_cast-result : goal.overflow_cast-result
overflow_cast-result c =
    let k = (c.is_register.ensures.sure c.if-not-is_register.false).1 in omega (arith, keeps_number k 0 (omega arith), k.ranged.size)

pub returns : goal.returns
returns c =
    let k = (c.is_register.ensures.sure c.if-not-is_register.false).1 in
    let e = keeps_number k 0 (omega arith) in
    (omega (arith, e, k.ranged.size), of_kept k (rw e (keeps_sized k)))
