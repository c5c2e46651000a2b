-- `register::words::is_register` looks at the length, the counters and the marks in turn. Assumes nothing.
use native.Mathlib.Omega.{arith}
use Rattle.register.specs.WordLaws.{keeps_formed}
use Rattle.register.proofs.KeepLaws.{tested_not, formed_by}
use Rattle.register.proofs.words.is_register.Goals as goal

pub returns-then-words-lt-STATE_WORDS : goal.returns-then-words-lt-STATE_WORDS
returns-then-words-lt-STATE_WORDS c = tested_not (λ k. omega (arith, (keeps_formed _ k).long, c.if-words-lt-STATE_WORDS.true))

pub returns-then-words-gt-MOST_SIZE : goal.returns-then-words-gt-MOST_SIZE
returns-then-words-gt-MOST_SIZE c = tested_not (λ k. omega (arith, (keeps_formed _ k).ranged.size, c.if-words-gt-MOST_SIZE.true))

pub returns-then-not-ranged : goal.returns-then-not-ranged
returns-then-not-ranged c = tested_not (λ k. c.ranged.ensures.none c.if-not-ranged.true (keeps_formed _ k).ranged)

pub returns : goal.returns
returns c =
    formed_by c.args.words.now c.marked.result c.if-words-lt-STATE_WORDS.false (c.ranged.ensures.sure c.if-not-ranged.false) c.marked.ensures
