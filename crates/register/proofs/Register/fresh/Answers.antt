-- `register::Register::fresh` meets its contract, by the tests of n. Assumes nothing.
use borrow.Author.Tests.{lt-ltb, le-ltb}
use Rattle.book.specs.Causes.{number, first_number}
use Rattle.book.specs.Book.{fresh_answer}
use Rattle.register.proofs.StepLaws.{opens, not_opens}
use Rattle.register.proofs.Register.fresh.Goals as goal

pub returns-then-n-lt1 : goal.returns-then-n-lt1
unfolding fresh_answer first_number number
returns-then-n-lt1 c = not_opens c.args.n (rw (lt-ltb _ 1 c.if-n-lt1.true)) c.empty.ensures

pub returns-then-n-gt-MAX_RECORDS : goal.returns-then-n-gt-MAX_RECORDS
unfolding fresh_answer first_number number
returns-then-n-gt-MAX_RECORDS c =
    not_opens c.args.n (rw (le-ltb _ 1 c.if-n-lt1.false, lt-ltb 1024 _ c.if-n-gt-MAX_RECORDS.true)) c.empty-then-n-gt-MAX_RECORDS.ensures

pub returns : goal.returns
unfolding fresh_answer first_number number
returns c =
    opens c.args.n (rw (le-ltb _ 1 c.if-n-lt1.false, le-ltb 1024 _ c.if-n-gt-MAX_RECORDS.false)) c.empty-2.ensures
