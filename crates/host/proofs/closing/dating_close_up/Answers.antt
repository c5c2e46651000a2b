-- `host::closing::dating_close_up` carries the promise of `engine::close_up` over to words. Assumes nothing.
use Rattle.book.specs.Causes.{number}
use Rattle.host.proofs.CarryLaws.{load_none, load_some, close_foreign, close_kept}
use Rattle.host.proofs.closing.dating_close_up.Goals as goal

pub returns-then-number_of-ne0 : goal.returns-then-number_of-ne0
unfolding number
returns-then-number_of-ne0 c = close_foreign _ _ (load_none c.load-loaded.ensures c.number_of.ensures c.if-number_of-ne0.true)

pub returns : goal.returns
returns c =
    close_kept (load_some c.load-loaded.ensures c.number_of.ensures c.if-number_of-ne0.false) c.close_up.ensures c.keep.ensures
