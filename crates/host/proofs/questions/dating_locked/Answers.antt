-- `host::questions::dating_locked` tells by a bit whether the record has the mark of a locked one. Assumes nothing.
use Rattle.register.specs.Marks.{lock_mark}
use Rattle.register.specs.WordLaws.{keeps_locking}
use Rattle.host.proofs.CarryLaws.{mark_told}
use Rattle.host.proofs.questions.dating_locked.Goals as goal

pub returns : goal.returns
returns c = let x = c.args.«record» in mark_told lock_mark x c.has_mark.result (λ r w. keeps_locking w x) c.has_mark.ensures
