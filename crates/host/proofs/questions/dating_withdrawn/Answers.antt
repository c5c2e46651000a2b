-- `host::questions::dating_withdrawn` tells by a bit whether the record has the mark of a withdrawn one. Assumes nothing.
use Rattle.register.specs.Marks.{withdrawn_mark}
use Rattle.register.specs.WordLaws.{keeps_withdrawal}
use Rattle.host.proofs.CarryLaws.{mark_told}
use Rattle.host.proofs.questions.dating_withdrawn.Goals as goal

pub returns : goal.returns
returns c = let x = c.args.«record» in mark_told withdrawn_mark x c.has_mark.result (λ r w. keeps_withdrawal w x) c.has_mark.ensures
