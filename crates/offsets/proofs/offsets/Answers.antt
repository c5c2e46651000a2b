-- What the calls ensure makes what is told (`calls_told`). Assumes nothing.
use Rattle.std.proofs.Common.{◌∙◌}
use Rattle.offsets.proofs.AmongLaws.{calls_told}
use Rattle.offsets.proofs.offsets.Goals as goal

pub returns : goal.returns
returns c =
    let t = c.tell_limits.ensures in
    calls_told c.args.state.now c.size_in-n.result c.args.base c.args.ties.now c.args.work.now c.begin-cause.new.work c.settle-on.new.d
    c.args.list.now c.tell_limits.new.list c.judge-found.result c.begin-cause.result c.rounds_of-rounds.result c.settle-on.result t.0 c.tell_limits.result
    c.size_in-n.ensures c.judge-found.ensures c.begin-cause.ensures c.rounds_of-rounds.ensures c.settle-on.ensures
    (c.settle-on.auto.d ∙ c.begin-cause.auto.work) c.tell_limits.auto.list t.1.0 t.1.1
