-- The arcs are the crossings, and what is seen at the end of the search forward are the ends (ReachLaws).
use Rattle.std.proofs.Common.{◌≡◌, ◌∙◌, ℕ, ◌*◌, ◌-◌, length, take, arith}
use Rattle.std.proofs.Math.ListN.{length-replicate}
use Rattle.arcs.specs.ArcLaws.{crossings_take}
use Rattle.arcs.specs.Arcs.{Crossings}
use Rattle.search.proofs.AnswerLaws.{setting}
use Rattle.search.proofs.ReachLaws.{ended}
use Rattle.search.proofs.reach.reached.Goals as goal

pub returns : goal.returns
returns c =
    let p = c.requires in
    let a = c.arcs_of-count in
    let long : length a.new.arcs ≡ 8192 = a.auto.arcs ∙ length-replicate {A = ℕ} 8192 0 in
    let part : a.result - 0 ≡ a.result = omega arith in
    let crossed : Crossings c.args.links.now c.args.enter.now (2 * length c.args.links.now)
    (take (a.result - 0) a.new.arcs) (length (take (a.result - 0) a.new.arcs))
    = rw part (crossings_take a.new.arcs a.result (omega (arith, long, a.ensures.0, p.few_links)) a.ensures.1) in
    λ g e ps f size I S l T u. ended (setting size I p.records S crossed T l) I p.from_below u c.reach.ensures
