-- The arcs that count are the crossings of use, along which `along` searches: few of them where there are few links.
use Rattle.std.proofs.Common.{◌≡◌, ◌∙◌, ℕ, ◌*◌, ◌-◌, length, take, arith}
use Rattle.std.proofs.Math.ListN.{length-replicate}
use Rattle.arcs.specs.ArcLaws.{crossings_take}
use Rattle.arcs.specs.Arcs.{Crossings}
use Rattle.search.proofs.AnswerLaws.{setting}
use Rattle.search.proofs.chain.first_chain.Goals as goal

pub returns-then-links-le-FEW_LINKS : goal.returns-then-links-le-FEW_LINKS
returns-then-links-le-FEW_LINKS c =
    let p = c.requires in
    let a = c.arcs_of-count in
    let long : length a.new.arcs ≡ 1024 = a.auto.arcs ∙ length-replicate {A = ℕ} 1024 0 in
    let part : a.result - 0 ≡ a.result = omega arith in
    let crossed : Crossings c.args.links.now c.args.enter.now (2 * length c.args.links.now)
    (take (a.result - 0) a.new.arcs) (length (take (a.result - 0) a.new.arcs))
    = rw part (crossings_take a.new.arcs a.result (omega (arith, long, a.ensures.0, c.if-links-le-FEW_LINKS.true)) a.ensures.1) in
    let E = c.along.ensures in
    (E.0, λ g e size I S T ux uy. E.1 g e (setting size I p.between.records S crossed T p.predecessors_long) ux uy)

pub returns : goal.returns
returns c =
    let p = c.requires in
    let a = c.arcs_of-count-2 in
    let long : length a.new.arcs ≡ 8192 = a.auto.arcs ∙ length-replicate {A = ℕ} 8192 0 in
    let part : a.result - 0 ≡ a.result = omega arith in
    let crossed : Crossings c.args.links.now c.args.enter.now (2 * length c.args.links.now)
    (take (a.result - 0) a.new.arcs) (length (take (a.result - 0) a.new.arcs))
    = rw part (crossings_take a.new.arcs a.result (omega (arith, long, a.ensures.0, p.few_links)) a.ensures.1) in
    let E = c.along-2.ensures in
    (E.0, λ g e size I S T ux uy. E.1 g e (setting size I p.between.records S crossed T p.predecessors_long) ux uy)
