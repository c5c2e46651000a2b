-- `pairs` reads the text; a refused one gives its number, the code of an accepted one is run. Assumes nothing.
use native.Mathlib.Omega.{arith}
use mathlib.Core.Path.{◌≡◌, sym, ◌∙◌, subst}
use lib.ListN.{length}
use Rattle.paths.specs.Grammar.{Verdict}
use Rattle.paths.specs.Questions.{by_trees}
use Rattle.query.specs.Asking.{AsksFor}
use Rattle.query.proofs.AskingLaws.{asks_faulty}
use Rattle.query.proofs.EvaluationLaws.{read_coded}
use borrow.Author.Rules.{rules}
use Rattle.pairs.proofs.pairs.Goals as goal

pub of_code-requires : goal.of_code-requires
of_code-requires c =
    let q = read_coded c.read-reading.ensures c.in-Accepted.is in
    let l : length c.read-reading.result.code ≡ 256 = search rules in
    (omega (arith, l, q.3), (c.args.text.now, q.0, q.2))

pub returns-in-Refused : goal.returns-in-Refused
returns-in-Refused c =
    asks_faulty by_trees _ _ _ _ _ (sym c.read-reading.ensures.answered ∙ c.in-Refused.is)

pub returns-in-Accepted : goal.returns-in-Accepted
returns-in-Accepted c =
    let a = c.args in
    let q = read_coded c.read-reading.ensures c.in-Accepted.is in
    let m = c.of_code in
    subst (λ (v : Verdict). AsksFor by_trees a.register v (length a.work.now) a.list.now m.new.list m.result) (sym q.1)
    (m.ensures a.text.now q.0 q.2)
