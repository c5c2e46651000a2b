-- `register::Register::apply_all` meets its contract. The loop's invariant: the first i words were accepted, and led from the register as it was lent to the
-- one that counters and arrays are. The measure is the words left. Assumes nothing.
use Prim.Native.Nat.{ℕ}
use mathlib.Core.Path.{◌≡◌, sym, subst, ◌∙◌}
use mathlib.Core.List.{List}
use native.Mathlib.Omega.{arith}
use borrow.Author.Rules.{rules}
use lib.ListN.{take}
use lib.Seq.{take_all}
use Rattle.register.specs.Inner.{register_of, AsLong, Reached}
use Rattle.register.specs.DraftLaws.{reached_none, reached_next, draft_made, draft_refused}
use Rattle.register.proofs.Register.apply_all.Goals as goal
use Rattle.register.proofs.Register.apply_all.Goals.{Start}

as_long : (c : Start) → let r = c.args.self in AsLong r.links r.marks r.ring r.totals
as_long c = (search rules, search rules, search rules, search rules)

pub loop-i-init : goal.loop-i-init
loop-i-init c = record { inside = omega arith; long = as_long ((goal.at.loop-i-init c).Start); reached = reached_none c.args.self }

pub returns-then-number-ne0 : goal.returns-then-number-ne0
returns-then-number-ne0 c =
    draft_refused c.args.calls.now c.loop-i.i
    c.number_of-number.result c.loop-i.invariant.reached c.loop-i-test.true
    c.edit_word-edited.ensures c.number_of-number.ensures c.if-number-ne0.true

pub loop-i-preserved : goal.loop-i-preserved
loop-i-preserved c =
    let done = c.edit_word-edited in
    let long = c.loop-i.invariant.long in
    record {
      inside = omega arith;
      long = (done.auto.links ∙ long.0, done.auto.marks ∙ long.1, done.auto.ring ∙ long.2, done.auto.totals ∙ long.3);
      reached = reached_next c.args.calls.now c.loop-i.i c.loop-i.invariant.reached c.loop-i-test.true done.ensures
          (sym c.number_of-number.ensures ∙ c.if-number-ne0.false);
    }

pub returns : goal.returns
returns c =
    let ws = c.args.calls.now in
    let k = c.loop-i in
    let a : take k.i ws ≡ ws = take_all k.i ws (omega arith) in
    draft_made (subst (λ (l : List ℕ). Reached c.args.self l (register_of k.counters k.links k.marks k.ring k.totals)) a k.invariant.reached)
