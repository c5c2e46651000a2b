-- `register::Register::close_up` meets its contract: the refusals by `closes_foreign` and `closes_refused` with the tests that led to them, and acceptance by
-- `closes_accepted` with what the inner functions promise. Assumes nothing.
use mathlib.Core.Path.{◌≡◌, refl, sym, ◌∙◌}
use Prim.Native.Nat.{◌≤◌}
use native.Mathlib.Omega.{arith}
use borrow.Author.Rules.{rules}
use lib.ListN.{length, get_or}
use Rattle.book.specs.Causes.{none_in_use, short_list, number}
use Rattle.book.specs.Book.{rank}
use Rattle.book.proofs.RankLaws.{rank_le}
use Rattle.register.specs.Counters.{InRange}
use Rattle.register.specs.Closing.{in_use, Small}
use Rattle.register.proofs.StepLaws.{outside, inside}
use Rattle.register.proofs.ClosingLaws.{ranked_small, links_closed, close_none, close_short, closes_refused, closes_foreign, closes_accepted}
use Rattle.register.proofs.Register.close_up.Goals as goal
use Rattle.register.proofs.Register.close_up.Goals.{Start, Else-not-ranged, After-ranks-ranks}

pub returns-then-not-ranged : goal.returns-then-not-ranged
returns-then-not-ranged c = closes_foreign c.args.self c.args.numbers.now (outside c.args.self _ c.ranged.ensures c.if-not-ranged.true)

in_range : (c : Else-not-ranged) → InRange c.args.self
in_range c = inside c.args.self c.ranged.result c.ranged.ensures c.if-not-ranged.false

-- what the ranks say of all records
left_is : (c : After-ranks-ranks) → get_or c.ranks-ranks.result c.args.self.n 0 ≡ rank (in_use c.args.self.marks) c.args.self.n
left_is c = c.ranks-ranks.ensures c.args.self.n (inside c.args.self c.ranged.result c.ranged.ensures c.if-not-ranged.false).size

ranks_long : (c : After-ranks-ranks) → 1024 ≤ length c.ranks-ranks.result
ranks_long c = search rules

ranks_small : (c : After-ranks-ranks) → Small c.ranks-ranks.result
ranks_small c = ranked_small c.args.self.marks c.ranks-ranks.result (ranks_long c) c.ranks-ranks.ensures

marks_long : (c : Start) → length c.args.self.marks ≡ 1024
marks_long c = search rules

links_long : (c : Start) → length c.args.self.links ≡ 4096
links_long c = search rules

pub returns-then-left-eq0 : goal.returns-then-left-eq0
unfolding number
returns-then-left-eq0 c =
    let d = (goal.at.returns-then-left-eq0 c).After-ranks-ranks in
    let r = (goal.at.returns-then-left-eq0 c).Else-not-ranged in
    closes_refused c.args.self 20 c.args.numbers.now (in_range r)
    (none_in_use, refl) (λ b h. close_none h _ (sym (left_is d) ∙ c.if-left-eq0.true))

pub returns-then-numbers-n : goal.returns-then-numbers-n
unfolding number
returns-then-numbers-n c =
    let d = (goal.at.returns-then-numbers-n c).After-ranks-ranks in
    let r = (goal.at.returns-then-numbers-n c).Else-not-ranged in
    closes_refused c.args.self 12 c.args.numbers.now (in_range r)
    (short_list, refl) (λ b h. close_short h _ (λ z. c.if-left-eq0.false (left_is d ∙ z)) c.if-numbers-n.true)

pub rename-requires : goal.rename-requires
rename-requires c =
    let w = goal.at.rename-requires c in
    (omega (arith, links_long w.Start, (in_range w.Else-not-ranged).count), ranks_small w.After-ranks-ranks)

pub overflow_cast-result : goal.overflow_cast-result
overflow_cast-result c =
    let w = goal.at.overflow_cast-result c in
    omega (arith, left_is w.After-ranks-ranks, rank_le (in_use c.args.self.marks) c.args.self.n, (in_range w.Else-not-ranged).size)

pub moved-requires : goal.moved-requires
moved-requires c =
    let w = goal.at.moved-requires c in
    (omega (arith, marks_long w.Start, (in_range w.Else-not-ranged).size), (in_range w.Else-not-ranged).size, ranks_small w.After-ranks-ranks)

pub returns : goal.returns
returns c =
    let w = goal.at.returns c in
    let s = c.args.self in
    let rs = c.ranks-ranks in
    closes_accepted s _ c.args.numbers.now _ (in_range w.Else-not-ranged) (λ z. c.if-left-eq0.false (left_is w.After-ranks-ranks ∙ z)) c.if-numbers-n.false
    (record {
      n = left_is w.After-ranks-ranks;
      count = refl;
      links =
          links_closed s.marks rs.result s.links _ s.count rs.ensures
          (omega (arith, links_long w.Start, (in_range w.Else-not-ranged).count)) c.rename.ensures;
      marks = (rs.result, rs.ensures, c.moved.ensures);
      top = refl;
      held = refl;
      totals = refl;
    })
    c.tell.ensures
