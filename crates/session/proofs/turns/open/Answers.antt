-- n outside 1 to 64 keeps the session (`kept_turns`), else it begins afresh (`fresh_turns`). Assumes nothing.
use mathlib.Core.Path.{refl}
use Prim.Native.Nat.{◌≤◌}
use native.Mathlib.Omega.{arith}
use Rattle.book.specs.Causes.{number}
use Rattle.session.specs.TurnLaws.{open_none, open_many, open_fine, fresh_fine, kept_turns, fresh_turns}
use Rattle.session.proofs.turns.open.Goals as goal

pub returns-then-n-lt1 : goal.returns-then-n-lt1
unfolding number
returns-then-n-lt1 c =
    let s = c.args in
    let w = c.refuse in
    λ work l. kept_turns s.state work l l s.out.now w.new.out w.result s.n
    (open_none s.n c.if-n-lt1.true) w.ensures.0 refl w.ensures.1

pub returns-then-n-gt-MOST_RECORDS : goal.returns-then-n-gt-MOST_RECORDS
unfolding number
returns-then-n-gt-MOST_RECORDS c =
    let s = c.args in
    let w = c.refuse-then-n-gt-MOST_RECORDS in
    λ work l. kept_turns s.state work l l s.out.now w.new.out w.result s.n
    (open_many s.n (omega arith) (omega arith))
    w.ensures.0 refl w.ensures.1

pub returns : goal.returns
returns c =
    let s = c.args in
    let low : 1 ≤ s.n = omega arith in
    let high : s.n ≤ 64 = omega arith in
    let w = c.put_ok-written in
    λ work l. fresh_turns s.state work l l s.out.now w.new.out _ s.n (open_fine s.n low high)
    high refl (c.open-made.ensures.made (fresh_fine s.n low high)) refl w.ensures
