-- `register::history::lists_fit` meets its contract. The loop's invariant: what is left, and 1,024 for each closing up so far, is the
-- length. The measure is the words left. Assumes nothing.
use mathlib.Core.Path.{◌≡◌, sym, ap}
use mathlib.Core.List.{List}
use Prim.Native.Nat.{ℕ, ◌+◌, ◌*◌, ◌<◌}
use native.Mathlib.Omega.{arith}
use borrow.Author.Tests.{le-leb, lt-leb}
use lib.ListN.{length as size, take}
use lib.Seq.{take_all}
use Rattle.book.specs.Basics.{tally}
use Rattle.register.specs.History.{calls_of, closings}
use Rattle.register.proofs.ReplayLaws.{closings_turn, closings_part}
use Rattle.register.proofs.history.lists_fit.Goals as goal

pub loop-i-init : goal.loop-i-init
unfolding calls_of tally
loop-i-init c = record { inside = omega arith; stand = omega arith }

pub returns-then-left-need : goal.returns-then-left-need
returns-then-left-need c =
    let l = c.loop-i in
    let ws = c.args.words.now in
    let h : l.i < size ws = c.loop-i-test.true in
    sym (lt-leb (1024 * closings (calls_of ws)) c.args.length
    (omega (arith, l.invariant.stand, c.list_words-need.ensures, closings_turn ws l.i h, closings_part ws (l.i + 1))))

pub loop-i-preserved : goal.loop-i-preserved
loop-i-preserved c =
    let l = c.loop-i in
    let ws = c.args.words.now in
    let h : l.i < size ws = c.loop-i-test.true in
    record {
      inside = omega arith;
      stand = omega (arith, l.invariant.stand, c.list_words-need.ensures, closings_turn ws l.i h, c.if-left-need.false);
    }

pub returns : goal.returns
returns c =
    let l = c.loop-i in
    let ws = c.args.words.now in
    let e : closings (calls_of (take l.i ws)) ≡ closings (calls_of ws) = ap (λ (k : List ℕ). closings (calls_of k)) (take_all l.i ws (omega arith)) in
    sym (le-leb (1024 * closings (calls_of ws)) c.args.length (omega (arith, l.invariant.stand, e)))
