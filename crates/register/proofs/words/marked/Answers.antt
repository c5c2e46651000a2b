-- `register::words::marked` looks at each word. The loop's invariant: ok is whether the words before i are marks. The measure is the words left. Assumes
-- nothing.
use borrow.Author.Count.{below_more}
use mathlib.Core.Bool.{Bool}
use mathlib.Core.List.{List}
use Rattle.register.proofs.KeepLaws.{tested, tested_not, marked_all}
use Prim.Native.Nat.{ℕ, ◌+◌, ◌≤◌, ◌<◌}
use native.Mathlib.Omega.{arith}
use lib.ListN.{length, get_or}
use Rattle.register.specs.Marks.{free_mark, withdrawn_mark, Marked}
use Rattle.register.specs.Inner.{Tested}
use Rattle.register.proofs.words.marked.Goals as goal
use Rattle.register.proofs.words.marked.Goals.{then-words-i-gt-WITHDRAWN_MARK, else-words-i-gt-WITHDRAWN_MARK}

-- the first i words are marks
abbrev Front : List ℕ → ℕ → Type 0
Front words i = (j : ℕ) → j < i → get_or words j free_mark ≤ withdrawn_mark

more : (words : List ℕ) (i : ℕ) (ok : Bool) → Tested (Front words i) ok → get_or words i free_mark ≤ withdrawn_mark → Tested (Front words (i + 1)) ok
more words i ok t h = record { sure = λ e. below_more _ _ (t.sure e) h; none = λ e f. t.none e (λ j p. f j (omega (arith, p))) }

whole : (words : List ℕ) (i : ℕ) (ok : Bool) → Tested (Front words i) ok → length words ≤ i → Tested (Marked words) ok
whole words i ok t h =
    record { sure = λ e. marked_all words (λ j p. t.sure e j (omega (arith, p, h))); none = λ e m. t.none e (λ j _. m j) }

pub loop-i-init : goal.loop-i-init
loop-i-init c = record { inside = omega arith; front = tested (λ j h. absurd (omega (arith, h))) }

pub loop-i-preserved : goal.loop-i-preserved
loop-i-preserved c =
    let l = c.loop-i in
    let words = c.args.words.now in
    record {
      inside = omega arith;
      front = elim c.if-words-i-gt-WITHDRAWN_MARK.branch [
        | then-words-i-gt-WITHDRAWN_MARK w ↦ rw w.ok-is (tested_not (λ f. omega (arith, w.if-words-i-gt-WITHDRAWN_MARK.true, f l.i (omega arith))))
        | else-words-i-gt-WITHDRAWN_MARK w ↦ rw w.ok-is (more words l.i l.ok l.invariant.front w.if-words-i-gt-WITHDRAWN_MARK.false)
      ];
    }

pub returns : goal.returns
returns c = let l = c.loop-i in whole c.args.words.now l.i l.ok l.invariant.front (omega arith)
