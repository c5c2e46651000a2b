-- `register::closing::rename` meets its contract. The loop's invariant: the first i words are renamed, and then they are as they were. The measure is the words
-- left. Assumes nothing.
use mathlib.Core.Path.{◌≡◌, ap, ◌∙◌}
use mathlib.Core.List.{map, ◌++◌}
use Prim.Native.Nat.{ℕ}
use native.Mathlib.Omega.{arith}
use lib.ListN.{take, drop, set}
use Rattle.register.specs.Closing.{new_of, renamed_word}
use Rattle.register.proofs.ClosingLaws.{renamed_more}
use Rattle.register.proofs.closing.rename.Goals as goal

pub loop-i-preserved : goal.loop-i-preserved
loop-i-preserved c =
    let l = c.loop-i in
    let a = c.args in
    let f = renamed_word (new_of a.ranks.now) in
    record {
      inside = omega arith;
      stand = ap (set l.words l.i) c.renamed.ensures ∙ renamed_more f a.words.now l.words l.i l.invariant.stand (omega (arith, c.requires.0));
    }

pub returns : goal.returns
returns c =
    let l = c.loop-i in
    let a = c.args in
    let e : l.i ≡ a.count = omega arith in
    l.invariant.stand ∙ ap (λ (k : ℕ). map (renamed_word (new_of a.ranks.now)) (take k a.words.now) ++ drop k a.words.now) e
