-- `fallen` goes over the records. The loop's invariant: the words written are the records below x that are lost. The measure is the
-- records left. Assumes nothing.
use native.Mathlib.Omega.{arith}
use mathlib.Core.List.{List}
use mathlib.Core.Path.{refl, sym, ap, ap₂, ◌∙◌}
use Prim.Native.Nat.{ℕ}
use lib.ListN.{length, length-set, take}
use Rattle.support.specs.Support.{chosen}
use Rattle.support.specs.Inner.{lost}
use Rattle.support.proofs.LoopLaws.{chosen_more, chosen_passed}
use Rattle.support.proofs.fallen.Goals.{then-loses, else-loses}
use Rattle.support.proofs.fallen.Goals as goal

pub loop-x-init : goal.loop-x-init
unfolding chosen
loop-x-init c =
    record { inside = omega arith; n_most = c.requires.0; count_most = omega arith; words_long = refl; chosen_below = refl }

pub loop-x-preserved : goal.loop-x-preserved
unfolding lost
loop-x-preserved c =
    let l = c.loop-x in
    let a = c.args in
    let t = lost a.before a.after a.core in
    elim c.if-loses.branch [
      | then-loses w ↦ record {
        inside = omega arith;
        n_most = l.invariant.n_most;
        count_most = omega (arith, w.count-is, l.invariant.count_most);
        words_long = ap length w.words-is ∙ length-set l.words l.count l.x ∙ l.invariant.words_long;
        chosen_below = ap₂ (λ (k : ℕ) (ws : List ℕ). take k ws) w.count-is w.words-is
            ∙ chosen_more t l.words l.count l.x l.invariant.chosen_below
            (omega (arith, l.invariant.words_long, l.invariant.n_most, l.invariant.count_most)) (sym c.loses.ensures ∙ w.if-loses.true);
      }
      | else-loses w ↦ record {
        inside = omega arith;
        n_most = l.invariant.n_most;
        count_most = omega (arith, w.count-is, l.invariant.count_most);
        words_long = ap length w.words-is ∙ l.invariant.words_long;
        chosen_below = ap₂ (λ (k : ℕ) (ws : List ℕ). take k ws) w.count-is w.words-is
            ∙ chosen_passed t l.words l.count l.x l.invariant.chosen_below (sym c.loses.ensures ∙ w.if-loses.false);
      }
    ]
