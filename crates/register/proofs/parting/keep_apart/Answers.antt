-- `register::parting::keep_apart` meets its contract. The loop's invariant: of the first i words those that stand apart are at the front, the words ahead
-- are as they were, and the totals are those of both (`Keeping`). The measure is the words left. Assumes nothing.
use mathlib.Core.Path.{◌≡◌, refl, sym, subst, ◌∙◌}
use mathlib.Core.List.{List}
use Prim.Native.Nat.{ℕ, ◌+◌}
use native.Mathlib.Omega.{arith}
use lib.ListN.{length, take, get_or}
use lib.Seq.{get_or-take, length-take-le}
use Rattle.register.proofs.WithoutLaws.{Keeping, keeping_none, keeping_word, keeping_gone, keeping_all}
use Rattle.register.proofs.parting.keep_apart.Goals as goal
use Rattle.register.proofs.parting.keep_apart.Goals.{then-stands_apart, else-stands_apart}

pub loop-i-init : goal.loop-i-init
loop-i-init c =
    let a = c.args in
    let l = length-take-le a.count a.words.now c.requires in
    record {
      inside = omega arith;
      few = omega arith;
      stand = keeping_none a.«record» (take a.count a.words.now) a.totals a.words.now
          (λ j h. sym (get_or-take a.count a.words.now j 0 (omega (arith, l))));
    }

pub loop-i-preserved : goal.loop-i-preserved
loop-i-preserved c =
    let l = c.loop-i in
    let a = c.args in
    let ws = take a.count a.words.now in
    let long : length ws ≡ a.count = length-take-le a.count a.words.now c.requires in
    let word = get_or l.words l.i 0 in
    let j = c.if-stands_apart in
    elim c.if-stands_apart.branch [
      | then-stands_apart w ↦ record {
        inside = omega arith;
        few = omega (arith, w.kept-is);
        stand = subst (λ (k : ℕ). Keeping a.«record» ws a.totals j.left j.words k (l.i + 1)) (sym w.kept-is)
            (subst (λ (us : List ℕ). Keeping a.«record» ws a.totals us j.words (l.kept + 1) (l.i + 1)) (sym w.left-is)
            (subst (λ (vs : List ℕ). Keeping a.«record» ws a.totals l.left vs (l.kept + 1) (l.i + 1)) (sym w.words-is)
            (keeping_word a.«record» ws a.totals l.left l.words l.kept l.i l.invariant.stand (omega (arith, long)) word refl
            (omega arith) (sym c.stands_apart.ensures ∙ w.if-stands_apart.true))));
      }
      | else-stands_apart w ↦ record {
        inside = omega arith;
        few = omega (arith, w.kept-is);
        stand = subst (λ (k : ℕ). Keeping a.«record» ws a.totals j.left j.words k (l.i + 1)) (sym w.kept-is)
            (subst (λ (us : List ℕ). Keeping a.«record» ws a.totals us j.words l.kept (l.i + 1)) (sym w.left-is)
            (subst (λ (vs : List ℕ). Keeping a.«record» ws a.totals w.lowered-less.result vs l.kept (l.i + 1)) (sym w.words-is)
            (keeping_gone a.«record» ws a.totals l.left l.words l.kept l.i l.invariant.stand (omega (arith, long)) word refl
            w.lowered-less.result (sym c.stands_apart.ensures ∙ w.if-stands_apart.false) w.lowered-less.ensures)));
      }
    ]

pub returns : goal.returns
returns c =
    let l = c.loop-i in
    let a = c.args in
    keeping_all a.«record» (take a.count a.words.now) a.totals l.left l.words l.kept l.i
    (let e = length-take-le a.count a.words.now c.requires in omega (arith, e)) l.invariant.stand
