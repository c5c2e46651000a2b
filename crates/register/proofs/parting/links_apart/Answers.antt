-- `links_apart` goes word by word; every word is written, and the next one over it if it does not stay. The loop's invariant: the first words of the list are
-- those of the first i that stay. The measure is the words left. It rests on `copied_word` and `copied_gone`. Assumes nothing.
use mathlib.Core.Path.{refl, sym, ap, ◌∙◌}
use Prim.Native.Nat.{ℕ, ◌<◌}
use native.Mathlib.Omega.{arith}
use lib.ListN.{length, take, get_or, set}
use lib.Seq.{take_all}
use Rattle.register.specs.Parting.{filter}
use Rattle.register.specs.Apart.{apart_word}
use Rattle.register.proofs.WithoutLaws.{copied_word, copied_gone}
use Rattle.register.proofs.parting.links_apart.Goals as goal
use Rattle.register.proofs.parting.links_apart.Goals.{then-stands_apart, else-stands_apart}

pub loop-i-init : goal.loop-i-init
unfolding filter
loop-i-init c = record { inside = omega arith; few = omega arith; stand = refl }

pub loop-i-preserved : goal.loop-i-preserved
loop-i-preserved c =
    let l = c.loop-i in
    let a = c.args in
    let t = c.stands_apart.ensures in
    let low = l.invariant.few in
    let room : l.kept < length l.to = omega arith in
    let to' = set l.to l.kept (get_or a.links.now l.i 0) in
    elim c.if-stands_apart.branch [
      | then-stands_apart w ↦ record {
        inside = omega arith;
        few = omega (arith, low, w.kept-is);
        stand = ap (λ (k : ℕ). take k to') w.kept-is
            ∙ copied_word a.«record» a.links.now l.to l.kept l.i l.invariant.stand (omega arith) room (sym t ∙ w.if-stands_apart.true);
      }
      | else-stands_apart w ↦ record {
        inside = omega arith;
        few = omega (arith, low, w.kept-is);
        stand = ap (λ (k : ℕ). take k to') w.kept-is
            ∙ copied_gone a.«record» a.links.now l.to l.kept l.i l.invariant.stand (omega arith) room (sym t ∙ w.if-stands_apart.false);
      }
    ]

pub returns : goal.returns
returns c =
    let l = c.loop-i in
    let a = c.args in
    (omega (arith, l.invariant.few), l.invariant.stand ∙ ap (filter (apart_word a.«record»)) (take_all l.i a.links.now (omega arith)))
