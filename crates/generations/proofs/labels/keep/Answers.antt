-- One word more, kept (`keep_yes`) or not (`keep_no`). Assumes nothing.
use Rattle.std.proofs.Common.{arith, ◌∙◌, ap, refl, ℕ}
use Rattle.std.proofs.Math.ListN.{length-set}
use Rattle.std.proofs.Math.Dec.{eqb}
use Rattle.k2.specs.Bits.{digit}
use Rattle.rows.specs.RowSets.{labelled}
use Rattle.generations.proofs.LabelLaws.{keep_yes, keep_no}
use Rattle.generations.proofs.labels.keep.Goals as goal
use Rattle.generations.proofs.labels.keep.Goals.{then-has_label, else-has_label}

pub loop-i-init : goal.loop-i-init
unfolding labelled
loop-i-init c = record { inside = omega arith; count_most = omega arith; as_long = refl; labelled = refl }

pub loop-i-preserved : goal.loop-i-preserved
loop-i-preserved c =
    let l = c.loop-i in
    let e = c.has_label.ensures ∙ ap (λ (k : ℕ). eqb (digit c.args.set k) 1) c.label_of.ensures in
    elim c.if-has_label.branch [
      | then-has_label w ↦ record {
        inside = omega arith;
        count_most = omega (arith, w.count-is);
        as_long = rw w.kept-is (simp length-set l.invariant.as_long);
        labelled = rw (w.kept-is, w.count-is)
            (keep_yes c.args.set c.args.words.now l.i c.loop-i-test.true l.kept l.count
            (omega (arith, l.invariant.count_most, l.invariant.as_long, c.requires)) e w.if-has_label.true l.invariant.labelled);
      }
      | else-has_label w ↦ record {
        inside = omega arith;
        count_most = omega (arith, w.count-is);
        as_long = rw w.kept-is l.invariant.as_long;
        labelled =
            rw (w.kept-is, w.count-is) (keep_no c.args.set c.args.words.now l.i c.loop-i-test.true l.kept l.count e w.if-has_label.false l.invariant.labelled);
      }
    ]
