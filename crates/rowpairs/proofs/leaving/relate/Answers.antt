-- Asked of what is read of the register. Assumes nothing.
use Rattle.rowpairs.specs.RelatingLaws.{known_read}
use Rattle.rowpairs.proofs.leaving.relate.Goals as goal

pub returns : goal.returns
returns c =
    let r = c.relate_over.ensures in
    let known = known_read c.size-n.ensures c.marks-marks.ensures c.links-links.ensures in
    record {
      leaves = record { caused = r.relating.leaves.caused; book = λ b R. r.relating.leaves.book b (known b R) };
      held = r.relating.held;
      masks = r.relating.masks;
    }
