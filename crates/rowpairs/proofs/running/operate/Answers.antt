-- Each arm leaves the item's value, which `does` carries over to the item that was asked for. Assumes nothing.
use Rattle.std.proofs.Common.{ap, ◌∙◌}
use Rattle.k2.specs.PairSets.{union}
use Rattle.paths.specs.Chains.{asked}
use Rattle.rowpairs.specs.Evaluation.{outcome_of}
use Rattle.rowpairs.proofs.OperationLaws.{diagonal_within, does, letters_left, star_left}
use Rattle.rowpairs.proofs.running.operate.Goals as goal

pub returns-in-Letters : goal.returns-in-Letters
returns-in-Letters c =
    does _ _ c.in-Letters.is (letters_left _ _ _ c.in-Letters.forward c.in-Letters.against (c.start.ensures c.args.w c.args.cells.now) c.put_letters.ensures)

pub returns-in-Inverse : goal.returns-in-Inverse
returns-in-Inverse c = does _ _ c.in-Inverse.is (λ k L. unfold outcome_of in c.transpose.ensures)

pub returns-in-Star : goal.returns-in-Star
returns-in-Star c = does _ _ c.in-Star.is (star_left _ _ _ c.close.ensures c.put_zero_steps.ensures)

pub returns-in-Plus : goal.returns-in-Plus
returns-in-Plus c = does _ _ c.in-Plus.is (λ k L. unfold outcome_of asked in (rw (← L.size) c.close-in-Plus.ensures))

pub returns-in-Optional : goal.returns-in-Optional
returns-in-Optional c =
    does _ _ c.in-Optional.is (λ k L. unfold outcome_of in (c.put_zero_steps-in-Optional.ensures ∙ ap (union _) (diagonal_within k _ _ _ L)))

pub returns-in-Alternative : goal.returns-in-Alternative
returns-in-Alternative c = does _ _ c.in-Alternative.is (λ k L. unfold outcome_of in c.unite.ensures)

pub returns-in-Sequence : goal.returns-in-Sequence
returns-in-Sequence c = does _ _ c.in-Sequence.is (λ k L. unfold outcome_of asked in (rw (← L.size) c.compose.ensures))
