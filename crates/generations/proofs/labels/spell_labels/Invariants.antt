-- `put_letters` goes over the labels 0 to 25. The loop's invariant: the letters of the set below the label are in the text (`Laid`). The measure is how many
-- labels are left. It rests on `laid_yes` and `laid_no`. Assumes nothing.
use mathlib.Core.List.{List}
use mathlib.Core.Path.{◌≡◌}
use Prim.Native.Nat.{ℕ, ◌≤◌}
use lib.ListN.{length}
use Rattle.generations.proofs.LabelLaws.{Laid}
use Rattle.generations.proofs.labels.spell_labels.Given as goal

-- what holds whenever the loop is at its head
pub record Loop (set : ℕ) (text₀ text : List ℕ) (count label : ℕ) : Type 0 where
  pub inside : label ≤ 26
  pub as_long : length text ≡ length text₀
  pub laid : Laid set label text count

abbrev pub invariant-loop-label : goal.invariant-loop-label
invariant-loop-label l = Loop l.set l.initial.text l.text l.count l.label
