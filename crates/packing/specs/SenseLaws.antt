-- Laws of the sense in which a tree is read. Assumes nothing.
use Rattle.std.specs.Prelude.{◌≡◌, ℕ}
use Rattle.std.proofs.Math.Path.{refl}
use Rattle.k2.specs.PairSets.{Cells, IsSet, union, transpose}
use Rattle.k2.specs.PairSetLaws.{transpose_set}
use Rattle.rows.specs.RowSets.{no_pairs}
use Rattle.rows.specs.RowLaws.{transpose_union, transpose_none}
use Rattle.packing.specs.declared.loading.Sense.{Sense}
use Rattle.packing.specs.declared.loading.Sense.TheVariants.{Plain, Inverted}
use Rattle.packing.specs.Senses.{sensed, opposite}

pub sensed_set : (s : Sense) (n : ℕ) (a : Cells) → IsSet n a → IsSet n (sensed s a)
sensed_set Plain n a is = is
sensed_set Inverted n a is = transpose_set n a is

pub sensed_opposite : (s : Sense) (a : Cells) → sensed (opposite s) a ≡ transpose (sensed s a)
sensed_opposite Plain a = refl
sensed_opposite Inverted a = unfold transpose in refl

pub sensed_union : (s : Sense) (a b : Cells) → sensed s (union a b) ≡ union (sensed s a) (sensed s b)
sensed_union Plain a b = refl
sensed_union Inverted a b = transpose_union a b

pub sensed_none : (s : Sense) → sensed s no_pairs ≡ no_pairs
sensed_none Plain = refl
sensed_none Inverted = transpose_none
