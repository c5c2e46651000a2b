-- Each word is made `&` of the two, whose bits are those that both have (`both_word`). Assumes nothing.
use mathlib.Core.Path.{◌≡◌, ap, ap₂, ◌∙◌}
use Prim.Native.Nat.{ℕ}
use lib.Bits.{bit_and}
use lib.ListN.{get_or}
use Rattle.std.proofs.Common.{rules}
use Rattle.k2.specs.Bits.{digit, bit_at}
use Rattle.bits.specs.BitSets.{both}
use Rattle.bits.specs.BitSetLaws.{both_word}
use Rattle.rows.specs.RowLaws.{flat_intersection}
use Rattle.rows.proofs.WordwiseLaws.{words_made, both_out}
use Rattle.rows.proofs.intersect.Goals as goal

pub returns : goal.returns
returns c =
    let a = c.args.a.now in
    let b = c.args.b.now in
    λ x y ex ey.
    words_made (both (bit_at a) (bit_at b)) a _ c.each_word.auto.a
    (λ i k h l.
    let e : get_or c.each_word.new.a i 0 ≡ bit_and (get_or a i 0) (get_or b i 0) = search (rules, c.each_word.ensures i h) in
    ap (λ (w : ℕ). digit w k) e ∙ both_word a b i k l) (both_out a b)
    ∙ ap₂ both ex ey ∙ flat_intersection x y
