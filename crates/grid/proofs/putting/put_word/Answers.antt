-- `put_word` puts the pair of a link in forward, if its label is there, and then exchanged (`put_more`, `crossed_one`). Assumes nothing.
use mathlib.Core.Path.{◌≡◌, sym, ap, ◌∙◌}
use Prim.Native.Nat.{ℕ, ◌%◌, ◌/◌}
use lib.Dec.{eqb}
use Rattle.k2.specs.Bits.{digit}
use Rattle.k2.specs.PairSets.{Cells, union, transpose}
use Rattle.links.specs.Parts.{link_pair}
use Rattle.rows.specs.RowLaws.{transpose_none, union_right}
use Rattle.grid.specs.Grid.{first, within}
use Rattle.grid.specs.Steps.{one_pair}
use Rattle.grid.proofs.PairLaws.{letter, letter_in, letter_out, one_turned, put_more, put_none, crossed_one}
use Rattle.grid.proofs.putting.put_word.Goals as goal
use Rattle.grid.proofs.putting.put_word.Goals.{then-has_label, else-has_label}

pub returns-then-has_label-2 : goal.returns-then-has_label-2
unfolding link_pair
returns-then-has_label-2 c =
    let a = c.args in
    let A : Cells = first a.n a.w a.cells.now a.masks.now in
    let p = c.pair_of-p in
    let q : ℕ = a.word % 1048576 in
    let r₁ = c.has_label.ensures ∙ ap (λ (k : ℕ). eqb (digit a.forward k) 1) c.label_of-label.ensures in
    let r = c.has_label-2.ensures ∙ ap (λ (k : ℕ). eqb (digit a.against k) 1) c.label_of-label.ensures in
    -- the link is in forward
    let forward : first a.n a.w c.if-has_label.cells c.if-has_label.masks ≡ union A (within a.n (letter a.forward a.word))
    = elim c.if-has_label.branch [
      | then-has_label v ↦
          rw (v.cells-is, v.masks-is) (v.put_pair.ensures ∙ ap (λ (k : ℕ). union A (within a.n (one_pair (k / 1024) (k % 1024)))) p.ensures
          ∙ ap (λ (s : Cells). union A (within a.n s)) (sym (letter_in a.forward a.word (sym r₁ ∙ v.if-has_label.true))))
      | else-has_label v ↦
          rw (v.cells-is, v.masks-is)
          (put_none a.n A ∙ ap (λ (s : Cells). union A (within a.n s)) (sym (letter_out a.forward a.word (sym r₁ ∙ v.if-has_label.false))))
    ] in
    let e : one_pair (q % 1024) (q / 1024) ≡ transpose (letter a.against a.word)
    = sym (ap transpose (letter_in a.against a.word (sym r ∙ c.if-has_label-2.true)) ∙ one_turned (q / 1024) (q % 1024)) in
    c.put_pair-then-has_label-2.ensures
    ∙ ap (λ (k : ℕ). union (first a.n a.w c.if-has_label.cells c.if-has_label.masks) (within a.n (one_pair (k % 1024) (k / 1024))))
    p.ensures
    ∙ ap (λ (s : Cells). union s (within a.n (one_pair (q % 1024) (q / 1024)))) forward
    ∙ put_more a.n A (letter a.forward a.word) (one_pair (q % 1024) (q / 1024))
    ∙ ap (λ (s : Cells). union A (within a.n (union (letter a.forward a.word) s))) e
    ∙ ap (λ (s : Cells). union A (within a.n s)) (sym (crossed_one a.word a.forward a.against))

pub returns-else-has_label-2 : goal.returns-else-has_label-2
unfolding link_pair
returns-else-has_label-2 c =
    let a = c.args in
    let A : Cells = first a.n a.w a.cells.now a.masks.now in
    let p = c.pair_of-p in
    let q : ℕ = a.word % 1048576 in
    let r₁ = c.has_label.ensures ∙ ap (λ (k : ℕ). eqb (digit a.forward k) 1) c.label_of-label.ensures in
    let r = c.has_label-2.ensures ∙ ap (λ (k : ℕ). eqb (digit a.against k) 1) c.label_of-label.ensures in
    -- the link is in forward
    let forward : first a.n a.w c.if-has_label.cells c.if-has_label.masks ≡ union A (within a.n (letter a.forward a.word))
    = elim c.if-has_label.branch [
      | then-has_label v ↦
          rw (v.cells-is, v.masks-is) (v.put_pair.ensures ∙ ap (λ (k : ℕ). union A (within a.n (one_pair (k / 1024) (k % 1024)))) p.ensures
          ∙ ap (λ (s : Cells). union A (within a.n s)) (sym (letter_in a.forward a.word (sym r₁ ∙ v.if-has_label.true))))
      | else-has_label v ↦
          rw (v.cells-is, v.masks-is)
          (put_none a.n A ∙ ap (λ (s : Cells). union A (within a.n s)) (sym (letter_out a.forward a.word (sym r₁ ∙ v.if-has_label.false))))
    ] in
    let e : transpose (letter a.against a.word) ≡ _ = ap transpose (letter_out a.against a.word (sym r ∙ c.if-has_label-2.false)) ∙ transpose_none in
    forward ∙ ap (λ (s : Cells). union A (within a.n s))
    (sym (crossed_one a.word a.forward a.against ∙ ap (union (letter a.forward a.word)) e ∙ union_right (letter a.forward a.word)))
