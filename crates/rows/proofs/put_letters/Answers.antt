-- `put_letters` sets a bit for each word whose label is in one set, and one for each whose label is in the other. The loop's invariant: the pairs
-- of the first i words are put in. It rests on `crossed_forward`, `crossed_against` and `letters_out`.
-- Assumes nothing.
use mathlib.Core.Path.{◌≡◌, sym, ap, ◌∙◌}
use mathlib.Core.List.{List}
use Prim.Native.Nat.{ℕ, ◌+◌, ◌*◌, ◌/◌, ◌%◌, ◌<◌}
use native.Mathlib.Omega.{arith}
use lib.Dec.{eqb}
use lib.ListN.{length, take}
use Rattle.k2.specs.Bits.{digit, bit_at}
use Rattle.k2.specs.BitLaws.{Bits, bit_lt}
use Rattle.k2.specs.PairSets.{Cells, union}
use Rattle.bits.specs.BitSets.{put}
use Rattle.rows.specs.Rows.{flat}
use Rattle.links.specs.Parts.{link_pair}
use Rattle.rows.proofs.PutLaws.{letters_of, crossing, letters_out, crossed_forward, crossed_against, crossed_is, crossed_start}
use Rattle.rows.proofs.put_letters.Goals as goal
use Rattle.rows.proofs.put_letters.Goals.{then-has_label, else-has_label, then-has_label-2, else-has_label-2}

pub loop-word-init : goal.loop-word-init
loop-word-init c =
    λ x e. e ∙ ap flat (sym (crossed_start x _ _))

pub set_bit-requires : goal.set_bit-requires
unfolding link_pair
set_bit-requires c = omega arith

-- the rows hold the pairs of the first j words, the exchanged ones of the first i
abbrev Held : List ℕ → ℕ → ℕ → List ℕ → List ℕ → ℕ → ℕ → Type 0
Held words forward against rows₀ rows j i =
    (x : Cells) → bit_at rows₀ ≡ flat x → bit_at rows ≡ flat (union x (crossing (letters_of forward (take j words)) (letters_of against (take i words))))

pub set_bit-requires-then-has_label-2 : goal.set_bit-requires-then-has_label-2
unfolding link_pair
set_bit-requires-then-has_label-2 c = omega arith

pub loop-word-preserved : goal.loop-word-preserved
unfolding link_pair
loop-word-preserved c =
    let l = c.loop-word in
    let a = c.args in
    let i = l.word-index in
    let ws = a.words.now in
    let ps = letters_of a.forward (take (i + 1) ws) in
    let qs = letters_of a.against (take i ws) in
    let p = c.pair_of-p in
    let h : i < length ws = omega arith in
    let r₁ = c.has_label.ensures ∙ ap (λ (k : ℕ). eqb (digit a.forward k) 1) c.label_of-label.ensures in
    let before : Held ws a.forward a.against a.rows.now l.rows i i
    = λ x e. l.invariant x e ∙ ap (λ (t : Cells). flat (union x t)) (crossed_is (take i ws) a.forward a.against) in
    -- the word's pair is put in forward
    let old : Held ws a.forward a.against a.rows.now c.if-has_label.rows (i + 1) i
    = elim c.if-has_label.branch [
      | then-has_label w ↦ λ x e.
          let b : Bits (flat x) = λ k. rw (← e) (bit_lt a.rows.now k) in
          rw w.rows-is (w.set_bit.ensures ∙ ap (λ (k : ℕ). put k 1 (bit_at l.rows)) p.ensures
          ∙ rw (before x e) (crossed_forward x ws i a.forward a.against h b qs (sym r₁ ∙ w.if-has_label.true)))
      | else-has_label w ↦ λ x e.
          rw w.rows-is (before x e ∙ ap (λ (ps : List ℕ). flat (union x (crossing ps qs))) (letters_out a.forward ws i h (sym r₁ ∙ w.if-has_label.false)))
    ] in
    let r = c.has_label-in-loop-word.ensures ∙ ap (λ (k : ℕ). eqb (digit a.against k) 1) c.label_of-label.ensures in
    let new = sym (crossed_is (take (i + 1) ws) a.forward a.against) in
    elim c.if-has_label-2.branch [
      | then-has_label-2 w ↦ λ x e.
          let b : Bits (flat x) = λ k. rw (← e) (bit_lt a.rows.now k) in
          rw w.rows-is (w.set_bit-then-has_label-2.ensures ∙ ap (λ (k : ℕ). put (k % 1024 * 1024 + k / 1024) 1 (bit_at c.if-has_label.rows)) p.ensures
          ∙ rw (old x e) (crossed_against x ws i a.forward a.against h b ps (sym r ∙ w.if-has_label-2.true)
          ∙ ap (λ (t : Cells). flat (union x t)) new))
      | else-has_label-2 w ↦ λ x e.
          rw w.rows-is (old x e ∙ ap (λ (qs : List ℕ). flat (union x (crossing ps qs))) (letters_out a.against ws i h (sym r ∙ w.if-has_label-2.false))
          ∙ ap (λ (t : Cells). flat (union x t)) new)
    ]
