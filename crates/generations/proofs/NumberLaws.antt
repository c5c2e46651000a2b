-- Laws of the numbers as they are written, and of the smallest record. Assumes nothing.
use mathlib.Core.Path.{◌≡◌, refl, sym, ap, ◌∙◌, subst}
use mathlib.Core.List.{List, [], ◌∷◌, ◌++◌, append-nil}
use mathlib.Core.Bool.{Bool, true, false}
use Prim.Native.Nat.{ℕ, zero, suc, ◌+◌, ◌-◌, ◌*◌, ◌<◌, ◌≤◌}
use native.Mathlib.Numerals.{add-one}
use native.Mathlib.Omega.{arith}
use lib.ListN.{length, get_or, set, length-append}
use borrow.Author.Tests.{eq-eqb, ne_eqb}
use Rattle.book.specs.Basics.{pick}
use Rattle.k2.specs.Bits.{bit_at}
use Rattle.k2.specs.PairSets.{Cells, closure}
use Rattle.rows.specs.Rows.{flat}
use Rattle.rows.specs.RowLaws.{flat_at}
use Rattle.automaton.proofs.LevelLaws.{Which, less, same, more, which}
use Rattle.register.specs.Marks.{has_mark, withdrawn_mark}
use Rattle.answers.specs.Written.{Wrote}
use Rattle.answers.specs.WrittenLaws.{wrote_byte, wrote_then, wrote_as}
use Rattle.generations.specs.Inner.{chosen, Smallest, Joined, Closed}

-- ---- the numbers
module _ (ms ds : List ℕ) where
  next_chosen : (y : ℕ) (t : Bool) → has_mark withdrawn_mark ms y ≡ t → chosen ms ds (y + 1) ≡ chosen ms ds y ++ pick t [] ((get_or ds y 0 - 2) ∷ [])
  unfolding chosen
  next_chosen y t e = ap (chosen ms ds) (add-one y) ∙ ap (λ (b : Bool). chosen ms ds y ++ pick b [] ((get_or ds y 0 - 2) ∷ [])) e

  pub chosen_used : (y : ℕ) → (get_or ms y 0 ≡ 2 → ⊥) → chosen ms ds (y + 1) ≡ chosen ms ds y ++ ((get_or ds y 0 - 2) ∷ [])
  chosen_used y n = next_chosen y false (ne_eqb (get_or ms y 0) 2 n)

  pub chosen_out : (y : ℕ) → get_or ms y 0 ≡ 2 → chosen ms ds (y + 1) ≡ chosen ms ds y
  chosen_out y e = next_chosen y true (eq-eqb (get_or ms y 0) 2 e) ∙ append-nil (chosen ms ds y)

  pub count_used : (count y : ℕ) → (get_or ms y 0 ≡ 2 → ⊥) → count ≡ length (chosen ms ds y) → count + 1 ≡ length (chosen ms ds (y + 1))
  count_used count y n e = let z = ap length (chosen_used y n) ∙ length-append (chosen ms ds y) ((get_or ds y 0 - 2) ∷ []) in omega arith

  pub count_out : (count y : ℕ) → get_or ms y 0 ≡ 2 → count ≡ length (chosen ms ds y) → count ≡ length (chosen ms ds (y + 1))
  count_out count y q e = e ∙ ap length (sym (chosen_out y q))

  chosen_more : (y k : ℕ) → length (chosen ms ds y) ≤ length (chosen ms ds (y + k))
  unfolding chosen
  chosen_more y zero = let e : y + 0 ≡ y = omega arith in let z = ap (λ (i : ℕ). length (chosen ms ds i)) e in omega arith
  chosen_more y (suc k) =
      let e : y + suc k ≡ suc (y + k) = omega arith in
      let z = ap (λ (i : ℕ). length (chosen ms ds i)) e in
      let l = length-append (chosen ms ds (y + k)) (pick (has_mark withdrawn_mark ms (y + k)) [] ((get_or ds (y + k) 0 - 2) ∷ [])) in
      let i = chosen_more y k in
      omega arith

  pub chosen_longer : (y n : ℕ) → y ≤ n → length (chosen ms ds y) ≤ length (chosen ms ds n)
  chosen_longer y n h = let e : y + (n - y) ≡ n = omega arith in subst (λ (i : ℕ). length (chosen ms ds y) ≤ length (chosen ms ds i)) e (chosen_more y (n - y))

  -- one number more is written
  module _ (y : ℕ) {count : ℕ} {l m : List ℕ} (w : Wrote 0 (chosen ms ds y) l m count) where
    pub wrote_room : (n : ℕ) → y < n → (get_or ms y 0 ≡ 2 → ⊥) → length (chosen ms ds n) ≤ length l → count < length l
    wrote_room n h u r =
        let p = w.place in
        let a = count_used (length (chosen ms ds y)) y u refl in
        let b = chosen_longer (y + 1) n (omega arith) in
        omega arith

    pub wrote_used : (get_or ms y 0 ≡ 2 → ⊥) → count < length m → Wrote 0 (chosen ms ds (y + 1)) l (set m count (get_or ds y 0 - 2)) (count + 1)
    wrote_used u h = wrote_as (sym (chosen_used y u)) (wrote_then w (wrote_byte count (get_or ds y 0 - 2) m h))

    pub wrote_out : get_or ms y 0 ≡ 2 → Wrote 0 (chosen ms ds (y + 1)) l m count
    wrote_out e = wrote_as (sym (chosen_out y e)) w

-- ---- the smallest record
pub none_next : (ws : List ℕ) (x : ℕ) → ((k : ℕ) → k < x → Joined ws k → ⊥) → (Joined ws x → ⊥) → (k : ℕ) → k < x + 1 → Joined ws k → ⊥
none_next ws x n o k h j = go (which k x)
  where
    go : Which k x → ⊥
    go (less l) = n k l j
    go (same e) = o (subst (Joined ws) e j)
    go (more l) = omega arith

pub smallest_closed : {n r : ℕ} (ws : List ℕ) (a : Cells) → n ≤ 1024 → bit_at ws ≡ flat (closure n a) → Smallest (Joined ws) n r → Smallest (Closed n a) n r
smallest_closed {n} {r} ws a h e s = record {
  most = s.most;
  below = λ x l c. s.below x l (at x (omega (arith, s.most)) ∙ c);
  holds = λ l. sym (at r (omega arith)) ∙ s.holds l;
}
  where
    at : (x : ℕ) → x < 1024 → bit_at ws (x * 1024 + x) ≡ closure n a x x
    at x l = ap (λ (f : ℕ → ℕ). f (x * 1024 + x)) e ∙ flat_at (closure n a) x x l
