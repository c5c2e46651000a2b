-- Ties turned round: the first and the second record exchanged, least and most as they are. A placing read backwards meets them, so the least of a record is
-- the most of it over turned ties, with the sign changed.
--   turned_places, places_turned
--                  p meets all ties exactly if -p meets all turned ones
--   turned_joined  they join the same records
--   turned_ready   they are not refused either
-- Assumes nothing.
use Rattle.std.specs.Prelude.{◌≡◌, refl, List, [], ◌∷◌, ℕ, suc, ◌≤◌, ℤ, neg_ℤ, ◌-ℤ◌, length, ◌≤ℤ◌}
use Rattle.std.proofs.Common.{sym, ap, subst, inl, inr, arith}
use Rattle.book.specs.Basics.{In, here, there}
use Rattle.offsets.specs.declared.Tie.{Tie}
use Rattle.offsets.proofs.LinearLaws.{of_le, to_le, of_sub, of_neg_up, of_neg_down}
use Rattle.offsets.specs.Offsets.{Placing, Meets, Places, Joined, self, onward}
use Rattle.offsets.specs.TurnedTies.{turn, turned}
use Rattle.offsets.proofs.ThirdLaws.{Allowed, Ready}

abbrev pub neg : Placing → Placing
neg p x = neg_ℤ (p x)

turned_length : (ts : List Tie) → length (turned ts) ≡ length ts
turned_length [] = refl
turned_length (t ∷ ts) = ap suc (turned_length ts)

in_turned : (ts : List Tie) (t : Tie) → In t ts → In (turn t) (turned ts)
in_turned [] t x' = elim x' [ ]
in_turned (u ∷ ts) t here = here
in_turned (u ∷ ts) t (there h) = there (in_turned ts t h)

-- a property of turned ties, from one of the ties
of_turned : (P : Tie → Type 0) (ts : List Tie) → ((t : Tie) → In t ts → P (turn t)) → (t : Tie) → In t (turned ts) → P t
of_turned P [] f t x'' = elim x'' [ ]
of_turned P (u ∷ ts) f t here = f u here
of_turned P (u ∷ ts) f t (there h) = of_turned P ts (λ v i. f v (there i)) t h

-- y - x is -x - -y
turn_meets : (x y least most : ℤ) → (least ≤ℤ (y -ℤ x)) × ((y -ℤ x) ≤ℤ most) → (least ≤ℤ (neg_ℤ x -ℤ neg_ℤ y)) × ((neg_ℤ x -ℤ neg_ℤ y) ≤ℤ most)
turn_meets x y least most h = (
  to_le (omega (arith, of_le h.0, of_sub y x, of_sub (neg_ℤ x) (neg_ℤ y), of_neg_up x, of_neg_down x, of_neg_up y, of_neg_down y)),
  to_le (omega (arith, of_le h.1, of_sub y x, of_sub (neg_ℤ x) (neg_ℤ y), of_neg_up x, of_neg_down x, of_neg_up y, of_neg_down y)),
)

pub turned_places : (p : Placing) (ts : List Tie) → Places p ts → Places (neg p) (turned ts)
turned_places p ts h = of_turned (Meets (neg p)) ts (λ t i. turn_meets (p t.first) (p t.second) t.least t.most (h t i))

pub places_turned : (p : Placing) (ts : List Tie) → Places p (turned ts) → Places (neg p) ts
places_turned p ts h t i = turn_meets (p t.second) (p t.first) t.least t.most (h (turn t) (in_turned ts t i))

pub turned_joined : (ts : List Tie) (x : ℕ) {y : ℕ} → Joined ts x y → Joined (turned ts) x y
turned_joined ts x self = self
turned_joined ts x (onward t j i (inl e)) = onward (turn t) (turned_joined ts x j) (in_turned ts t i) (inr e)
turned_joined ts x (onward t j i (inr e)) = onward (turn t) (turned_joined ts x j) (in_turned ts t i) (inl e)

pub turned_ready : (n : ℕ) (ts : List Tie) → Ready n ts → Ready n (turned ts)
turned_ready n ts r = record {
  few_records = r.few_records;
  few_ties = subst (λ (k : ℕ). k ≤ 1024) (sym (turned_length ts)) r.few_ties;
  allowed =
      of_turned (Allowed n) ts (λ t i. let a = r.allowed t i in
      record { first_in = a.second_in; second_in = a.first_in; least_in = a.least_in; ordered = a.ordered; most_in = a.most_in });
}
