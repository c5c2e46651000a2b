-- Laws of relations as rows of bits with masks: what lies below n, and a relation by the part of the work that begins with it. Assumes nothing.
use Rattle.std.specs.Prelude.{◌≡◌, refl, Bool, true, false, List, ℕ, ◌+◌, ◌*◌, ◌/◌, ◌%◌, ◌≤◌, ◌<◌, min, ltb, get_or, drop}
use Rattle.std.proofs.Common.{sym, ap, ap₂, ◌∙◌, arith, get_or-drop, lt-ltb, le-ltb}
use Rattle.std.proofs.Math.Path.{fun_ext}
use Rattle.std.proofs.Math.Decide.{dec_lt}
use Rattle.book.specs.Basics.{pick}
use Rattle.k2.specs.Bits.{digit}
use Rattle.k2.specs.DigitLaws.{digit_lt}
use Rattle.k2.specs.PairSets.{Cells, IsSet}
use Rattle.grid.specs.Grid.{row_of, within, first_rows, second_rows, first, second}

-- ---- records below n
pub within_in : (n : ℕ) (a : Cells) (x y : ℕ) → x < n → y < n → within n a x y ≡ a x y
unfolding within
within_in n a x y h l = rw (lt-ltb x n h, lt-ltb y n l)

pub within_row : (n : ℕ) (a : Cells) (x y : ℕ) → n ≤ x → within n a x y ≡ 0
unfolding within
within_row n a x y h = rw (le-ltb x n h)

pub within_column : (n : ℕ) (a : Cells) (x y : ℕ) → n ≤ y → within n a x y ≡ 0
unfolding within
within_column n a x y h = rw (le-ltb y n h) (go (ltb x n))
  where
    go : (t : Bool) → ◌≡◌ {A = ℕ} (pick t 0 0) 0
    go true = refl
    go false = refl

-- relations are the same if their cells below n are
pub within_same : (n : ℕ) (a b : Cells) → ((x y : ℕ) → x < n → y < n → a x y ≡ b x y) → within n a ≡ within n b
within_same n a b e = fun_ext (λ x. fun_ext (λ y. go x y (dec_lt x n) (dec_lt y n)))
  where
    go : (x y : ℕ) → Dec (x < n) → Dec (y < n) → within n a x y ≡ within n b x y
    go x y (yes h) (yes l) = within_in n a x y h l ∙ e x y h l ∙ sym (within_in n b x y h l)
    go x y (no h) l = within_row n a x y (omega arith) ∙ sym (within_row n b x y (omega arith))
    go x y (yes h) (no l) = within_column n a x y (omega arith) ∙ sym (within_column n b x y (omega arith))

-- a set of pairs below n is the same below n
pub within_set : (n : ℕ) (a : Cells) → IsSet n a → within n a ≡ a
within_set n a s = fun_ext (λ x. fun_ext (λ y. go x y (dec_lt x n) (dec_lt y n)))
  where
    go : (x y : ℕ) → Dec (x < n) → Dec (y < n) → within n a x y ≡ a x y
    go x y (yes h) (yes l) = within_in n a x y h l
    go x y (no h) l = within_row n a x y (omega arith) ∙ sym (s.row x y (omega arith))
    go x y (yes h) (no l) = within_column n a x y (omega arith) ∙ sym (s.column x y (omega arith))

-- ---- what the words hold is a set
pub row_bit : (ws : List ℕ) (b m y : ℕ) → row_of ws b m y < 2
unfolding row_of
row_bit ws b m y = omega (arith, digit_lt m (y / 64))

set_within : (n : ℕ) (a : Cells) → ((x y : ℕ) → a x y < 2) → IsSet n (within n a)
set_within n a b = record { bit = λ x y. go x y (dec_lt x n) (dec_lt y n); row = within_row n a; column = within_column n a }
  where
    go : (x y : ℕ) → Dec (x < n) → Dec (y < n) → within n a x y < 2
    go x y (yes h) (yes l) = rw (within_in n a x y h l) (b x y)
    go x y (no h) l = rw (within_row n a x y (omega arith)) (omega arith)
    go x y (yes h) (no l) = rw (within_column n a x y (omega arith)) (omega arith)

pub first_set : (n w : ℕ) (ws ms : List ℕ) → IsSet n (first n w ws ms)
first_set n w ws ms = set_within n (first_rows w ws ms) (λ x y. unfold first_rows in (row_bit ws (x * w) (get_or ms x 0) y))

-- ---- the relation after the first is the first of the part that begins after it
pub second_part : (n w : ℕ) (ws ms : List ℕ) → first n w (drop (n * w) ws) (drop n ms) ≡ second n w ws ms
unfolding first_rows second_rows row_of
second_part n w ws ms = ap (within n) (fun_ext (λ x. fun_ext (λ y. go x y)))
  where
    go : (x y : ℕ) → first_rows w (drop (n * w) ws) (drop n ms) x y ≡ second_rows n w ws ms x y
    go x y =
        let e : n * w + (x * w + y / 64) ≡ n * w + x * w + y / 64 = omega arith in
        ap₂ (λ (d v : ℕ). min (digit d (y / 64)) (digit v (y % 64)))
        (get_or-drop n ms x 0)
        (get_or-drop (n * w) ws (x * w + y / 64) 0 ∙ ap (λ (k : ℕ). get_or ws k 0) e)
