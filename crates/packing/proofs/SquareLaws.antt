-- Laws of lists of squares.
--   squares_append, squares_push, squares_more
--                  the squares of two lists, one square more, and the first of a list
--   squares_none   none
--   squares_parted, all_parted
--                  a list parted: its squares, and what holds of each
--   root_squares, root_fits
--                  the list of one square, that of the whole tree
-- Assumes nothing.
use Rattle.std.proofs.Common.{◌≡◌, refl, sym, ap, subst, ◌∙◌, List, [], ◌∷◌, ◌++◌, ℕ, ◌+◌, ◌^◌, ◌≤◌, ◌<◌, length, get_or, take, take_at, drop_at, arith}
use Rattle.std.specs.List.{All}
use Rattle.std.proofs.lemmas.List.Elements.{All-take, All-drop}
use Rattle.std.proofs.lemmas.List.{take_more}
use Rattle.k2.specs.PairSets.{Cells, union}
use Rattle.rows.specs.RowLaws.{union_none, union_right, union_join}
use Rattle.packing.specs.declared.loading.Square.{Square}
use Rattle.packing.specs.Reading.{inside, squares_of, SquareIn}

pub squares_append : (h : ℕ) (l m : List Square) (t : Cells) → squares_of h (l ++ m) t ≡ union (squares_of h l t) (squares_of h m t)
unfolding squares_of
squares_append h [] m t = sym (union_none (squares_of h m t))
squares_append h (w ∷ l) m t =
    ap (union (inside h w.row w.column t)) (squares_append h l m t) ∙ sym (union_join (inside h w.row w.column t) (squares_of h l t) (squares_of h m t))

pub squares_push : (h : ℕ) (l : List Square) (w : Square) (t : Cells)
    → squares_of h (l ++ (w ∷ [])) t ≡ union (squares_of h l t) (inside h w.row w.column t)
unfolding squares_of
squares_push h l w t = squares_append h l (w ∷ []) t ∙ ap (union (squares_of h l t)) (union_right (inside h w.row w.column t))

pub squares_more : (h : ℕ) (l : List Square) (i : ℕ) (d : Square) (t : Cells) → i < length l
    → squares_of h (take (i + 1) l) t ≡ union (squares_of h (take i l) t) (inside h (get_or l i d).row (get_or l i d).column t)
squares_more h l i d t g = ap (λ (m : List Square). squares_of h m t) (take_more l i d g) ∙ squares_push h (take i l) (get_or l i d) t

pub squares_none : (h : ℕ) (l : List Square) (t a : Cells) → length l ≡ 0 → a ≡ union a (squares_of h l t)
unfolding squares_of
squares_none h [] t a e = sym (union_right a)
squares_none h (w ∷ l) t a e = absurd (omega (arith, e))

-- the squares of a list that is parted, and what holds of each
pub squares_parted : (h : ℕ) (l f r : List Square) (t a : Cells) → l ≡ f ++ r
    → union (union a (squares_of h f t)) (squares_of h r t) ≡ union a (squares_of h l t)
squares_parted h l f r t a e =
    union_join a (squares_of h f t) (squares_of h r t)
    ∙ ap (union a) (sym (squares_append h f r t) ∙ ap (λ (m : List Square). squares_of h m t) (sym e))

pub all_parted : (P : Square → Type 0) (l f r : List Square) → l ≡ f ++ r → All P l → All P f × All P r
all_parted P l f r e a =
    let b : All P (f ++ r) = subst (All P) e a in (
      subst (All P) (take_at f r (length f) refl) (All-take P (length f) (f ++ r) b),
      subst (All P) (drop_at f r (length f) refl) (All-drop P (length f) (f ++ r) b),
    )

pub root_squares : (h : ℕ) (w : Square) (t : Cells) → squares_of h (w ∷ []) t ≡ inside h w.row w.column t
unfolding squares_of
root_squares h w t = union_right (inside h w.row w.column t)

pub root_fits : (h : ℕ) → 2 ^ h ≤ 1024 → SquareIn h 0 0 0
root_fits h l = record {
  bit_of_four = omega arith;
  bit_most = omega arith;
  rows_in = omega (arith, l);
  columns_in = omega (arith, l);
  column_even =
      omega arith;
}
