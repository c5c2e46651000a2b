-- Laws of pairs put into a relation: one pair, the pairs of link words, and the diagonal.
--   one_at, one_off, one_turned
--                   one pair as a set: its cell, every other, and the pair exchanged
--   pair_put, pair_outside
--                   its bit put into the rows; a pair that is not below n changes nothing
--   put_more, union-empty
--                   more pairs put in; none
--   none_left       with no mask set there is no pair
--   diagonal_none, diagonal_more, diagonal_skip
--                   the diagonal of the records below x: none, one more in use, one that is not
--   within_twice    cut to n twice is cut once
--   crossed_append  the pairs of link words, of one list after another
--   letter m v      the pair of the link word v, if its label is in the set m
--   crossed_one, letter_in, letter_out
--                   one link word: in both senses, its pair if its label is in the set, else none
--   put_none, crossed_next, crossed_start
--                   word by word: the first i + 1 words, none
--   zero_more       masks made empty, one after another
-- Assumes nothing.
use mathlib.Core.Path.{◌≡◌, refl, sym, ap, ap₂, ◌∙◌, fun_ext}
use mathlib.Core.Bool.{Bool, true, false, ◌||◌}
use mathlib.Core.Logic.{◌⊎◌, inl, inr}
use mathlib.Core.List.{List, [], ◌∷◌, ◌++◌, map, map-append}
use Prim.Native.Nat.{ℕ, ◌+◌, ◌*◌, ◌/◌, ◌%◌, ◌^◌, ◌≤◌, ◌<◌, min, max}
use native.Mathlib.Numerals.{add-one}
use native.Mathlib.Decide.{dec_lt, ℕ_discrete}
use native.Mathlib.Omega.{arith}
use lib.Dec.{eqb, ltb}
use lib.ListN.{length, get_or, set, take}
use lib.Seq.{get_or-set_same, get_or-set_other, take-suc}
use borrow.Author.Tests.{eq-eqb, ne_eqb, lt-ltb}
use Rattle.book.specs.Basics.{pick, bit, has}
use Rattle.k2.specs.Bits.{digit}
use Rattle.k2.specs.DigitLaws.{digit_pow, digit_none}
use Rattle.k2.specs.PairSets.{Cells, set_of, union, transpose, diagonal}
use Rattle.k2.specs.PairSetLaws.{set_past}
use Rattle.rows.specs.RowSets.{no_pairs, labelled, crossed_words}
use Rattle.links.specs.Parts.{link_pair}
use Rattle.rows.specs.RowLaws.{union_join, set_none}
use Rattle.grid.specs.Grid.{first_rows, within}
use Rattle.grid.specs.GridLaws.{within_in, within_row, within_column, within_same}
use Rattle.grid.specs.Steps.{word_at, one_pair, Merged}
use Rattle.grid.proofs.RowLaws.{row_same, row_empty, word_in, word_off}
use Rattle.grid.proofs.RelationLaws.{rows_apart, within_union}

-- ---- one pair
pub one_at : (x y : ℕ) → one_pair x y x y ≡ 1
unfolding one_pair
one_at x y = rw (eq-eqb x x refl, eq-eqb y y refl)

pub one_off : (x y u v : ℕ) → (u ≡ x → v ≡ y → ⊥) → one_pair x y u v ≡ 0
one_off x y u v n = go (ℕ_discrete u x) (ℕ_discrete v y)
  where
    go : Dec (u ≡ x) → Dec (v ≡ y) → one_pair x y u v ≡ 0
    go (no e) d = unfold one_pair in (rw (ne_eqb u x e))
    go (yes e) (no d) = unfold one_pair in (rw (eq-eqb u x e, ne_eqb v y d))
    go (yes e) (yes d) = absurd (n e d)

pub one_turned : (x y : ℕ) → transpose (one_pair x y) ≡ one_pair y x
unfolding transpose
one_turned x y = fun_ext (λ u. fun_ext (λ v. go u v (ℕ_discrete v x) (ℕ_discrete u y)))
  where
    go : (u v : ℕ) → Dec (v ≡ x) → Dec (u ≡ y) → one_pair x y v u ≡ one_pair y x u v
    go u v (yes e) (yes d) = rw (e, d) (one_at x y ∙ sym (one_at y x))
    go u v (no e) d = one_off x y v u (λ p q. e p) ∙ sym (one_off y x u v (λ p q. e q))
    go u v (yes e) (no d) = one_off x y v u (λ p q. d q) ∙ sym (one_off y x u v (λ p q. d p))

module _ (n w x y : ℕ) (ws ms ws' ms' : List ℕ) (nl : n ≤ w * 64) (xl : x < n)
    (yl : y < n) (M : Merged w x (x * w) (word_at (y / 64) (2 ^ (y % 64))) ws ms ws' ms') where
  other : (u v : ℕ) → v < w * 64 → (u ≡ x → ⊥) → Dec (u < x) → first_rows w ws' ms' u v ≡ first_rows w ws ms u v
  unfolding first_rows
  other u v l n (yes h) = row_same ws' ws (u * w) _ _ v (M.masks u n) (M.below (u * w + v / 64) (omega (arith, rows_apart u x w h)))
  other u v l n (no h) =
      row_same ws' ws (u * w) _ _ v (M.masks u n) (M.above (u * w + v / 64) (omega (arith, rows_apart x u w (omega (arith, n, h)))))

  word-at : word_at (y / 64) (2 ^ (y % 64)) y ≡ 1
  word-at = word_in (y / 64) (2 ^ (y % 64)) y refl ∙ digit_pow (y % 64) (y % 64) ∙ rw (eq-eqb (y % 64) (y % 64) refl)

  word_else : (v : ℕ) → (v ≡ y → ⊥) → word_at (y / 64) (2 ^ (y % 64)) v ≡ 0
  word_else v n = go (ℕ_discrete (v / 64) (y / 64))
    where
      go : Dec (v / 64 ≡ y / 64) → word_at (y / 64) (2 ^ (y % 64)) v ≡ 0
      go (yes e) =
          word_in (y / 64) (2 ^ (y % 64)) v e ∙ digit_pow (y % 64) (v % 64) ∙ rw (ne_eqb (v % 64) (y % 64) (λ q. n (omega arith)))
      go (no e) = word_off (y / 64) (2 ^ (y % 64)) v e

  cell : (u v : ℕ) → u < n → v < n → Dec (u ≡ x) → Dec (v ≡ y) → first_rows w ws' ms' u v ≡ union (first_rows w ws ms) (one_pair x y) u v
  unfolding union
  cell u v a b (no e) d = other u v (omega arith) e (dec_lt u x) ∙ sym (ap (max (first_rows w ws ms u v)) (one_off x y u v (λ p q. e p)) ∙ omega arith)
  cell u v a b (yes e) (yes d) =
      rw (e, d) (unfold first_rows in (M.row y (omega arith) ∙ ap₂ max refl (word-at ∙ sym (one_at x y))))
  cell u v a b (yes e) (no d) =
      rw e (unfold first_rows in (M.row v (omega arith) ∙ ap₂ max refl (word_else v d ∙ sym (one_off x y x v (λ p q. d q)))))

  pub pair_put : within n (first_rows w ws' ms') ≡ union (within n (first_rows w ws ms)) (within n (one_pair x y))
  pair_put =
      within_same n (first_rows w ws' ms') (union (first_rows w ws ms) (one_pair x y)) (λ u v a b. cell u v a b (ℕ_discrete u x) (ℕ_discrete v y))
      ∙ within_union n (first_rows w ws ms) (one_pair x y)

-- a pair that is not below n
pub pair_outside : (n x y : ℕ) (A : Cells) → (n ≤ x) ⊎ (n ≤ y) → A ≡ union A (within n (one_pair x y))
pair_outside n x y A o = fun_ext (λ u. fun_ext (λ v. sym (unfold union in (ap (max (A u v)) (go u v o (dec_lt u n) (dec_lt v n)) ∙ omega arith))))
  where
    go : (u v : ℕ) → (n ≤ x) ⊎ (n ≤ y) → Dec (u < n) → Dec (v < n) → within n (one_pair x y) u v ≡ 0
    go u v (inl h) (yes a) (yes b) = within_in n (one_pair x y) u v a b ∙ one_off x y u v (λ p q. absurd (omega arith))
    go u v (inr h) (yes a) (yes b) = within_in n (one_pair x y) u v a b ∙ one_off x y u v (λ p q. absurd (omega arith))
    go u v h (no a) b = within_row n (one_pair x y) u v (omega arith)
    go u v h (yes a) (no b) = within_column n (one_pair x y) u v (omega arith)

-- ---- more pairs
pub put_more : (n : ℕ) (A s t : Cells) → union (union A (within n s)) (within n t) ≡ union A (within n (union s t))
put_more n A s t = union_join A (within n s) (within n t) ∙ ap (union A) (sym (within_union n s t))

pub union-empty : (n : ℕ) (A s : Cells) → ((u v : ℕ) → s u v ≡ 0) → A ≡ union A (within n s)
union-empty n A s z = fun_ext (λ u. fun_ext (λ v. sym (unfold union in (ap (max (A u v)) (go u v (dec_lt u n) (dec_lt v n)) ∙ omega arith))))
  where
    go : (u v : ℕ) → Dec (u < n) → Dec (v < n) → within n s u v ≡ 0
    go u v (yes a) (yes b) = within_in n s u v a b ∙ z u v
    go u v (no a) b = within_row n s u v (omega arith)
    go u v (yes a) (no b) = within_column n s u v (omega arith)

-- ---- no pair
pub none_left : (n w : ℕ) (ws ms : List ℕ) → ((k : ℕ) → k < n → get_or ms k 0 ≡ 0) → within n (first_rows w ws ms) ≡ no_pairs
none_left n w ws ms z = fun_ext (λ u. fun_ext (λ v. unfold no_pairs in (go u v (dec_lt u n) (dec_lt v n))))
  where
    go : (u v : ℕ) → Dec (u < n) → Dec (v < n) → within n (first_rows w ws ms) u v ≡ 0
    go u v (yes a) (yes b) =
        within_in n (first_rows w ws ms) u v a b ∙ unfold first_rows in
        (row_empty ws (u * w) (get_or ms u 0) v (ap (λ (k : ℕ). digit k (v / 64)) (z u a) ∙ digit_none (v / 64)))
    go u v (no a) b = within_row n (first_rows w ws ms) u v (omega arith)
    go u v (yes a) (no b) = within_column n (first_rows w ws ms) u v (omega arith)

-- ---- the diagonal of the records below x
module _ (f : ℕ → ℕ) where
  diagonal_at : (u : ℕ) → f u < 2 → diagonal f u u ≡ f u
  unfolding diagonal
  diagonal_at u l = rw (eq-eqb u u refl) (omega arith)

  diagonal_off : (u v : ℕ) → (u ≡ v → ⊥) → diagonal f u v ≡ 0
  unfolding diagonal
  diagonal_off u v n = rw (ne_eqb u v n) (omega arith)

  pub diagonal_none : (u v : ℕ) → within 0 (diagonal f) u v ≡ 0
  diagonal_none u v = within_row 0 (diagonal f) u v (omega arith)

  diagonal_one : (x : ℕ) → f x ≡ 1 → within (x + 1) (diagonal f) x x ≡ 1
  diagonal_one x e = within_in (x + 1) (diagonal f) x x (omega arith) (omega arith) ∙ diagonal_at x (omega arith) ∙ e

  off_diagonal : (k u v : ℕ) → (u ≡ v → ⊥) → within k (diagonal f) u v ≡ 0
  off_diagonal k u v n = go (dec_lt u k) (dec_lt v k)
    where
      go : Dec (u < k) → Dec (v < k) → within k (diagonal f) u v ≡ 0
      go (yes a) (yes b) = within_in k (diagonal f) u v a b ∙ diagonal_off u v n
      go (no a) b = within_row k (diagonal f) u v (omega arith)
      go (yes a) (no b) = within_column k (diagonal f) u v (omega arith)

  diagonal_else : (x u v : ℕ) → (u ≡ x → v ≡ x → ⊥) → within x (diagonal f) u v ≡ within (x + 1) (diagonal f) u v
  diagonal_else x u v n = go (ℕ_discrete u v) (dec_lt u x)
    where
      go : Dec (u ≡ v) → Dec (u < x) → within x (diagonal f) u v ≡ within (x + 1) (diagonal f) u v
      go (no e) d = off_diagonal x u v e ∙ sym (off_diagonal (x + 1) u v e)
      go (yes e) (yes d) = within_in x (diagonal f) u v d (omega arith) ∙ sym (within_in (x + 1) (diagonal f) u v (omega arith) (omega arith))
      go (yes e) (no d) =
          let z : (u ≡ x → ⊥) = λ q. n q (sym e ∙ q) in
          within_row x (diagonal f) u v (omega arith) ∙ sym (within_row (x + 1) (diagonal f) u v (omega (arith, z, d)))

  -- a record that is in use
  pub diagonal_more : (x : ℕ) → f x ≡ 1 → union (within x (diagonal f)) (one_pair x x) ≡ within (x + 1) (diagonal f)
  unfolding union
  diagonal_more x e = fun_ext (λ u. fun_ext (λ v. go u v (ℕ_discrete u x) (ℕ_discrete v x)))
    where
      go : (u v : ℕ) → Dec (u ≡ x) → Dec (v ≡ x) → max (within x (diagonal f) u v) (one_pair x x u v) ≡ within (x + 1) (diagonal f) u v
      go u v (yes p) (yes q) = rw (p, q) (ap₂ max (within_row x (diagonal f) x x (omega arith)) (one_at x x) ∙ sym (diagonal_one x e))
      go u v (no p) q = ap (max (within x (diagonal f) u v)) (one_off x x u v (λ a b. p a)) ∙ omega (arith, diagonal_else x u v (λ a b. p a))
      go u v (yes p) (no q) = ap (max (within x (diagonal f) u v)) (one_off x x u v (λ a b. q b)) ∙ omega (arith, diagonal_else x u v (λ a b. q b))

  -- a record that is not in use
  pub diagonal_skip : (x : ℕ) → f x ≡ 0 → within x (diagonal f) ≡ within (x + 1) (diagonal f)
  diagonal_skip x e = fun_ext (λ u. fun_ext (λ v. go u v (ℕ_discrete u x) (ℕ_discrete v x)))
    where
      go : (u v : ℕ) → Dec (u ≡ x) → Dec (v ≡ x) → within x (diagonal f) u v ≡ within (x + 1) (diagonal f) u v
      go u v (yes p) (yes q) =
          within_row x (diagonal f) u v (omega arith)
          ∙ sym (rw (p, q) (within_in (x + 1) (diagonal f) x x (omega arith) (omega arith) ∙ diagonal_at x (omega (arith, e)) ∙ e))
      go u v (no p) q = diagonal_else x u v (λ a b. p a)
      go u v (yes p) (no q) = diagonal_else x u v (λ a b. q b)

pub within_twice : (n : ℕ) (a : Cells) → within n (within n a) ≡ within n a
within_twice n a = within_same n (within n a) a (λ x y h l. within_in n a x y h l)

-- ---- the pairs of link words, of one list after another
has_append : (w : ℕ) (ps qs : List ℕ) → has eqb w (ps ++ qs) ≡ (has eqb w ps || has eqb w qs)
unfolding has
has_append w [] qs = refl
has_append w (u ∷ ps) qs = go (eqb u w) (has_append w ps qs)
  where
    go : (b : Bool) → has eqb w (ps ++ qs) ≡ (has eqb w ps || has eqb w qs) → (b || has eqb w (ps ++ qs)) ≡ ((b || has eqb w ps) || has eqb w qs)
    go true e = refl
    go false e = e

set_append : (ps qs : List ℕ) → set_of (ps ++ qs) ≡ union (set_of ps) (set_of qs)
unfolding set_of union
set_append ps qs =
    fun_ext (λ x. fun_ext (λ y. rw (has_append (x * 1024 + y) ps qs) (go (bit (ltb y 1024)) (has eqb (x * 1024 + y) ps) (has eqb (x * 1024 + y) qs))))
  where
    go : (l : ℕ) (a b : Bool) → min l (bit (a || b)) ≡ max (min l (bit a)) (min l (bit b))
    go l true true = omega arith
    go l true false = omega arith
    go l false b = omega arith

-- the set of one pair word
set-one : (v : ℕ) → set_of (v ∷ []) ≡ one_pair (v / 1024) (v % 1024)
set-one v = fun_ext (λ x. fun_ext (λ y. go x y (ℕ_discrete (x * 1024 + y) v) (dec_lt y 1024)))
  where
    go : (x y : ℕ) → Dec (x * 1024 + y ≡ v) → Dec (y < 1024) → set_of (v ∷ []) x y ≡ one_pair (v / 1024) (v % 1024) x y
    go x y (yes e) (yes l) =
        let p : x ≡ v / 1024 = omega arith in
        let q : y ≡ v % 1024 = omega arith in
        let z : set_of (v ∷ []) x y ≡ 1 = unfold set_of has in (rw (lt-ltb y 1024 l, eq-eqb v (x * 1024 + y) (sym e))) in
        z ∙ sym (rw (← p, ← q) (one_at x y))
    go x y (no e) (yes l) =
        let z : set_of (v ∷ []) x y ≡ 0 = unfold set_of has in (rw (ne_eqb v (x * 1024 + y) (λ p. e (sym p))) (omega arith)) in
        z ∙ sym (one_off (v / 1024) (v % 1024) x y (λ p q. e (omega arith)))
    go x y d (no l) = set_past (v ∷ []) x y (omega arith) ∙ sym (one_off (v / 1024) (v % 1024) x y (λ p q. absurd (omega arith)))

labelled_append : (m : ℕ) (ws vs : List ℕ) → labelled m (ws ++ vs) ≡ labelled m ws ++ labelled m vs
unfolding labelled
labelled_append m [] vs = refl
labelled_append m (w ∷ ws) vs = go (eqb (digit m (w / 1048576)) 1) (labelled_append m ws vs)
  where
    go : (b : Bool) → labelled m (ws ++ vs) ≡ labelled m ws ++ labelled m vs
        → pick b (w ∷ labelled m (ws ++ vs)) (labelled m (ws ++ vs)) ≡ pick b (w ∷ labelled m ws) (labelled m ws) ++ labelled m vs
    go true e = ap (λ (l : List ℕ). w ∷ l) e
    go false e = e

letters_append : (m : ℕ) (ws vs : List ℕ)
    → set_of (map link_pair (labelled m (ws ++ vs))) ≡ union (set_of (map link_pair (labelled m ws))) (set_of (map link_pair (labelled m vs)))
letters_append m ws vs =
    ap (λ (l : List ℕ). set_of (map link_pair l)) (labelled_append m ws vs) ∙ ap set_of (map-append link_pair (labelled m ws) (labelled m vs))
    ∙ set_append (map link_pair (labelled m ws)) (map link_pair (labelled m vs))

pub crossed_append : (ws vs : List ℕ) (f a : ℕ) → crossed_words (ws ++ vs) f a ≡ union (crossed_words ws f a) (crossed_words vs f a)
unfolding crossed_words
crossed_append ws vs f a =
    ap₂ (λ (s t : Cells). union s (transpose t)) (letters_append f ws vs) (letters_append a ws vs) ∙ unfold union transpose in
    (fun_ext (λ x. fun_ext (λ y. omega arith)))

-- the pair of one link word, if its label is in the set
unfoldable pub letter : ℕ → ℕ → Cells
letter m v = pick (eqb (digit m (v / 1048576)) 1) (one_pair (link_pair v / 1024) (link_pair v % 1024)) no_pairs

letter_set : (m v : ℕ) → set_of (map link_pair (labelled m (v ∷ []))) ≡ letter m v
unfolding letter labelled
letter_set m v = go (eqb (digit m (v / 1048576)) 1)
  where
    go : (b : Bool) → set_of (map link_pair (pick b (v ∷ []) [])) ≡ pick b (one_pair (link_pair v / 1024) (link_pair v % 1024)) no_pairs
    go true = set-one (link_pair v)
    go false = set_none

pub crossed_one : (v f a : ℕ) → crossed_words (v ∷ []) f a ≡ union (letter f v) (transpose (letter a v))
unfolding crossed_words
crossed_one v f a = ap₂ (λ (s t : Cells). union s (transpose t)) (letter_set f v) (letter_set a v)

pub letter_in : (m v : ℕ) → eqb (digit m (v / 1048576)) 1 ≡ true → letter m v ≡ one_pair (link_pair v / 1024) (link_pair v % 1024)
unfolding letter
letter_in m v e = rw e

pub letter_out : (m v : ℕ) → eqb (digit m (v / 1048576)) 1 ≡ false → letter m v ≡ no_pairs
unfolding letter
letter_out m v e = rw e

pub put_none : (n : ℕ) (A : Cells) → A ≡ union A (within n no_pairs)
put_none n A = union-empty n A no_pairs (λ u v. unfold no_pairs in refl)

-- the first i + 1 words
pub crossed_next : (ws : List ℕ) (i f a : ℕ) → i < length ws
    → union (crossed_words (take i ws) f a) (crossed_words (get_or ws i 0 ∷ []) f a) ≡ crossed_words (take (i + 1) ws) f a
crossed_next ws i f a l =
    sym (ap (λ (k : ℕ). crossed_words (take k ws) f a) (add-one i) ∙ ap (λ (k : List ℕ). crossed_words k f a) (take-suc ws i 0 l)
    ∙ crossed_append (take i ws) (get_or ws i 0 ∷ []) f a)

pub crossed_start : (f a x y : ℕ) → crossed_words [] f a x y ≡ 0
unfolding crossed_words labelled union transpose set_of has
crossed_start f a x y = omega arith

-- ---- masks made empty, one after another
pub zero_more : (ms : List ℕ) (x : ℕ) → x < length ms → ((k : ℕ) → k < x → get_or ms k 0 ≡ 0) → (k : ℕ) → k < x + 1 → get_or (set ms x 0) k 0 ≡ 0
zero_more ms x l z k h = go (ℕ_discrete k x)
  where
    go : Dec (k ≡ x) → get_or (set ms x 0) k 0 ≡ 0
    go (yes e) = rw e (get_or-set_same ms x 0 0 l)
    go (no e) = get_or-set_other ms x k 0 0 e ∙ z k (omega (arith, e))
